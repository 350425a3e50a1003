-- Findings that are added to a list, one after the other.
use Rattle.std.proofs.Common.{◌≡◌, ◌∙◌, ◌++◌, List, [], ap, map, sym}
use Rattle.std.proofs.lemmas.List.{append-nil, append_assoc, map-append}
use Rattle.mach_audit.specs.declared.findings.FileFinding.{FileFinding}
use Rattle.mach_audit.specs.declared.findings.FindingPlace.{FindingPlace}
use Rattle.mach_audit.specs.Findings.{AddsFindings, FindingView, FoundView, finding_view, found_there}

-- first these, and then those
pub adds_both : (a b c : List FileFinding) (x y : List FindingView) → AddsFindings a b x → AddsFindings b c y → AddsFindings a c (x ++ y)
adds_both a b c x y first then =
    then ∙ (ap (λ (v : List FindingView). v ++ y) first ∙ append_assoc (map finding_view a) x y)

pub adds_more : (at : FindingPlace) (a b c : List FileFinding) (x y : List FoundView) → AddsFindings a b (found_there at x)
    → AddsFindings b c (found_there at y) → AddsFindings a c (found_there at (x ++ y))
adds_more at a b c x y first then =
    adds_both a b c (found_there at x) (found_there at y) first then
    ∙ ap (λ (v : List FindingView). map finding_view a ++ v) (sym (map-append (λ (f : FoundView). (at, f)) x y))

-- of all that is to be added to a list, this is left
abbrev pub LeavesToAdd : (old out : List FileFinding) → (rest all : List FindingView) → Type 0
LeavesToAdd old out rest all = map finding_view out ++ rest ≡ map finding_view old ++ all

pub one_more_added : (old out new : List FileFinding) (before one rest all : List FindingView) → AddsFindings out new one → before ≡ one ++ rest
    → LeavesToAdd old out before all → LeavesToAdd old new rest all
one_more_added old out new before one rest all added splits left =
    ap (λ (v : List FindingView). v ++ rest) added
    ∙ (append_assoc (map finding_view out) one rest ∙ (ap (λ (v : List FindingView). map finding_view out ++ v) (sym splits) ∙ left))

pub all_added : (old out : List FileFinding) (rest all : List FindingView) → rest ≡ [] → LeavesToAdd old out rest all → AddsFindings old out all
all_added old out rest all none left =
    sym (append-nil (map finding_view out)) ∙ (ap (λ (v : List FindingView). map finding_view out ++ v) (sym none) ∙ left)
