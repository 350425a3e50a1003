-- Notes, each once.
use Rattle.std.proofs.Common.{◌≡◌, ◌∙◌, ◌+◌, ◌<◌, ◌||◌, ℕ, Bool, true, false, List, [], ◌∷◌, ◌++◌, Bor, length, map, drop, get_or, refl, sym, ap}
use Rattle.std.specs.Prelude.{if◌then◌else◌}
use Rattle.std.specs.List.{list_any}
use Rattle.std.proofs.lemmas.List.{map_push, at_drop_more}
use Rattle.mach_resolve.specs.Note as note
use Rattle.mach_resolve.specs.Note.{is_same_note, noted, all_noted}
use Rattle.mach_resolve.specs.ResolveViews.{note_view_of}
use Rattle.mach_resolve.specs.declared.note.Note.{Note}
use Rattle.mach_resolve.specs.declared.note.Note.TheVariants.{GivenBefore, NothingFor}

-- what holds of both forms of notes holds of all notes
pub cases_notes : (P : Note → Note → Type 0) → ((i j : ℕ) (x y : Bor (List ℕ)) → P (GivenBefore i x) (GivenBefore j y))
    → ((i j : ℕ) (x : Bor (List ℕ)) (c : ℕ) → P (GivenBefore i x) (NothingFor j c))
    → ((i j : ℕ) (c : ℕ) (y : Bor (List ℕ)) → P (NothingFor i c) (GivenBefore j y))
    → ((i j c d : ℕ) → P (NothingFor i c) (NothingFor j d)) → (a b : Note) → P a b
cases_notes P one two three four (GivenBefore i x) (GivenBefore j y) = one i j x y
cases_notes P one two three four (GivenBefore i x) (NothingFor j c) = two i j x c
cases_notes P one two three four (NothingFor i c) (GivenBefore j y) = three i j c y
cases_notes P one two three four (NothingFor i c) (NothingFor j d) = four i j c d

-- notes are equal exactly if their views are equal
abbrev pub IsEquality : (Note → Note → Bool) → Type 0
IsEquality E = (a b : Note) → E a b ≡ is_same_note (note_view_of a) (note_view_of b)

among_seen : (E : Note → Note → Bool) → IsEquality E → (n : Note) (ns : List Note)
    → list_any (E n) ns ≡ list_any (is_same_note (note_view_of n)) (map note_view_of ns)
among_seen E same n [] = refl
among_seen E same n (x ∷ ns) =
    ap (λ (b : Bool). b || list_any (E n) ns) (same n x) ∙ ap (λ (b : Bool). is_same_note (note_view_of n) (note_view_of x) || b) (among_seen E same n ns)

noted_by : (b : Bool) (n : Note) (ns : List Note)
    → map note_view_of (if b then ns else ns ++ n ∷ []) ≡ (if b then map note_view_of ns else map note_view_of ns ++ note_view_of n ∷ [])
noted_by true n ns = refl
noted_by false n ns = map_push note_view_of ns n

noted_seen : (E : Note → Note → Bool) → IsEquality E → (n : Note) (ns : List Note)
    → map note_view_of (if list_any (E n) ns then ns else ns ++ n ∷ []) ≡ noted (map note_view_of ns) (note_view_of n)
noted_seen E same n ns =
    noted_by (list_any (E n) ns) n ns
    ∙ ap (λ (b : Bool). if b then map note_view_of ns else map note_view_of ns ++ note_view_of n ∷ []) (among_seen E same n ns)

-- one more of some notes was added
pub noted_more : {E : Note → Note → Bool} (olds news notes : List Note) (i : ℕ) (d : Note) (all : List note.Note) → i < length notes
    → news ≡ (if list_any (E (get_or notes i d)) olds then olds else olds ++ get_or notes i d ∷ []) → IsEquality E
    → all_noted (map note_view_of olds) (map note_view_of (drop i notes)) ≡ all
    → all_noted (map note_view_of news) (map note_view_of (drop (i + 1) notes)) ≡ all
noted_more {E} olds news notes i d all inside are same so_far =
    let n = get_or notes i d in
    ap (λ (ns : List note.Note). all_noted ns (map note_view_of (drop (i + 1) notes))) (ap (map note_view_of) are ∙ noted_seen E same n olds)
    ∙ (sym (at_drop_more (λ (xs : List Note). all_noted (map note_view_of olds) (map note_view_of xs)) notes i d inside) ∙ so_far)
