-- Sections, no more of which are kept than a symbol can name.
use Rattle.std.proofs.Common.{◌≡◌, ◌++◌, ◌∷◌, [], ◌∙◌, ℕ, ◌+◌, zero, suc, ◌≤◌, ◌<◌, List, Option, length, take, drop, get_or, refl, sym, ap, map, arith}
use Rattle.std.proofs.lemmas.List.{append_assoc, take_all, take-append-le, map-append, at_drop_more}
use Rattle.std.specs.List.{flat_map}
use Rattle.mach_parts.specs.Segment.{segment_view, sections_of}
use Rattle.mach_parts.specs.declared.segment.Segment.{Segment}
use Rattle.mach_parts.specs.declared.segment.section.Section.{Section}
use Rattle.machsyms.specs.Letters.{item_section}

-- taking n again after appending to the first n
pub take-take_append : {A : Type 0} (n : ℕ) (xs ys : List A) → take n (take n xs ++ ys) ≡ take n (xs ++ ys)
take-take_append zero xs ys = refl
take-take_append (suc n) [] ys = refl
take-take_append (suc n) (x ∷ xs) ys = ap (λ rest. x ∷ rest) (take-take_append n xs ys)

pub length-take-bound : {A : Type 0} (n : ℕ) (xs : List A) → length (take n xs) ≤ n
length-take-bound zero xs = omega arith
length-take-bound (suc n) [] = omega arith
length-take-bound (suc n) (x ∷ xs) = omega (arith, length-take-bound n xs)

-- nothing is added to a full list
pub take-full : {A : Type 0} (n : ℕ) (xs ys : List A) → length xs ≤ n → n ≤ length xs → take n (xs ++ ys) ≡ xs
take-full n xs ys few full = take-append-le n xs ys full ∙ take_all n xs few

-- some sections, and then those of the segments that are left
abbrev pub sections_with : List (Option Section) → List Segment → List (Option Section)
sections_with front left = take 255 (front ++ map item_section (flat_map sections_of (map segment_view left)))

-- the sections of one more segment
pub sections-more : (segments : List Segment) (i : ℕ) (d : Segment) (old new : List (Option Section)) → i < length segments
    → new ≡ take 255 (old ++ map item_section (sections_of (segment_view (get_or segments i d))))
    → sections_with new (drop (i + 1) segments) ≡ sections_with old (drop i segments)
sections-more segments i d old new inside is =
    let one = sections_of (segment_view (get_or segments i d)) in
    let rest = flat_map sections_of (map segment_view (drop (i + 1) segments)) in
    ap (λ front. take 255 (front ++ map item_section rest)) is
    ∙ take-take_append 255 (old ++ map item_section one) (map item_section rest)
    ∙ ap (λ all. take 255 all) (append_assoc old (map item_section one) (map item_section rest)
    ∙ ap (λ more. old ++ more) (sym (map-append item_section one rest)))
    ∙ sym (at_drop_more (λ left. sections_with old left) segments i d inside)
