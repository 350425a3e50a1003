-- The sections of an image's segments, one by one.
use Rattle.std.proofs.Common.{◌≡◌, ◌<◌, ◌≤◌, ℕ, zero, suc, ◌+◌, ◌-◌, List, [], ◌∷◌, ◌++◌, length, map, drop, get_or}
use Rattle.std.proofs.Common.{Some, None, Result, Ok, Err, refl, sym, ap, ◌∙◌, arith}
use Rattle.std.proofs.lemmas.List.{drop_all, drop_more}
use Rattle.std.specs.Prelude.{MatchOption, slice_get}
use Rattle.std.specs.Result.{result_ok}
use Rattle.mach_base.specs.Answer.{Reads}
use Rattle.mach_base.specs.Fault.{Fault}
use Rattle.mach_base.specs.declared.error.Error.{Error}
use Rattle.mach_base.specs.Items.{items_from}
use Rattle.mach_base.proofs.ItemLists.{items_from-first, length-items_from, slice_get-items}
use Rattle.mach_parts.specs.NumberedLeft.{numbered_after, readable_after}
use Rattle.mach_parts.specs.SectionRecord.{held_from, in_front, numbered_section, numbered_from, numbered_in, readable_in, sections_held}
use Rattle.mach_parts.specs.Segment.{SegmentView, segment_view}
use Rattle.mach_parts.specs.declared.segment.Segment.{Segment}
use Rattle.mach_parts.specs.declared.segment.numbered.NumberedSection.{NumberedSection}

-- an item of two joined lists is one of the first or one of the second
get_in_front : {A : Type 0} (xs ys : List A) (k : ℕ) → k < length xs → slice_get (xs ++ ys) k ≡ slice_get xs k
get_in_front [] ys k inside = absurd (omega (arith, inside))
get_in_front (x ∷ xs) ys zero inside = refl
get_in_front (x ∷ xs) ys (suc k) inside = get_in_front xs ys k (omega (arith, inside))

get_after : {A : Type 0} (xs ys : List A) (k : ℕ) → length xs ≤ k → slice_get (xs ++ ys) k ≡ slice_get ys (k - length xs)
get_after [] ys k past = ap (λ (n : ℕ). slice_get ys n) (omega arith)
get_after (x ∷ xs) ys zero past = absurd (omega (arith, past))
get_after (x ∷ xs) ys (suc k) past = get_after xs ys k (omega (arith, past)) ∙ ap (λ (n : ℕ). slice_get ys n) (omega arith)

-- after the last section of a segment there is none
none_from : (n : ℕ) (s : SegmentView) (k : ℕ) → s.command.nsects ≤ k → numbered_from n s k ≡ []
none_from n s k past =
    let none : s.command.nsects - k ≡ 0 = omega arith in
    ap (λ (count : ℕ). items_from (numbered_section n s) k count) none

-- the sections of some segments are those of the first, followed by those of the others
in_as_after : (n : ℕ) (ss : List SegmentView) → numbered_in n ss ≡ numbered_after n 0 ss
in_as_after n [] = refl
in_as_after n (s ∷ ss) = refl

readable_as_after : (n : ℕ) (ss : List SegmentView) → readable_in n ss ≡ readable_after n 0 ss
readable_as_after n [] = refl
readable_as_after n (s ∷ ss) = refl

module _ (segments : List Segment) (i : ℕ) (d : Segment) (inside : i < length segments) where
  abbrev here : SegmentView
  here = segment_view (get_or segments i d)

  abbrev rest : List SegmentView
  rest = map segment_view (drop i segments)

  abbrev others : List SegmentView
  others = map segment_view (drop (i + 1) segments)

  opened : (k : ℕ) → numbered_after i k rest ≡ numbered_from i here k ++ numbered_in (i + 1) others
  opened k = ap (λ (xs : List Segment). numbered_after i k (map segment_view xs)) (drop_more segments i d inside)

  readable_opened : (k : ℕ) → readable_after i k rest ≡ in_front (held_from i here k) ++ readable_in (i + 1) others
  readable_opened k = ap (λ (xs : List Segment). readable_after i k (map segment_view xs)) (drop_more segments i d inside)

  pub next_section : (k : ℕ) → k < here.command.nsects → numbered_after i k rest ≡ numbered_section i here k ∷ numbered_after i (k + 1) rest
  next_section k few =
      opened k
      ∙ (ap (λ (items : List (Result NumberedSection Fault)). items ++ numbered_in (i + 1) others)
      (items_from-first (numbered_section i here) k here.command.nsects few)
      ∙ ap (λ (items : List (Result NumberedSection Fault)). numbered_section i here k ∷ items) (sym (opened (k + 1))))

  pub next_segment : (k : ℕ) → here.command.nsects ≤ k → numbered_after i k rest ≡ numbered_after (i + 1) 0 others
  next_segment k past =
      opened k
      ∙ (ap (λ (items : List (Result NumberedSection Fault)). items ++ numbered_in (i + 1) others) (none_from i here k past)
      ∙ in_as_after (i + 1) others)

  pub next_readable : (k : ℕ) (found : NumberedSection) → in_front (held_from i here k) ≡ found ∷ in_front (held_from i here (k + 1))
      → readable_after i k rest ≡ found ∷ readable_after i (k + 1) rest
  next_readable k found first =
      readable_opened k
      ∙ (ap (λ (items : List NumberedSection). items ++ readable_in (i + 1) others) first
      ∙ ap (λ (items : List NumberedSection). found ∷ items) (sym (readable_opened (k + 1))))

  pub next_readable_segment : (k : ℕ) → in_front (held_from i here k) ≡ [] → readable_after i k rest ≡ readable_after (i + 1) 0 others
  next_readable_segment k none =
      readable_opened k
      ∙ (ap (λ (items : List NumberedSection). items ++ readable_in (i + 1) others) none ∙ readable_as_after (i + 1) others)

  of_all : numbered_in i rest ≡ numbered_from i here 0 ++ numbered_in (i + 1) others
  of_all = ap (λ (xs : List Segment). numbered_in i (map segment_view xs)) (drop_more segments i d inside)

  -- a number within the first segment's count names one of its sections
  pub found_here : (k : ℕ) → k < here.command.nsects → slice_get (numbered_in i rest) k ≡ Some (numbered_section i here k)
  found_here k few =
      ap (λ (items : List (Result NumberedSection Fault)). slice_get items k) of_all
      ∙ (get_in_front (numbered_from i here 0) (numbered_in (i + 1) others) k
      (omega (arith, few, length-items_from (numbered_section i here) 0 (here.command.nsects - 0)))
      ∙ (ap (λ (count : ℕ). slice_get (items_from (numbered_section i here) 0 count) k) (omega arith)
      ∙ slice_get-items (numbered_section i here) here.command.nsects k few))

  -- a higher number names a section of the others
  pub found_later : (k : ℕ) → here.command.nsects ≤ k
      → slice_get (numbered_in i rest) k ≡ slice_get (numbered_in (i + 1) others) (k - here.command.nsects)
  found_later k past =
      let count : length (numbered_from i here 0) ≡ here.command.nsects =
      omega (arith, length-items_from (numbered_section i here) 0 (here.command.nsects - 0)) in
      ap (λ (items : List (Result NumberedSection Fault)). slice_get items k) of_all
      ∙ (get_after (numbered_from i here 0) (numbered_in (i + 1) others) k (omega (arith, past, count))
      ∙ ap (λ (n : ℕ). slice_get (numbered_in (i + 1) others) (k - n)) count)

pub found_none : (segments : List Segment) (i k : ℕ) → length segments ≤ i → slice_get (numbered_in i (map segment_view (drop i segments))) k ≡ None
found_none segments i k past = ap (λ (xs : List Segment). slice_get (numbered_in i (map segment_view xs)) k) (drop_all i segments past)

-- after the last segment nothing is left
pub nothing_after : (segments : List Segment) (i k : ℕ) → length segments ≤ i → numbered_after i k (map segment_view (drop i segments)) ≡ []
nothing_after segments i k past = ap (λ (xs : List Segment). numbered_after i k (map segment_view xs)) (drop_all i segments past)

pub nothing_readable : (segments : List Segment) (i k : ℕ) → length segments ≤ i → readable_after i k (map segment_view (drop i segments)) ≡ []
nothing_readable segments i k past = ap (λ (xs : List Segment). readable_after i k (map segment_view xs)) (drop_all i segments past)

-- the result of reading the next section says whether it is there
module _ (n : ℕ) (s : SegmentView) (k : ℕ) where
  from_here : k < sections_held s
      → in_front (held_from n s k) ≡ in_front (numbered_section n s k ∷ held_from n s (k + 1))
  from_here few = ap (λ (items : List (Result NumberedSection Fault)). in_front items) (items_from-first (numbered_section n s) k (sections_held s) few)

  pub taken_or_over : (answer : Result NumberedSection Error) → k < sections_held s → Reads (λ x. x) answer (numbered_section n s k)
      → MatchOption (result_ok answer) (in_front (held_from n s k) ≡ [])
      (λ found. in_front (held_from n s k) ≡ found ∷ in_front (held_from n s (k + 1)))
  taken_or_over (Ok found) few reads = from_here few ∙ rw reads refl
  taken_or_over (Err e) few reads = from_here few ∙ rw reads refl

  pub over : sections_held s ≤ k → in_front (held_from n s k) ≡ []
  over past =
      let none : sections_held s - k ≡ 0 = omega arith in
      ap (λ (count : ℕ). in_front (items_from (numbered_section n s) k count)) none
