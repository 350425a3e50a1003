-- The rows of sections, one by one.
use Rattle.std.proofs.Common.{◌≡◌, ◌<◌, ◌≤◌, ℕ, ◌+◌, ◌-◌, List, [], ◌∷◌, ◌++◌, length, map, drop, get_or, Result, refl, sym, ap, ◌∙◌, arith}
use Rattle.std.proofs.lemmas.List.{drop_more}
use Rattle.mach_base.specs.Fault.{Fault}
use Rattle.mach_base.specs.Items.{items_from}
use Rattle.mach_base.proofs.ItemLists.{items_from-first}
use Rattle.mach_parts.specs.Segment.{SegmentView, segment_view}
use Rattle.mach_parts.specs.declared.segment.Segment.{Segment}
use Rattle.machinfo.specs.SectionRows.{counted_on, section_row_at, section_rows_after, section_rows_from, section_rows_in, sections_begun}
use Rattle.machinfo.specs.declared.sections.SectionRow.{SectionRow}

rows_in_as_after : (before n : ℕ) (ss : List SegmentView) → section_rows_in before n ss ≡ section_rows_after before n 0 ss
rows_in_as_after before n [] = refl
rows_in_as_after before n (s ∷ ss) = refl

module _ (segments : List Segment) (i : ℕ) (d : Segment) (inside : i < length segments) (before : ℕ) where
  abbrev here : SegmentView
  here = segment_view (get_or segments i d)

  abbrev others : List SegmentView
  others = map segment_view (drop (i + 1) segments)

  abbrev later : List (Result SectionRow Fault)
  later = section_rows_in (counted_on before here.command.nsects) (i + 1) others

  opened : (k : ℕ) → section_rows_after before i k (map segment_view (drop i segments)) ≡ section_rows_from before i here k ++ later
  opened k = ap (λ (xs : List Segment). section_rows_after before i k (map segment_view xs)) (drop_more segments i d inside)

  pub next_row : (k : ℕ) → k < sections_begun here → section_rows_after before i k (map segment_view (drop i segments))
      ≡ section_row_at before i here k ∷ section_rows_after before i (k + 1) (map segment_view (drop i segments))
  next_row k few =
      opened k
      ∙ (ap (λ (items : List (Result SectionRow Fault)). items ++ later) (items_from-first (section_row_at before i here) k (sections_begun here) few)
      ∙ ap (λ (items : List (Result SectionRow Fault)). section_row_at before i here k ∷ items) (sym (opened (k + 1))))

  pub next_rows : (k : ℕ) → sections_begun here ≤ k → section_rows_after before i k (map segment_view (drop i segments))
      ≡ section_rows_after (counted_on before here.command.nsects) (i + 1) 0 others
  next_rows k past =
      let none : sections_begun here - k ≡ 0 = omega arith in
      opened k
      ∙ (ap (λ (count : ℕ). items_from (section_row_at before i here) k count ++ later) none
      ∙ rows_in_as_after (counted_on before here.command.nsects) (i + 1) others)
