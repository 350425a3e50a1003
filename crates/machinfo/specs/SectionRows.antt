-- The sections of all segments of an image, as rows.
use Rattle.std.specs.Prelude.{ℕ, ◌+◌, ◌-◌, ◌^◌, List, [], ◌∷◌, ◌++◌, drop, length, map, min, sum_by, Result, Ok}
use Rattle.mach_base.specs.declared.error.Error.{Error}
use Rattle.mach_base.specs.Answer.{◌>>=◌}
use Rattle.mach_base.specs.Fault.{Fault}
use Rattle.mach_base.specs.Items.{items_from, items_in_bounds, read_as}
use Rattle.mach_parts.specs.SectionRecord.{numbered_section}
use Rattle.mach_parts.specs.Segment.{SegmentView, sections_of, segment_view}
use Rattle.machinfo.specs.Segments.{sections_past_the_end}
use Rattle.machinfo.specs.declared.sections.CountedSections.{CountedSections}
use Rattle.machinfo.specs.declared.sections.SectionRow.{SectionRow}

-- so many more, at most the last number of 64 bits
abbrev pub counted_on : (before more : ℕ) → ℕ
counted_on before more = min (before + more) (2 ^ 64 - 1)

-- how many sections of a segment have a record that begins within the bytes
abbrev pub sections_begun : SegmentView → ℕ
sections_begun s = length (items_in_bounds (sections_of s))

-- how many sections of segments are claimed past the end of the bytes
abbrev pub sections_past : List SegmentView → ℕ
sections_past segments = min (sum_by sections_past_the_end segments) (2 ^ 64 - 1)

-- Section k of the segment with number n, or the reason why there is none. The segments before it claim `before` sections. The
-- sections of all segments are counted from 1 (`mach-o/nlist.h`, n_sect).
abbrev pub section_row_at : (before n : ℕ) → SegmentView → ℕ → Result SectionRow Fault
section_row_at before n s k = numbered_section n s k >>= (λ found. Ok (record { number = counted_on before (k + 1); section = found }))

-- the sections of such a segment from number k on
abbrev pub section_rows_from : (before n : ℕ) → SegmentView → ℕ → List (Result SectionRow Fault)
section_rows_from before n s k = items_from (section_row_at before n s) k (sections_begun s - k)

-- the sections of some segments, the first of which has number n
abbrev pub section_rows_in : (before n : ℕ) → List SegmentView → List (Result SectionRow Fault)
section_rows_in before n [] = []
section_rows_in before n (s ∷ ss) = section_rows_from before n s 0 ++ section_rows_in (counted_on before s.command.nsects) (n + 1) ss

-- ---- what the code's values mean

-- the same, but for the first k sections of the first segment
abbrev pub section_rows_after : (before n k : ℕ) → List SegmentView → List (Result SectionRow Fault)
section_rows_after before n k [] = []
section_rows_after before n k (s ∷ ss) = section_rows_from before n s k ++ section_rows_in (counted_on before s.command.nsects) (n + 1) ss

abbrev pub section_row_read : Result SectionRow Error → Result SectionRow Fault
section_row_read item = read_as (λ row. row) item

abbrev pub sections_counted_left : CountedSections → List (Result SectionRow Fault)
sections_counted_left it = section_rows_after it.before it.segment it.taken (map segment_view (drop it.segment it.segments.now))
