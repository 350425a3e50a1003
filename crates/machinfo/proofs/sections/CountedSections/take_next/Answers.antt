use Rattle.std.proofs.Common.{◌+◌, ◌-◌, ◌^◌, ◌<◌, ◌≤◌, ◌∷◌, ◌∙◌, ap, drop, map, min, subst, sym}
use Rattle.mach_base.proofs.ItemLists.{read_as-Reads}
use Rattle.mach_parts.specs.Segment.{segment_view}
use Rattle.machinfo.specs.SectionRows.{section_rows_after, sections_counted_left}
use Rattle.machinfo.proofs.SectionRows.{next_row, next_rows}
use Rattle.machinfo.proofs.sections.CountedSections.take_next.Goals as goal

pub returns-then-self-begun : goal.returns-then-self-begun
returns-then-self-begun c =
    let it = c.segments.self in
    c.segments.invariant
    ∙ (next_row it.segments.now it.segment _ c.if-self.false it.before it.taken (subst (λ n. it.taken < n) c.begun.ensures c.if-self-begun.true)
    ∙ ap (λ row. row ∷ sections_counted_left (record { segments = it.segments; segment = it.segment; taken = it.taken + 1; before = it.before }))
    (sym (read_as-Reads _ c.row_at-row.result _ c.row_at-row.ensures)))

pub segments-preserved : goal.segments-preserved
segments-preserved c =
    let it = c.segments.self in
    c.segments.invariant
    ∙ (next_rows it.segments.now it.segment _ c.if-self.false it.before it.taken (subst (λ n. n ≤ it.taken) c.begun.ensures c.if-self-begun.false)
    ∙ ap (λ before. section_rows_after before (it.segment + 1) 0 (map segment_view (drop (it.segment + 1) it.segments.now)))
    (sym (c.saturating_add-self.ensures ∙ ap (λ more. min (it.before + more) (2 ^ 64 - 1)) c.from.ensures)))
