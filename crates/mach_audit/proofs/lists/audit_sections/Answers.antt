use Rattle.std.proofs.Common.{◌≡◌, ℕ, List, Option, ◌+◌, ◌-◌, ◌^◌, ap, arith, drop, length, map, min, subst, sym, take, take_all}
use Rattle.std.proofs.lemmas.List.{at_drop_all}
use Rattle.mach_base.specs.Items.{items_in_bounds}
use Rattle.mach_parts.specs.SectionItems.{sections_left}
use Rattle.mach_parts.specs.Segment.{SegmentView, segment_view, sections_of}
use Rattle.mach_audit.proofs.Goes.{one_part_more, next_number, one_past_more, past_over}
use Rattle.mach_audit.specs.Reported.{FaultAt, HasMet, faults_from, more_than, section_faults_reported, sections_beyond}
use Rattle.mach_audit.specs.declared.report.ItemList.TheVariants as lists
use Rattle.mach_audit.proofs.lists.audit_sections.Goals as goal

abbrev past_of : SegmentView → ℕ
past_of s = more_than (items_in_bounds (sections_of s)) (sections_of s)

pub loop-segment-preserved : goal.loop-segment-preserved
loop-segment-preserved g c =
    let segments = c.args.segments.now in
    let i = c.loop-segment.segment-index in
    let before = c.loop-segment.invariant in
    let part : ℕ → SegmentView → List (Option FaultAt) = λ n s. faults_from (lists.Sections n) 0 (items_in_bounds (sections_of s)) in
    let added = c.in_ok-add_list.ensures.reported c.args.limit (section_faults_reported (map segment_view (take i segments))) before.0 in
    let here = rw (c.in_bounds-in_bounds.ensures, c.into_iter-sections.ensures.into_iter_gives, before.1) at added in
    let left = sections_left c.into_iter-sections.result in
    let counted : c.saturating_add-past.result ≡ min (c.loop-segment.past + more_than (items_in_bounds left) left) (2 ^ 64 - 1) =
    omega (
      arith,
      c.saturating_add-past.ensures,
      c.saturating_sub.ensures,
      c.len.ensures.value,
      c.len-in-loop-segment.ensures.value,
      ap length c.in_bounds-in_bounds.ensures,
    ) in (
      subst (λ (xs : List (Option FaultAt)). HasMet c.args.limit xs c.add_list.new.tally)
          (sym (one_part_more segment_view part segments i _ c.loop-segment-test.true)) here,
      rw before.1 at (next_number c.loop-segment.number c.saturating_add-number.result
          (omega (arith, before.1, c.loop-segment-test.true)) c.saturating_add-number.ensures),
      one_past_more segment_view past_of segments i _ c.loop-segment.past c.saturating_add-past.result _ c.loop-segment-test.true
          (rw c.into_iter-sections.ensures.into_iter_gives at counted) before.2,
      omega (arith, c.saturating_add-past.type_inv),
    )

pub returns : goal.returns
returns g c = record {
  reported =
      let segments = c.args.segments.now in
      let i = c.loop-segment.segment-index in
      let before = c.loop-segment.invariant in
      let none = at_drop_all (map segment_view) segments i (omega (arith, c.loop-segment-test.false)) in record {
        in_bounds = rw c.part-in_bounds.ensures (rw (take_all i segments (omega (arith, c.loop-segment-test.false))) at before.0.reports);
        past = past_over past_of (map segment_view (drop i segments)) c.loop-segment.past (sections_beyond (map segment_view segments)) none before.3 before.2;
      };
}
