use Rattle.std.proofs.Common.{◌≡◌, ℕ, List, Option, ◌+◌, ◌-◌, ◌^◌, arith, drop, map, min, subst, sym, take, take_all}
use Rattle.std.proofs.lemmas.List.{at_drop_all}
use Rattle.std.specs.List.{sum_by}
use Rattle.mach_parts.specs.SectionItems.{sections_left}
use Rattle.mach_parts.specs.Segment.{SegmentView, segment_view, sections_of}
use Rattle.mach_audit.proofs.Goes.{one_part_more, next_number, one_past_more, past_over}
use Rattle.mach_audit.specs.Reported.{FaultAt, HasMet, relocations_in_bounds, relocation_faults, relocation_faults_by, relocations_past, relocations_past_of}
use Rattle.mach_audit.proofs.lists.audit_relocations.Goals as goal

pub loop-segment-preserved : goal.loop-segment-preserved
loop-segment-preserved g c =
    let segments = c.args.segments.now in
    let i = c.loop-segment.segment-index in
    let before = c.loop-segment.invariant in
    let ctx = c.args.ctx in
    let bytes = c.args.bytes.now in
    let part : ℕ → SegmentView → List (Option FaultAt) = λ n s. relocation_faults_by (relocations_in_bounds ctx bytes) n (sections_of s) in
    let past : SegmentView → ℕ = λ s. sum_by (relocations_past_of ctx bytes) (sections_of s) in
    let met = relocation_faults ctx bytes (map segment_view (take i segments)) in
    let added = c.in_ok-add_relocations.ensures.reported c.args.limit met before.0 in
    let here = rw (c.into_iter-in-loop-segment.ensures.into_iter_gives, before.1) at added in
    let counted : c.saturating_add-past.result
    ≡ min (c.loop-segment.past + sum_by (relocations_past_of ctx bytes) (sections_left c.into_iter.result)) (2 ^ 64 - 1) =
    omega (arith, c.saturating_add-past.ensures, c.relocations_past.ensures) in (
      subst (λ (xs : List (Option FaultAt)). HasMet c.args.limit xs c.add_relocations.new.tally)
          (sym (one_part_more segment_view part segments i _ c.loop-segment-test.true)) here,
      rw before.1 at (next_number c.loop-segment.number c.saturating_add-number.result
          (omega (arith, before.1, c.loop-segment-test.true)) c.saturating_add-number.ensures),
      one_past_more segment_view past segments i _ c.loop-segment.past c.saturating_add-past.result _ c.loop-segment-test.true
          (rw c.into_iter.ensures.into_iter_gives at counted) before.2,
      omega (arith, c.saturating_add-past.type_inv),
    )

pub returns : goal.returns
returns g c = record {
  reported =
      let segments = c.args.segments.now in
      let i = c.loop-segment.segment-index in
      let before = c.loop-segment.invariant in
      let past : SegmentView → ℕ = λ s. sum_by (relocations_past_of c.args.ctx c.args.bytes.now) (sections_of s) in
      let all = relocations_past c.args.ctx c.args.bytes.now (map segment_view segments) in
      let none = at_drop_all (map segment_view) segments i (omega (arith, c.loop-segment-test.false)) in record {
        in_bounds = rw c.part-in_bounds.ensures (rw (take_all i segments (omega (arith, c.loop-segment-test.false))) at before.0.reports);
        past = past_over past (map segment_view (drop i segments)) c.loop-segment.past all none before.3 before.2;
      };
}
