use Rattle.std.proofs.Common.{◌∙◌, ℕ, ap, sym, slice_get}
use Rattle.mach_layout.specs.Fixups.{starts_fault}
use Rattle.mach_layout.specs.FixupViews.{data_view}
use Rattle.mach_layout.specs.Laid.{laid_of, segments_of}
use Rattle.mach_layout.proofs.Ahead.{next_ahead}
use Rattle.mach_layout.proofs.Numbers.{reported_none, reported_some}
use Rattle.mach_layout.proofs.fixups.starts.starts_faults.Goals as goal
use Rattle.mach_layout.proofs.fixups.starts.starts_faults.Goals.{in-Some+in_ok-push, in_default}

pub starts-preserved : goal.starts-preserved
starts-preserved g c =
    let segments = segments_of (laid_of c.args.layout.now) in
    let next = next_ahead segments c.starts.k c.next-segment.result _ _ c.starts.invariant.ahead c.next-segment.ensures.steps in
    let report = λ (k : ℕ). starts_fault (data_view c.args.chained.now) c.args.front.now c.text_address-text.result k (slice_get segments k) in
    let selected =
    ap (λ s. starts_fault (data_view c.args.chained.now) c.args.front.now c.text_address-text.result c.starts.k s) next.0 ∙ sym c.starts_fault.ensures in
    record {
      ahead = next.1;
      reported = elim c.match-starts_fault.branch [
        | in-Some+in_ok-push w ↦
            ap (λ v. v.items) w.faults-is ∙ reported_some report _ _ _ _ _ c.starts.invariant.reported (selected ∙ w.in-Some.is) w.in_ok-push.ensures.items
        | in_default w ↦ ap (λ v. v.items) w.faults-is ∙ reported_none report _ _ _ c.starts.invariant.reported (selected ∙ w.in_default.is)
      ];
    }
