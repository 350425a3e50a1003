use Rattle.std.proofs.Common.{◌≡◌, ◌++◌, drop, length}
use Rattle.std.specs.Prelude.{filter_map}
use Rattle.mach_layout.specs.Rules.{reported, reported_over}
use Rattle.mach_layout.proofs.rules.report_over.Given as goal

abbrev pub decreases-items : goal.decreases-items
decreases-items g l = length (g.I.Items.left l.left)

abbrev pub invariant-items : goal.invariant-items
invariant-items g l =
    let reports = filter_map (λ x. reported l.rule (g.J.Judges.owner l.judge l.rule x) (g.J.Judges.sees l.judge l.rule x)) in
    l.faults.items ++ reports (g.I.Items.left l.left) ≡ l.initial.faults.items ++ reports (g.I.Items.left l.items)

abbrev pub invariant-loop-rule : goal.invariant-loop-rule
invariant-loop-rule g l =
    l.faults.items ++ reported_over (drop l.rule-index l.rules) (g.J.Judges.owner l.judge) (g.J.Judges.sees l.judge) (g.I.Items.left l.items)
    ≡ l.fn.faults.items ++ reported_over l.rules (g.J.Judges.owner l.judge) (g.J.Judges.sees l.judge) (g.I.Items.left l.items)
