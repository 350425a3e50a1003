use Rattle.std.proofs.Common.{◌≡◌, ◌++◌, drop}
use Rattle.std.specs.Prelude.{filter_map}
use Rattle.mach_layout.specs.Rules.{reported, reported_over}
use Rattle.mach_layout.proofs.rules.report_each.Given as goal

abbrev pub invariant-loop-item : goal.invariant-loop-item
invariant-loop-item g l =
    let reports = filter_map (λ x. reported l.rule (g.J.Judges.owner l.judge l.rule x) (g.J.Judges.sees l.judge l.rule x)) in
    l.faults.items ++ reports (drop l.item-index l.items) ≡ l.initial.faults.items ++ reports l.items

abbrev pub invariant-loop-rule : goal.invariant-loop-rule
invariant-loop-rule g l =
    l.faults.items ++ reported_over (drop l.rule-index l.rules) (g.J.Judges.owner l.judge) (g.J.Judges.sees l.judge) l.items
    ≡ l.fn.faults.items ++ reported_over l.rules (g.J.Judges.owner l.judge) (g.J.Judges.sees l.judge) l.items
