use Rattle.std.proofs.Common.{◌≡◌, map, take}
use Rattle.std.specs.List.{list_all}
use Rattle.machresolve.specs.Report as reported
use Rattle.machresolve.specs.ReportViews.{outcome_view}
use Rattle.machresolve.proofs.report.all_whole.Given as goal

abbrev pub invariant-loop-outcome : goal.invariant-loop-outcome
invariant-loop-outcome g l = l.whole ≡ list_all reported.is_whole (map outcome_view (take l.outcome-index l.outcomes))
