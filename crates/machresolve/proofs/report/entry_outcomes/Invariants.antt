use Rattle.std.proofs.Common.{◌≡◌, ◌-◌, map, take}
use Rattle.std.specs.Prelude.{sum_by}
use Rattle.mach_resolve.specs.Cpu.{entry_bytes}
use Rattle.machresolve.specs.Report.{answer_count, AreEntryOutcomes}
use Rattle.mach_resolve.specs.Opened.{given_view}
use Rattle.machresolve.specs.ReportViews.{outcome_view}
use Rattle.machresolve.proofs.report.entry_outcomes.Given as goal

abbrev pub invariant-arches : goal.invariant-arches
invariant-arches g l =
    AreEntryOutcomes l.limit (given_view l.program) (map given_view l.libraries)
    (map (entry_bytes g.R.ArchRecord.arch_form l.program.bytes.now) (take l.arch-index l.arches)) (map outcome_view l.outcomes.items)
    × (l.left ≡ l.limit - sum_by answer_count (map outcome_view l.outcomes.items))
