use Rattle.std.proofs.Common.{map, subst}
use Rattle.std.proofs.lemmas.Result.{IfOk-weaker}
use Rattle.mach_base.proofs.Faults.{ErrorMeets-failed}
use Rattle.goblin_mach.specs.FatFile.{arch_table_in, file_view}
use Rattle.mach_resolve.specs.Cpu.{entry_bytes, fat_table_view}
use Rattle.mach_resolve.specs.Opened.{given_view}
use Rattle.machresolve.specs.Report.{AreEntryOutcomes, ProgramFault, fat, of_table}
use Rattle.machresolve.specs.ReportViews.{outcome_view, report_view}
use Rattle.mach_resolve.proofs.Cpus.{table_entries}
use Rattle.machresolve.proofs.Reports.{table_refused}
use Rattle.machresolve.proofs.report.report_all.Goals as goal

pub returns-in-Ok-entry_outcomes-clause-reported : goal.returns-in-Ok-entry_outcomes-clause-reported
returns-in-Ok-entry_outcomes-clause-reported g c = λ has.
    let form = g.R.ArchRecord.arch_form in
    let p = given_view c.args.program in
    fat (fat_table_view form p.bytes (file_view c.args.container.now)) _ _ has
    (table_entries form p.bytes c.args.container.now _ c.in-Ok.ensures)
    (subst (λ xs. AreEntryOutcomes c.args.limit p (map given_view c.args.libraries.now) (map (entry_bytes form p.bytes) xs)
    (map outcome_view c.in-Ok-entry_outcomes.outcomes.items))
    c.deref.ensures.value c.in-Ok-entry_outcomes.ensures.reported)

pub returns-clause-reported : goal.returns-clause-reported
returns-clause-reported g c = λ has.
    let form = g.R.ArchRecord.arch_form in
    let p = given_view c.args.program in
    let m = c.args.container.now in
    let occurs = ErrorMeets-failed (ProgramFault p.bytes) c.in-Err.error (arch_table_in form (file_view m))
    (λ f bad. of_table (fat_table_view form p.bytes (file_view m)) has (table_entries form p.bytes m _ bad)) c.in-Err.ensures in
    IfOk-weaker c.report_refused.result _ _
    (λ r reported. table_refused c.args.limit p (map given_view c.args.libraries.now) c.in-Err.error (report_view r) reported occurs)
    c.report_refused.ensures.reported
