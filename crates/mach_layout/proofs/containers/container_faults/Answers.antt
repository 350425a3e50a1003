use Rattle.std.proofs.Common.{◌∙◌}
use Rattle.mach_layout.proofs.Slices.{table_reported}
use Rattle.mach_layout.proofs.containers.container_faults.Goals as goal

pub returns-clause-listed : goal.returns-clause-listed
returns-clause-listed g c =
    table_reported g.R.ArchRecord.arch_form c.args.bytes.now c.as_slice-slices.result.now c.records_end.result c.new-faults.result.items
    c.report_records.new.faults.items c.report_each.new.faults.items
    c.report_slices_sharing.new.faults.items c.report_each-2.new.faults.items c.report_slices_sharing-2.new.faults.items
    (c.as_slice-slices.ensures.value ∙ c.in_ok-found.ensures.listed) c.records_end.ensures c.new-faults.ensures.items c.in_ok-report_records.ensures.reported
    c.in_ok-report_each.ensures.reported c.in_ok-report_slices_sharing.ensures.reported c.in_ok-report_each-2.ensures.reported
    c.in_ok-report_slices_sharing-2.ensures.reported
