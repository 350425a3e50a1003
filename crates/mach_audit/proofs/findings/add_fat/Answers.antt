use Rattle.std.proofs.Common.{◌++◌, rules}
use Rattle.mach_audit.specs.declared.findings.AuditedPart.TheVariants as parts
use Rattle.mach_audit.specs.Findings.{cut_found, entry_findings, findings_each, found_there, table_found, whole_file}
use Rattle.mach_audit.proofs.FindingsAdded.{adds_both}
use Rattle.mach_audit.proofs.findings.add_fat.Goals as goal

pub returns : goal.returns
returns g c = record {
  added =
      let fat = c.args.fat.now in
      let table = c.add_table.new.out.items in
      let entries = c.add_entries.new.out.items in
      let end = c.add_cut.new.out.items in
      let cut = found_there whole_file (cut_found parts.Entries fat.cut) in
      let found = findings_each entry_findings 0 fat.entries.items in
      let rest = adds_both table entries end found cut (search rules) c.in_ok-add_cut.ensures.added in
      adds_both c.args.out.now.items table end (found_there whole_file (table_found fat)) (found ++ cut) c.in_ok-add_table.ensures.added rest;
}
