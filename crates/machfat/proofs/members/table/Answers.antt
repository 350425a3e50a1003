use Rattle.std.proofs.Common.{subst, sym}
use Rattle.mach_base.proofs.Faults.{ErrorMeets-failed}
use Rattle.mach_cli.specs.Foreigners.{refused_kind}
use Rattle.mach_fat_writer.specs.FatTables.{fat_table_in, form_of}
use Rattle.machfat.specs.Members.{MembersFault, in_table}
use Rattle.machfat.specs.Refusals.{RefusesMembers, but_archive}
use Rattle.machfat.proofs.Reported.{refuses_read}
use Rattle.machfat.proofs.members.table.Goals as goal

pub returns-in-Err-clause-refused : goal.returns-in-Err-clause-refused
returns-in-Err-clause-refused c = λ is_form.
    let bytes = c.args.bytes.now in
    let e = c.in-Err.error in
    let occurs = ErrorMeets-failed (MembersFault bytes) e (fat_table_in (form_of c.args.form) bytes) (λ f fault. in_table (form_of c.args.form) f is_form fault)
    c.in-Err.ensures in
    subst (λ refusal. RefusesMembers bytes refusal) (sym c.refused.ensures)
    (refuses_read (MembersFault bytes) (λ e. but_archive (refused_kind bytes e)) e occurs)
