use Rattle.std.proofs.Common.{List, sym, subst}
use Rattle.mach_archive.specs.ArchiveViews.{archive_of}
use Rattle.mach_base.proofs.Faults.{ErrorMeets-reported}
use Rattle.mach_base.proofs.Written.{Appends-none}
use Rattle.mach_base.specs.Fault.{fault_of}
use Rattle.mach_cli.specs.Foreigners.{refused_kind}
use Rattle.mach_fat_writer.specs.FatTables.{form_of}
use Rattle.mach_fat_writer.specs.declared.entry_record.EntryRecord.{EntryRecord}
use Rattle.machfat.specs.Members.{AreEntryLines, MembersFault, in_archive, of_archive, of_fat_file}
use Rattle.machfat.specs.Refusals.{RefusesMembers, but_archive}
use Rattle.machfat.specs.Written.{WritesAs}
use Rattle.machfat.proofs.Reported.{refuses_read}
use Rattle.machfat.proofs.members.print_file.Goals as goal

pub returns-in-Err-clause-refused : goal.returns-in-Err-clause-refused
returns-in-Err-clause-refused g c =
    let bytes = c.args.bytes.now in
    let e = c.in-Err.error in
    let occurs = ErrorMeets-reported (MembersFault bytes) e (in_archive (fault_of e) (sym c.in-None.ensures) c.in-Err.ensures) in (
      subst (λ refusal. RefusesMembers bytes refusal) (sym c.refused.ensures)
          (refuses_read (MembersFault bytes) (λ e. but_archive (refused_kind bytes e)) e occurs),
      Appends-none (g.O.Write.contents c.args.out.now),
    )

pub returns-in_ok-print_entries-in-Some-clause-reported : goal.returns-in_ok-print_entries-in-Some-clause-reported
returns-in_ok-print_entries-in-Some-clause-reported g c =
    let outcome = c.in_ok-print_entries-in-Some.field-0 in
    let reported = subst
    (λ (records : List EntryRecord). WritesAs (AreEntryLines c.args.limit c.args.bytes.now records) outcome (g.O.Write.contents c.args.out.now)
    (g.O.Write.contents c.print_entries.new.out))
    c.deref.ensures.value c.in_ok-print_entries-in-Some.ensures in
    record {
      text = reported.text;
      are_lines = of_fat_file (form_of c.in-Some.form) c.in_ok-records-in-Some.records.items reported.text outcome (sym c.in-Some.ensures)
          c.in_ok-records-in-Some.ensures.records reported.are_lines;
      written = reported.written;
    }

pub returns-in_ok-print_archive-in-Ok-clause-reported : goal.returns-in_ok-print_archive-in-Ok-clause-reported
returns-in_ok-print_archive-in-Ok-clause-reported g c =
    let reported = c.in_ok-print_archive-in-Ok.ensures in
    record {
      text = reported.text;
      are_lines = of_archive (archive_of c.in-Ok.archive) reported.text c.in_ok-print_archive-in-Ok.field-0
          (sym c.in-None.ensures) c.in-Ok.ensures reported.are_lines;
      written = reported.written;
    }
