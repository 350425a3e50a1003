use Rattle.std.proofs.Common.{List, get_or, take, arith, subst, sym}
use Rattle.std.specs.Prelude.{◌&&◌}
use Rattle.std.proofs.lemmas.List.{length-take-le, take_more}
use Rattle.mach_fat_writer.specs.declared.entry_record.EntryRecord.{EntryRecord}
use Rattle.machfat.specs.Members.{AreEntryLines, stays}
use Rattle.machfat.specs.Written.{WritesAs}
use Rattle.machfat.proofs.Reported.{entry_more, no_entries_reported}
use Rattle.machfat.proofs.members.print_entries.Goals as goal

pub records-init : goal.records-init
records-init g c = no_entries_reported c.args.limit c.args.bytes.now (g.O.Write.contents c.args.out.now)

pub records-preserved : goal.records-preserved
records-preserved g c =
    let records = c.args.records.now in
    let i = c.records.index-counter in
    let inside = c.records-test.true in
    let before = c.records.outcome in
    let one = c.in_ok-one.one in
    subst
    (λ (front : List EntryRecord). WritesAs (AreEntryLines c.args.limit c.args.bytes.now front) (stays one.left (before.whole && one.whole))
    (g.O.Write.contents c.args.out.now) (g.O.Write.contents c.print_content.new.out))
    (sym (take_more records i _ inside))
    (entry_more c.args.limit c.args.bytes.now (take i records) (get_or records i _) i before one _ _ _ _
    (sym (length-take-le i records (omega (arith, inside)))) c.records.invariant c.in_ok-writeln.ensures.bytes c.in_ok-one.ensures)
