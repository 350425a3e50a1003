use Rattle.std.proofs.Common.{List, length, subst, take}
use Rattle.std.specs.Prelude.{nat_lt}
use Rattle.std.proofs.lemmas.Result.{on_ok_weaker}
use Rattle.std.specs.Io.KnownBytes.{Appends}
use Rattle.mach_base.proofs.Written.{Appends-both}
use Rattle.mach_fat_writer.specs.declared.entry_record.EntryRecord.{EntryRecord}
use Rattle.machfat.specs.Lines.{records_from, document_tail}
use Rattle.machfat.specs.declared.entry.ListForm.TheVariants as forms
use Rattle.machfat.proofs.json.print_document.Goals as goal

pub returns : goal.returns
returns g c =
    let all = c.args.records.now in
    let limit = c.args.limit in
    let records = records_from forms.Objects c.args.bytes.now 0 (take limit all) in
    let tail = document_tail (nat_lt limit (length all)) c.args.file.now in
    let written = subst (λ (first : List EntryRecord). Appends (g.O.Write.contents c.write.new.self) (g.O.Write.contents c.print_records.new.out)
    (records_from forms.Objects c.args.bytes.now 0 first)) c.first_of.ensures
    c.in_ok-print_records.ensures in
    on_ok_weaker c.print_end.result (λ last. Appends-both _ _ _ _ _ c.in_ok-write.ensures.bytes (Appends-both _ _ _ records tail written last))
    c.print_end.ensures
