use Rattle.std.proofs.Common.{◌≡◌, length}
use Rattle.std.specs.List.{AllZip}
use Rattle.mach_base.specs.Items.{items_from}
use Rattle.goblin_mach.specs.FatEntry.{arch_entry_in}
use Rattle.mach_audit.specs.Report.{IsEntryReport}
use Rattle.goblin_mach.specs.FatFile.{file_view}
use Rattle.mach_audit.proofs.Entries.{AllSound, SomeLong}
use Rattle.mach_audit.specs.Verdicts.{Judges, verdict_of_all, verdict_of_entry}
use Rattle.mach_audit.proofs.file.audit_fat.Given as goal

abbrev pub invariant-loop-index : goal.invariant-loop-index
invariant-loop-index g l =
    let form = g.R.ArchRecord.arch_form in
    let file = file_view l.container in
    (file.bytes ≡ l.bytes → AllZip (IsEntryReport l.limit) (items_from (arch_entry_in form file) 0 l.index) l.entries.items)
    × Judges (AllSound form file l.index) (SomeLong form l.limit file l.index) (verdict_of_all verdict_of_entry l.entries.items)
    × (length l.entries.items ≡ l.index)
