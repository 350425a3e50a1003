use Rattle.std.proofs.Common.{◌≡◌, ◌-◌}
use Rattle.mach_base.specs.Items.{items_from, all_read}
use Rattle.mach_fat_writer.specs.FatTables.{form_of, fat_record_in}
use Rattle.mach_fat_writer.proofs.Gathered.{before}
use Rattle.mach_fat_writer.proofs.form.Form.records.Given as goal

abbrev pub invariant-loop-index : goal.invariant-loop-index
invariant-loop-index g l =
    all_read (items_from (fat_record_in (form_of l.self) l.bytes) 0 l.count)
    ≡ before l.records.items (all_read (items_from (fat_record_in (form_of l.self) l.bytes) l.index (l.count - l.index)))
