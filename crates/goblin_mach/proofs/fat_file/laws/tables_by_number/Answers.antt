use Rattle.mach_base.proofs.ItemLists.{length-items_from, slice_get-items}
use Rattle.mach_parts.specs.ArchForms.{arch_in}
use Rattle.goblin_mach.specs.FatEntry.{arch_entry_in}
use Rattle.goblin_mach.proofs.fat_file.laws.tables_by_number.Goals as goal

pub returns : goal.returns
returns g c = record {
  records = λ file. length-items_from (arch_in g.R.ArchRecord.arch_form file.bytes) 0 file.narches;
  record_item = λ file. slice_get-items (arch_in g.R.ArchRecord.arch_form file.bytes) file.narches;
  entries = λ file. length-items_from (arch_entry_in g.R.ArchRecord.arch_form file) 0 file.narches;
  entry_item = λ file. slice_get-items (arch_entry_in g.R.ArchRecord.arch_form file) file.narches;
}
