use Rattle.mach_base.proofs.ItemLists.{length-items_from, slice_get-items}
use Rattle.goblin_mach.specs.FatEntry.{entry_at}
use Rattle.goblin_mach.proofs.FatNumbers.{item-only}
use Rattle.goblin_mach.proofs.fat_file.laws.entries_by_number.Goals as goal

pub returns : goal.returns
returns c = record {
  count = λ file. length-items_from (entry_at file) 0 file.narches;
  item = λ file. slice_get-items (entry_at file) file.narches;
  only = λ file. item-only (entry_at file) file.narches;
}
