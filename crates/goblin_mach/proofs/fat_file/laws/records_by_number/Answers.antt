use Rattle.mach_base.proofs.ItemLists.{length-items_from, slice_get-items}
use Rattle.goblin_mach.specs.FatFile.{arch_at}
use Rattle.goblin_mach.proofs.FatNumbers.{item-only}
use Rattle.goblin_mach.proofs.fat_file.laws.records_by_number.Goals as goal

pub returns : goal.returns
returns c = record {
  count = λ file. length-items_from (arch_at file.bytes) 0 file.narches;
  item = λ file. slice_get-items (arch_at file.bytes) file.narches;
  only = λ file. item-only (arch_at file.bytes) file.narches;
}
