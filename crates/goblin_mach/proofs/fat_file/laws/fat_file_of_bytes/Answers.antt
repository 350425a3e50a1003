use Rattle.std.proofs.Common.{sym, ap}
use Rattle.goblin_mach.specs.FatFile.{FatFile}
use Rattle.goblin_mach.proofs.FatNumbers.{file_is}
use Rattle.goblin_mach.proofs.WholeFiles.{header_of_fat}
use Rattle.goblin_mach.proofs.fat_file.laws.fat_file_of_bytes.Goals as goal

pub returns : goal.returns
returns c = record {
  same = λ bytes file is. ap (λ (f : FatFile). f.bytes) (sym (file_is bytes file is));
  count = λ bytes file is. ap (λ (f : FatFile). f.narches) (sym (file_is bytes file is));
  header = header_of_fat;
}
