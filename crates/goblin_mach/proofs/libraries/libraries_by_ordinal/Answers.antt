use Rattle.goblin_mach.proofs.LibrariesRead.{libs_by_name, ordinal_at}
use Rattle.goblin_mach.proofs.libraries.libraries_by_ordinal.Goals as goal

pub returns : goal.returns
returns c = record { names = libs_by_name; ordinals = ordinal_at }
