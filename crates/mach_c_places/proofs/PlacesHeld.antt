-- The code directory of an opened image is that of the bytes in which it was opened.
use Rattle.std.proofs.Common.{◌≡◌}
use Rattle.goblin_mach.specs.Modes.{HoldsAs}
use Rattle.goblin_mach.specs.OpenImage.{bytes_view, commands_view}
use Rattle.goblin_mach.specs.declared.macho.MachO.{MachO}
use Rattle.goblin_mach.proofs.ImageFacts.{said_of}
use Rattle.mach_c_places.specs.SignaturePlaces.{HasSignedDirectory, image_signed_directory}

pub signed_directory_is : {A : Type 0} (m : MachO A) → HoldsAs m HasSignedDirectory (image_signed_directory (bytes_view m) (commands_view m))
signed_directory_is m = said_of m (λ found f. found ≡ image_signed_directory f.bytes f.commands)
