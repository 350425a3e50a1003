-- The kind of a file: when it opens as a fat file or an image, and its faults if it doesn't (`mach-o/fat.h`).
use Rattle.std.specs.Prelude.{◌≡◌, ℕ, ◌<◌, ◌≤◌, ◌⊎◌, List, length, Ok, Err}
use Rattle.mach_base.specs.declared.context.Endian.TheVariants.{Big}
use Rattle.mach_base.specs.Fault.{Fault, malformed}
use Rattle.mach_base.specs.Number.{number_at}
use Rattle.goblin_mach.specs.declared.macho.MachO.{MachO}
use Rattle.goblin_mach.specs.FatFile.{fat_file_in, file_view}
use Rattle.goblin_mach.specs.declared.fat_file.table.FatTable.{FatTable}
use Rattle.mach_parts.specs.declared.fat.FatArch.{FatArch}
use Rattle.goblin_mach.specs.declared.mach.Mach.TheVariants.{Fat, Binary}
use Rattle.goblin_mach.specs.declared.mach.Mach.{Mach}

-- the bytes begin with the magic of a fat file (`mach-o/fat.h`, FAT_MAGIC)
abbrev pub HasFatMagic : List ℕ → Type 0
HasFatMagic bytes = number_at Big 4 bytes 0 ≡ Ok 0xcafe_babe

-- the bytes begin like a fat file, whose header has 8 bytes
pub record IsFat (bytes : List ℕ) : Type 0 where
  pub magic : HasFatMagic bytes
  pub header : 8 ≤ length bytes

-- The bytes open as a file, with its image in a mode: `Opens` or `LossyOpens`. They have four bytes for a magic, and are a
-- fat file, or an image at 0.
pub record MachOpens (InMode : List ℕ → ℕ → Type 0) (bytes : List ℕ) : Type 0 where
  pub magic : 4 ≤ length bytes
  pub file : IsFat bytes ⊎ InMode bytes 0

-- A fault of opening them, with the faults of an image in a mode: `ImageFault` or `LossyFault`. After the magic of a fat
-- file its header may be cut off. Any other magic is that of an image or unknown.
pub data MachFault (InMode : List ℕ → ℕ → Fault → Type 0) (bytes : List ℕ) : Fault → Type 0 where
  no_room : length bytes < 4 → MachFault InMode bytes malformed
  of_fat : (f : Fault) → HasFatMagic bytes → fat_file_in bytes ≡ Err f → MachFault InMode bytes f
  of_image : (f : Fault) → ¬ (HasFatMagic bytes) → InMode bytes 0 f → MachFault InMode bytes f

-- the file is a fat file, with the count of its header
pub record IsFatMach {A : Type 0} (bytes : List ℕ) (m : FatTable FatArch A) : Type 0 where
  pub magic : HasFatMagic bytes
  pub file : fat_file_in bytes ≡ Ok (file_view m)

-- the file is a fat file, or the image at 0 as it opens in a mode: `IsImage` or `IsLossyImage`
abbrev pub IsMach : {A : Type 0} → (List ℕ → ℕ → MachO A → Type 0) → List ℕ → Mach A → Type 0
IsMach InMode bytes (Fat m) = IsFatMach bytes m
IsMach InMode bytes (Binary m) = InMode bytes 0 m
