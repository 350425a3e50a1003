-- The kind of a file, including archives (`ar.h`) and fat files of 64 bits (`mach-o/fat.h`, FAT_MAGIC_64): when it opens,
-- and its faults if it doesn't.
use Rattle.std.specs.Prelude.{◌≡◌, ◌||◌, ℕ, ◌≤◌, Bool, true, false, List, [], ◌∷◌, ◌++◌, length, codes, nat_eq, Ok, Err, IsOk}
use Rattle.std.specs.List.{starts_with}
use Rattle.mach_base.specs.Fault.{Fault}
use Rattle.mach_parts.specs.Magic.{begins_archive}
use Rattle.mach_parts.specs.FatRecords.{HasFat64Magic}
use Rattle.mach_archive.specs.Archives.{archive_in}
use Rattle.mach_archive.specs.ArchiveViews.{archive_of}
use Rattle.goblin_mach.specs.Image.{Opens, ImageFault}
use Rattle.goblin_mach.specs.OpenImage.{IsImage}
use Rattle.goblin_mach.specs.FatFile.{fat_file_in, file_view}
use Rattle.goblin_mach.specs.File.{MachOpens, MachFault, IsMach}
use Rattle.goblin_mach.specs.declared.mach.Mach.{Mach}
use Rattle.goblin_mach.specs.declared.mach.Mach.TheVariants as files
use Rattle.goblin_mach.specs.declared.input.Input.{Input}
use Rattle.goblin_mach.specs.declared.input.Input.TheVariants.{Image, Fat, Fat64, Archive}

-- whether bytes begin like an archive, or like a thin archive, whose members are other files
abbrev pub begins_any_archive : List ℕ → Bool
begins_any_archive bytes = begins_archive bytes || starts_with nat_eq bytes (codes "!<thin>" ++ 0x0a ∷ [])

-- they are a fat file of 64 bits, whose header has 8 bytes
pub record IsFat64 (bytes : List ℕ) : Type 0 where
  pub no_archive : begins_any_archive bytes ≡ false
  pub magic : HasFat64Magic bytes
  pub header : 8 ≤ length bytes

-- they are neither, so `Mach::parse` decides what they are
pub record IsNeither (bytes : List ℕ) : Type 0 where
  pub no_archive : begins_any_archive bytes ≡ false
  pub no_fat_64 : ¬ (HasFat64Magic bytes)

-- The bytes open: as an archive, as a fat file of 64 bits, or as `Mach::parse` opens them.
pub data InputOpens (bytes : List ℕ) : Type 0 where
  opens_archive : begins_any_archive bytes ≡ true → IsOk (archive_in bytes) → InputOpens bytes
  opens_fat_64 : IsFat64 bytes → InputOpens bytes
  opens_mach : IsNeither bytes → MachOpens Opens bytes → InputOpens bytes

-- A fault of opening them.
pub data InputFault (bytes : List ℕ) : Fault → Type 0 where
  of_archive : (f : Fault) → begins_any_archive bytes ≡ true → archive_in bytes ≡ Err f → InputFault bytes f
  of_fat_64 : (f : Fault) → begins_any_archive bytes ≡ false → HasFat64Magic bytes → fat_file_in bytes ≡ Err f → InputFault bytes f
  of_mach : (f : Fault) → IsNeither bytes → MachFault ImageFault bytes f → InputFault bytes f

-- What they are: the archive, the fat file of 64 bits with the count in its header, or what `Mach::parse` opens.
abbrev pub IsInput : {A : Type 0} → List ℕ → Input A → Type 0
IsInput bytes (Archive a) = (begins_any_archive bytes ≡ true) × (archive_in bytes ≡ Ok (archive_of a))
IsInput bytes (Fat64 m) = (begins_any_archive bytes ≡ false) × HasFat64Magic bytes × (fat_file_in bytes ≡ Ok (file_view m))
IsInput bytes (Fat m) = IsNeither bytes × IsMach IsImage bytes (files.Fat m)
IsInput bytes (Image m) = IsNeither bytes × IsMach IsImage bytes (files.Binary m)

-- a file that `Mach::parse` opened
abbrev pub input_of_mach : {A : Type 0} → Mach A → Input A
input_of_mach (files.Fat m) = Fat m
input_of_mach (files.Binary m) = Image m

-- it is what `Mach::parse` opens
abbrev pub IsOfMach : {A : Type 0} → List ℕ → Input A → Type 0
IsOfMach {A} bytes x = (m : Mach A) × (x ≡ input_of_mach m) × IsMach IsImage bytes m
