-- Fat files written for C.
use Rattle.std.specs.Prelude.{◌≡◌, ◌<◌, ◌≤◌, ◌++◌, ℕ, List, length, drop, Ok}
use Rattle.mach_fat_writer.specs.Entries.{FatEntryView}
use Rattle.mach_fat_writer.specs.FatForms.{FatForm}
use Rattle.mach_fat_writer.specs.FatWrites.{fat_file_of}
use Rattle.mach_fat_writer.specs.Parts.{part_entries}
use Rattle.mach_fat_writer.specs.declared.part.FatPart.{FatPart}

-- a file of `len` bytes is that of the parts of some bytes
pub record IsFatFileOf (bytes : List ℕ) (parts : List FatPart) (form : FatForm) (file : List ℕ) (len : ℕ) : Type 0 where
  pub entries : List FatEntryView
  pub are : part_entries bytes parts ≡ Ok entries
  pub made : fat_file_of form entries ≡ Ok file
  pub long : len ≡ length file

-- it was written at the start, and the rest is unchanged
pub record WritesFat (bytes : List ℕ) (parts : List FatPart) (form : FatForm) (old new : List ℕ) (needed : ℕ) : Type 0 where
  pub file : List ℕ
  pub is : IsFatFileOf bytes parts form file needed
  pub room : needed ≤ length old
  pub written : new ≡ file ++ drop needed old

-- there is such a file, and less room than it needs
pub record LacksRoom (bytes : List ℕ) (parts : List FatPart) (form : FatForm) (room needed : ℕ) : Type 0 where
  pub file : List ℕ
  pub is : IsFatFileOf bytes parts form file needed
  pub less : room < needed
