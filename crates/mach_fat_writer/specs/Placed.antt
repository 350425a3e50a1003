-- A fat file written into a given buffer.
use Rattle.std.specs.Prelude.{◌≡◌, ◌++◌, ℕ, List, length, drop, Result, Ok, nat_le, if◌then◌else◌}
use Rattle.mach_fat_writer.specs.Entries.{FatEntryView}
use Rattle.mach_fat_writer.specs.FatForms.{FatForm, fat_bytes, fat_end, table_end}
use Rattle.mach_fat_writer.specs.FatWrites.{FatRefusal, fat_file_of}

-- the buffer after a file was written at its start; unchanged if the file doesn't fit
abbrev pub with_file : List ℕ → List ℕ → List ℕ
with_file file old = if nat_le (length file) (length old) then file ++ drop (length file) old else old

-- there is a file, it has `len` bytes, and it was written if it fits
pub record IsWrittenInto (len : ℕ) (there : Result (List ℕ) FatRefusal) (old new : List ℕ) : Type 0 where
  pub file : List ℕ
  pub is_there : there ≡ Ok file
  pub is_long : len ≡ length file
  pub written : new ≡ with_file file old

-- the same for entries in a form, given where the last of them ends
pub record AreSet (end : ℕ) (form : FatForm) (es : List FatEntryView) (old new : List ℕ) : Type 0 where
  pub there : fat_file_of form es ≡ Ok (fat_bytes form es)
  pub ends : end ≡ fat_end (table_end form (length es)) es
  pub set : new ≡ (if nat_le end (length old) then fat_bytes form es ++ drop end old else old)
