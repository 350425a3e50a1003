-- Parts of one buffer as the entries of a fat file.
use Rattle.std.specs.Prelude.{◌≡◌, ◌⊎◌, ℕ, ◌-◌, List, [], ◌∷◌, length, take, drop, Bool, true, false, Result, Ok, Err, nat_lt, if◌then◌else◌}
use Rattle.mach_base.specs.Answer.{◌>>=◌}
use Rattle.mach_base.specs.Fault.{Fault, bad_offset, malformed, too_big}
use Rattle.mach_fat_writer.specs.Entries.{FatEntryView}
use Rattle.mach_fat_writer.specs.FatForms.{FatForm, fat_form_32, fat_form_64}
use Rattle.mach_fat_writer.specs.FatWrites.{FatRefusal, fat_file_of}
use Rattle.mach_fat_writer.specs.Placed.{IsWrittenInto}
use Rattle.mach_fat_writer.specs.declared.part.FatPart.{FatPart}

abbrev pub form_by : Bool → FatForm
form_by true = fat_form_64
form_by false = fat_form_32

-- the bytes of a part; all must lie in the buffer
abbrev pub part_bytes : List ℕ → FatPart → Result (List ℕ) Fault
part_bytes bytes p =
    if nat_lt (length bytes) p.offset then Err (bad_offset p.offset)
    else (if nat_lt (length bytes - p.offset) p.len then Err (too_big p.len (length bytes - p.offset))
    else Ok (take p.len (drop p.offset bytes)))

-- the entry of a part
abbrev pub part_entry : List ℕ → FatPart → Result FatEntryView Fault
part_entry bytes p =
    part_bytes bytes p >>= (λ own. Ok (record { cputype = p.cputype; cpusubtype = p.cpusubtype; align = p.align; bytes = own }))

-- an entry before others
abbrev pub ahead_of : FatEntryView → Result (List FatEntryView) Fault → Result (List FatEntryView) Fault
ahead_of e (Ok es) = Ok (e ∷ es)
ahead_of e (Err f) = Err f

-- the entries of parts, in order, or why the first that isn't in the bytes is refused
abbrev pub part_entries : List ℕ → List FatPart → Result (List FatEntryView) Fault
part_entries bytes [] = Ok []
part_entries bytes (p ∷ ps) = part_entry bytes p >>= (λ e. ahead_of e (part_entries bytes ps))

-- their fat file has `len` bytes, and was written if it fits
pub record MakesFat (bytes : List ℕ) (parts : List FatPart) (form : FatForm) (len : ℕ) (old new : List ℕ) : Type 0 where
  pub entries : List FatEntryView
  pub are : part_entries bytes parts ≡ Ok entries
  pub made : IsWrittenInto len (fat_file_of form entries) old new

-- why there is no file: a part isn't in the bytes; or all are, and there is no file of them
abbrev pub IsPartsFault : List ℕ → List FatPart → FatForm → Fault → Type 0
IsPartsFault bytes parts form f =
    (part_entries bytes parts ≡ Err f)
    ⊎ ((entries : List FatEntryView) × (part_entries bytes parts ≡ Ok entries) × ((why : FatRefusal) × (fat_file_of form entries ≡ Err why)) × (f ≡ malformed))
