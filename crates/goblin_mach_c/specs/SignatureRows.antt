-- The code signature of an image as C sees it. The kinds of faults are the numbers of `goblin_mach.h` (GM_SIGNATURE_BLOB and the
-- following ones).
use Rattle.std.specs.Prelude.{◌≡◌, ◌⊎◌, ◌↔◌, ℕ, List, [], map, drop, replicate, Bool, IsTrue, Option, Some, None, Result, Ok, Err}
use Rattle.std.specs.Option.{option_map}
use Rattle.mach_base.specs.Fault.{Fault}
use Rattle.mach_signature.specs.AsSigned.{SignatureFaultView, blob_refused, wrong_magic, directory_refused, of_first, of_alternate}
use Rattle.mach_signature.specs.AsSigned.{DirectoryFaultView, identifier_refused, team_refused, short, of_code, of_special}
use Rattle.mach_signature.specs.Directories.{code_limit_of, page_count_of, cdhash_of}
use Rattle.mach_signature.specs.FaultViews.{signature_faults_left}
use Rattle.mach_signature.specs.declared.fault.CodeFault.{CodeFault}
use Rattle.mach_signature.specs.declared.fault.CodeFault.TheVariants as code
use Rattle.mach_signature.specs.declared.fault.SpecialFault.{SpecialFault}
use Rattle.mach_signature.specs.declared.fault.SpecialFault.TheVariants as special
use Rattle.mach_signature.specs.declared.faults.SignatureFaults.{SignatureFaults}
use Rattle.mach_signature.specs.SignedFacts.{HasSignatureFaults, HoldsAsSigned}
use Rattle.mach_c_places.specs.SignaturePlaces.{SignedDirectoryThere, HasSignedDirectory, identifier_place, team_place, entitlements_place}
use Rattle.goblin_mach_c.specs.Codes.{code_of_fault}
use Rattle.goblin_mach_c.specs.Fill.{Fills}
use Rattle.goblin_mach_c.specs.Opened.{FaultIn, flag, lossy_mode}
use Rattle.goblin_mach_c.specs.declared.images.gm_image.{gm_image}
use Rattle.goblin_mach_c.specs.declared.signature.gm_signature.{gm_signature}
use Rattle.goblin_mach_c.specs.declared.signature.gm_signature_fault.{gm_signature_fault}
use Rattle.goblin_mach_c.specs.declared.signature.SignatureRows.{SignatureRows}

-- ---- the directory that counts

-- the offset of a text, its length, and its code
abbrev pub text_numbers : Result (Option (ℕ × ℕ)) Fault → ℕ × ℕ × ℕ
text_numbers (Ok (Some place)) = (place.0, place.1, 0)
text_numbers (Ok None) = (0, 0, 0)
text_numbers (Err f) = (0, 0, code_of_fault f)

abbrev pub directory_row : SignedDirectoryThere → gm_signature
directory_row x =
    record {
      limit = code_limit_of x.directory;
      pages = page_count_of x.directory;
      identifier = (text_numbers (identifier_place x)).0;
      identifier_len = (text_numbers (identifier_place x)).1;
      team = (text_numbers (team_place x)).0;
      team_len = (text_numbers (team_place x)).1;
      entitlements = (text_numbers (entitlements_place x)).0;
      entitlements_len = (text_numbers (entitlements_place x)).1;
      version = x.directory.head.version;
      flags = x.directory.head.flags;
      hash_type = x.directory.head.hash_type;
      page_size = x.directory.head.page_size;
      identifier_code = (text_numbers (identifier_place x)).2;
      team_code = (text_numbers (team_place x)).2;
      entitlements_code = (text_numbers (entitlements_place x)).2;
      is_signed = 1;
      cdhash = cdhash_of x.directory;
      reserved = 0;
    }

abbrev pub no_signature : gm_signature
no_signature =
    record {
      limit = 0;
      pages = 0;
      identifier = 0;
      identifier_len = 0;
      team = 0;
      team_len = 0;
      entitlements = 0;
      entitlements_len = 0;
      version = 0;
      flags = 0;
      hash_type = 0;
      page_size = 0;
      identifier_code = 0;
      team_code = 0;
      entitlements_code = 0;
      is_signed = 0;
      cdhash = replicate 20 0;
      reserved = 0;
    }

-- the row of an image, if it has a signature
abbrev pub signature_row : Option SignedDirectoryThere → gm_signature
signature_row (Some x) = directory_row x
signature_row None = no_signature

-- the row of the image at o was written
abbrev pub WritesSignatureRow : List ℕ → ℕ → gm_signature → Type 0
WritesSignatureRow bytes o row = (found : Option SignedDirectoryThere) × HasSignedDirectory bytes o (Ok found) × (row ≡ signature_row found)

-- a fault of opening, of the signature or of its directories
abbrev pub DirectoryFaultIn : List ℕ → gm_image → Fault → Type 0
DirectoryFaultIn bytes c f = FaultIn (lossy_mode c.is_lossy) bytes c.offset f ⊎ HasSignedDirectory bytes c.offset (Err f)

-- ---- the faults of a signature

abbrev pub fault_row : (kind slot : ℕ) → gm_signature_fault
fault_row kind slot = record { found = 0; limit = 0; kind = kind; slot = slot; index = 0; code = 0 }

-- those of the code that the directory at a slot covers
abbrev pub code_row : (slot : ℕ) → CodeFault → gm_signature_fault
code_row slot (code.Scattered place) = record { found = place; limit = 0; kind = 7; slot = slot; index = 0; code = 0 }
code_row slot (code.Limit limit len) = record { found = limit; limit = len; kind = 8; slot = slot; index = 0; code = 0 }
code_row slot (code.Slots slots pages) = record { found = slots; limit = pages; kind = 9; slot = slot; index = 0; code = 0 }
code_row slot (code.Page index start end) = record { found = start; limit = end; kind = 10; slot = slot; index = index; code = 0 }

-- those of a special slot
abbrev pub special_row : (slot : ℕ) → SpecialFault → gm_signature_fault
special_row slot (special.Unknown k) = record { found = 0; limit = 0; kind = 11; slot = slot; index = k; code = 0 }
special_row slot (special.Unsealed k) = record { found = 0; limit = 0; kind = 12; slot = slot; index = k; code = 0 }
special_row slot (special.Changed k) = record { found = 0; limit = 0; kind = 13; slot = slot; index = k; code = 0 }
special_row slot (special.Absent k) = record { found = 0; limit = 0; kind = 14; slot = slot; index = k; code = 0 }

-- those of a directory
abbrev pub directory_fault_row : (slot : ℕ) → DirectoryFaultView → gm_signature_fault
directory_fault_row slot (identifier_refused f) = record { found = 0; limit = 0; kind = 4; slot = slot; index = 0; code = code_of_fault f }
directory_fault_row slot (team_refused f) = record { found = 0; limit = 0; kind = 5; slot = slot; index = 0; code = code_of_fault f }
directory_fault_row slot (short limit dataoff) = record { found = limit; limit = dataoff; kind = 6; slot = slot; index = 0; code = 0 }
directory_fault_row slot (of_code fault) = code_row slot fault
directory_fault_row slot (of_special fault) = special_row slot fault

abbrev pub signature_fault_row : SignatureFaultView → gm_signature_fault
signature_fault_row (blob_refused index f) = record { found = 0; limit = 0; kind = 1; slot = 0; index = index; code = code_of_fault f }
signature_fault_row (wrong_magic index slot magic) = record { found = magic; limit = 0; kind = 2; slot = slot; index = index; code = 0 }
signature_fault_row (directory_refused f) = record { found = 0; limit = 0; kind = 3; slot = 0; index = 0; code = code_of_fault f }
signature_fault_row (of_first fault) = directory_fault_row 0 fault
signature_fault_row (of_alternate slot fault) = directory_fault_row slot fault

-- those of a signature, if there is one
abbrev pub fault_rows : Option (List SignatureFaultView) → List gm_signature_fault
fault_rows None = []
fault_rows (Some faults) = map signature_fault_row faults

-- what is left for the rows
abbrev pub fault_rows_by : Option SignatureFaults → List gm_signature_fault
fault_rows_by faults = fault_rows (option_map signature_faults_left faults)

abbrev pub signature_rows_left : SignatureRows → List gm_signature_fault
signature_rows_left it = fault_rows_by it.faults

-- the rows of the faults of the image at o were written, from a number on
abbrev pub WritesSignatureFaults : List ℕ → ℕ → (first : ℕ) → (old new : List gm_signature_fault) → ℕ → Type 0
WritesSignatureFaults bytes o first old new n =
    (faults : Option (List SignatureFaultView)) × HasSignatureFaults bytes o (Ok faults) × Fills (drop first (fault_rows faults)) old new n

-- a fault of opening, or of the signature
abbrev pub SignatureFaultIn : List ℕ → gm_image → Fault → Type 0
SignatureFaultIn bytes c f = FaultIn (lossy_mode c.is_lossy) bytes c.offset f ⊎ HasSignatureFaults bytes c.offset (Err f)

-- a number says whether the image at o is as it was signed
pub record SaysAsSigned (bytes : List ℕ) (o n : ℕ) : Type 0 where
  pub is : Bool
  pub says : n ≡ flag is
  pub as_signed : IsTrue is ↔ HoldsAsSigned bytes o
