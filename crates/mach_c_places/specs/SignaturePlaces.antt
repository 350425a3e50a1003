-- The places of a signature's texts in an image.
use Rattle.std.specs.Prelude.{◌≡◌, ◌==◌, ◌&&◌, ◌-◌, ℕ, List, length, find, Bool, false, Option, Some, None, Result, Ok, Err}
use Rattle.std.specs.List.{range_with_len}
use Rattle.std.specs.Option.{option_map}
use Rattle.mach_base.specs.Answer.{◌>>=◌}
use Rattle.mach_base.specs.Fault.{Fault}
use Rattle.mach_base.specs.Number.{place_after}
use Rattle.mach_load.specs.Command.{Command}
use Rattle.goblin_mach.specs.Facts.{OfImage}
use Rattle.mach_signature.specs.AsSigned.{signature_in}
use Rattle.mach_signature.specs.Chosen.{directory_in, directory_of}
use Rattle.mach_signature.specs.Directories.{Directory, identifier_of, team_of}
use Rattle.mach_signature.specs.DirectoryViews.{directory_view}
use Rattle.mach_signature.specs.SignViews.{signature_view}
use Rattle.mach_signature.specs.Slots.{is_directory_slot}
use Rattle.mach_signature.specs.SuperBlob.{SuperBlob, BlobThere, slot_at, blob_place, blob_of}
use Rattle.mach_signature.specs.SignedImages.{signature_place_in}
use Rattle.mach_c_places.specs.declared.signature.SignedDirectory.{SignedDirectory}

-- ---- the directory that counts

-- the offset of a signature in its image, the signature, and the code directory that counts in it
pub record SignedDirectoryThere : Type 0 where
  pub dataoff : ℕ
  pub signature : SuperBlob
  pub directory : Directory

abbrev pub signed_directory_view : SignedDirectory → SignedDirectoryThere
signed_directory_view x =
    record { dataoff = x.dataoff; signature = signature_view x.signature; directory = directory_view x.directory }

-- the same for the signature at a place, if there is one, or why it or its directory can't be read
abbrev pub signed_directory_there : List ℕ → Option (ℕ × ℕ) → Result (Option SignedDirectoryThere) Fault
signed_directory_there bytes None = Ok None
signed_directory_there bytes (Some place) = do
  s ← signature_in bytes place.0 place.1
  d ← directory_of s
  Ok (Some (record { dataoff = place.0; signature = s; directory = d }))

-- that of an image
abbrev pub image_signed_directory : List ℕ → List Command → Result (Option SignedDirectoryThere) Fault
image_signed_directory bytes cs = signed_directory_there bytes (signature_place_in cs)

-- that of the image that opens at a place
abbrev pub HasSignedDirectory : List ℕ → ℕ → Result (Option SignedDirectoryThere) Fault → Type 0
HasSignedDirectory bytes o found = OfImage bytes o (λ ctx cs. found ≡ image_signed_directory bytes cs)

-- ---- where the directory is

-- a code directory that can be read and has this hash type
abbrev pub is_hashed_so : (hash_type : ℕ) → Result Directory Fault → Bool
is_hashed_so hash_type (Ok d) = d.head.hash_type == hash_type
is_hashed_so hash_type (Err f) = false

-- whether blob k is one
abbrev pub is_directory_of : (hash_type : ℕ) → SuperBlob → ℕ → Bool
is_directory_of hash_type s k = is_directory_slot (slot_at s k) && is_hashed_so hash_type (directory_in s k)

-- the number of the first one
abbrev pub first_directory_of : (hash_type : ℕ) → SuperBlob → Option ℕ
first_directory_of hash_type s = find (is_directory_of hash_type s) (range_with_len 0 s.count)

-- the offset of a blob, from the index; 0 for none
abbrev pub place_if_any : SuperBlob → Option ℕ → ℕ
place_if_any s None = 0
place_if_any s (Some k) = blob_place s k

-- The offset in the image of the directory that counts: that of the directory with its hash in the index; there is only one.
abbrev pub directory_start : SignedDirectoryThere → ℕ
directory_start x = place_after x.dataoff (place_if_any x.signature (first_directory_of x.directory.head.hash_type x.signature))

-- ---- names and entitlements: their offsets in the image, and their lengths

abbrev pub placed_name : SignedDirectoryThere → (at : ℕ) → Option (List ℕ) → Option (ℕ × ℕ)
placed_name x at name = option_map (λ text. (place_after (directory_start x) at, length text)) name

abbrev pub identifier_place : SignedDirectoryThere → Result (Option (ℕ × ℕ)) Fault
identifier_place x = identifier_of x.directory >>= (λ name. Ok (placed_name x x.directory.head.ident_offset name))

abbrev pub offset_or_zero : Option ℕ → ℕ
offset_or_zero None = 0
offset_or_zero (Some at) = at

abbrev pub team_place : SignedDirectoryThere → Result (Option (ℕ × ℕ)) Fault
team_place x = team_of x.directory >>= (λ name. Ok (placed_name x (offset_or_zero x.directory.team_offset) name))

-- after the head of 8 bytes of the first blob of slot 5
abbrev pub content_place : SignedDirectoryThere → BlobThere → ℕ × ℕ
content_place x blob = (place_after (place_after x.dataoff blob.offset) 8, length blob.bytes - 8)

abbrev pub entitlements_place : SignedDirectoryThere → Result (Option (ℕ × ℕ)) Fault
entitlements_place x = blob_of x.signature 5 >>= (λ blob. Ok (option_map (content_place x) blob))
