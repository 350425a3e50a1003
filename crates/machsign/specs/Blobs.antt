-- The blobs of a signature that are no code directories, as they are printed.
use Rattle.std.specs.Prelude.{ℕ, ◌-◌, ◌==◌, List, ◌++◌, codes, length, take, map, flat_map, filter_map, if◌then◌else◌, Option, Some, None, Result, Ok, Err}
use Rattle.std.specs.Fmt.{decimal}
use Rattle.mach_base.specs.Fault.{Fault}
use Rattle.mach_cli.specs.JsonArrays.{with_commas}
use Rattle.mach_signature.specs.SignWords.{slot_words}
use Rattle.mach_signature.specs.Slots.{is_directory_slot}
use Rattle.mach_signature.specs.SuperBlob.{SuperBlob, BlobThere, blobs_of}
use Rattle.machsign.specs.Special.{by_form}
use Rattle.machsign.specs.declared.blobs.OtherBlob.{OtherBlob}
use Rattle.machsign.specs.declared.form.Form.{Form}
use Rattle.machsign.specs.declared.form.Form.TheVariants.{Lines, Objects}

-- a blob that can be read and is no directory: its slot, and the number of its bytes after its header of 8
abbrev pub other_blob : Result BlobThere Fault → Option OtherBlob
other_blob (Ok blob) = if is_directory_slot blob.slot then None else Some (record { slot = blob.slot; len = length blob.bytes - 8 })
other_blob (Err f) = None

abbrev pub other_blobs_of : SuperBlob → List OtherBlob
other_blobs_of s = filter_map other_blob (blobs_of s)

-- a CMS blob is not verified
abbrev pub blob_text : (slot len : ℕ) → List ℕ
blob_text slot len =
    slot_words slot ++ (codes ": " ++ (decimal len ++ (if slot == 0x10000 then codes " bytes, not verified" else codes " bytes")))

abbrev pub blob_object : (slot len : ℕ) → List ℕ
blob_object slot len =
    codes "{\"bytes\":" ++ (decimal len ++ (codes ",\"name\":\"" ++ (slot_words slot ++ (codes "\",\"slot\":" ++ (decimal slot ++ codes "}")))))

abbrev pub blob_reported : Form → OtherBlob → List ℕ
blob_reported form b = by_form form (blob_text b.slot b.len) (blob_object b.slot b.len)

-- the lines of the first blobs, no more than `left`, in order, and the array of their objects
abbrev pub blobs_lines : (left : ℕ) → SuperBlob → List ℕ
blobs_lines left s = flat_map (λ b. blob_reported Lines b ++ codes "\n") (take left (other_blobs_of s))

abbrev pub blobs_array : (left : ℕ) → SuperBlob → List ℕ
blobs_array left s = codes "[" ++ (with_commas (map (blob_reported Objects) (take left (other_blobs_of s))) ++ codes "]")
