-- The requirements of a signature, by their types (Security, `requirement.h` and `superblob.h`).
use Rattle.std.specs.Prelude.{ℕ, ◌+◌, ◌*◌, List, length, nat_le, Bool, true, false, ◌==◌, ◌&&◌, if◌then◌else◌, Option, Some, None}
use Rattle.std.specs.Prelude.{Result, Ok, Err}
use Rattle.mach_base.specs.Answer.{◌>>=◌}
use Rattle.mach_base.specs.Fault.{Fault, malformed}
use Rattle.mach_signature.specs.SignViews.{signature_view}
use Rattle.mach_signature.specs.SuperBlob.{SuperBlob, BlobThere, blob_of}
use Rattle.mach_signature.specs.Requirements.{word_at}
use Rattle.mach_signature.specs.declared.requirements.requirement.Requirement.{Requirement}
use Rattle.mach_signature.specs.declared.requirements.set.Requirements.{Requirements}
use Rattle.mach_signature.specs.declared.requirements.set.RequirementType.{RequirementType}
use Rattle.mach_signature.specs.declared.requirements.set.RequirementType.TheVariants.{Host, Guest, Designated, Library, Plugin}

-- ---- the index: that of a signature's form, with types in place of slots

abbrev pub index_of_count : BlobThere → (count : ℕ) → Result SuperBlob Fault
index_of_count blob count =
    if blob.magic == 0xfade0c01 && nat_le (12 + 8 * count) (length blob.bytes) then Ok (record { bytes = blob.bytes; count = count })
    else Err malformed

-- the index in a blob of requirements
unfoldable pub requirements_index : BlobThere → Result SuperBlob Fault
requirements_index blob = word_at blob.bytes 8 >>= index_of_count blob

abbrev pub index_if_any : Option BlobThere → Result (Option SuperBlob) Fault
index_if_any None = Ok None
index_if_any (Some blob) = requirements_index blob >>= (λ index. Ok (Some index))

-- the index of the requirements of a signature: that of the first blob of slot 2
unfoldable pub requirements_of : SuperBlob → Result (Option SuperBlob) Fault
requirements_of s = blob_of s 2 >>= index_if_any

-- ---- the types

-- the number of a type (`SecRequirementType`)
abbrev pub type_number : RequirementType → ℕ
type_number Host = 1
type_number Guest = 2
type_number Designated = 3
type_number Library = 4
type_number Plugin = 5

abbrev pub requirement_if_any : Option BlobThere → Option (List ℕ)
requirement_if_any None = None
requirement_if_any (Some blob) = Some blob.bytes

-- the bytes of the first requirement of a type, by its number
unfoldable pub requirement_of : SuperBlob → (kind : ℕ) → Result (Option (List ℕ)) Fault
requirement_of index kind = blob_of index kind >>= (λ blob. Ok (requirement_if_any blob))

-- ---- what can be read

-- what was looked up can be read, or isn't there
abbrev pub is_readable_blob : Result (Option BlobThere) Fault → Bool
is_readable_blob (Ok blob) = true
is_readable_blob (Err f) = false

-- the first requirements of the five types can be read
abbrev pub has_readable_types : SuperBlob → Bool
has_readable_types index =
    is_readable_blob (blob_of index 1) && (is_readable_blob (blob_of index 2) && (is_readable_blob (blob_of index 3)
    && (is_readable_blob (blob_of index 4) && is_readable_blob (blob_of index 5))))

abbrev pub is_readable_index : Result (Option SuperBlob) Fault → Bool
is_readable_index (Ok None) = true
is_readable_index (Ok (Some index)) = has_readable_types index
is_readable_index (Err f) = false

-- the requirements of a signature can be read, if it has some
abbrev pub has_readable_requirements : SuperBlob → Bool
has_readable_requirements s = is_readable_index (requirements_of s)

-- ---- what contracts see

abbrev pub requirements_view : Requirements → SuperBlob
requirements_view r = signature_view r.index

abbrev pub requirement_view : Requirement → List ℕ
requirement_view r = r.bytes.now
