-- A signature: blobs by slots, after an index (`cs_blobs.h`, struct __SC_SuperBlob; all numbers are big-endian).
use Rattle.std.specs.Prelude.{ℕ, ◌+◌, ◌*◌, List, length, take, drop, find, Option, Some, None, Result, Ok, Err, nat_lt, ◌==◌, if◌then◌else◌, codes}
use Rattle.std.specs.List.{range_with_len}
use Rattle.mach_base.specs.declared.context.Endian.TheVariants.{Big}
use Rattle.mach_base.specs.Answer.{◌>>=◌}
use Rattle.mach_base.specs.Fault.{Fault, malformed, bad_magic, too_big, too_short}
use Rattle.mach_base.specs.Items.{items_from}
use Rattle.mach_base.specs.Number.{number, slice_at}
use Rattle.mach_base.specs.Record.{record_at}
use Rattle.mach_signature.specs.SignRecords.{super_blob_fields, super_blob_of_values, blob_head_fields, blob_head_of_values}
use Rattle.mach_signature.specs.declared.records.SuperBlobHead.{SuperBlobHead}
use Rattle.mach_signature.specs.declared.records.BlobHead.{BlobHead}

-- its bytes, cut at the length that it gives, and how many blobs the index names
pub record SuperBlob : Type 0 where
  pub bytes : List ℕ
  pub count : ℕ

-- a blob: its slot, its offset, its magic, and its bytes with the head of 8 bytes
pub record BlobThere : Type 0 where
  pub slot : ℕ
  pub offset : ℕ
  pub magic : ℕ
  pub bytes : List ℕ

abbrev pub super_blob_head_at : List ℕ → Result SuperBlobHead Fault
super_blob_head_at bytes = record_at Big super_blob_fields bytes 0 >>= (λ vs. Ok (super_blob_of_values vs))

-- the signature after a head: cut at its length, with the index in it
abbrev pub signature_after : List ℕ → SuperBlobHead → Result SuperBlob Fault
signature_after bytes h =
    if h.magic == 0xfade0cc0 then
    (if nat_lt h.length 12 then Err malformed
    else if nat_lt (length bytes) h.length then Err (too_big h.length (length bytes))
    else if nat_lt h.length (12 + 8 * h.count) then Err (too_short h.count (codes "blobs"))
    else Ok (record { bytes = take h.length bytes; count = h.count }))
    else Err (bad_magic h.magic)

-- the signature at the start of the bytes
unfoldable pub signature_at : List ℕ → Result SuperBlob Fault
signature_at bytes = super_blob_head_at bytes >>= signature_after bytes

-- what the index says about a blob: its slot, and its offset
abbrev pub slot_at : SuperBlob → ℕ → ℕ
slot_at s k = number Big 4 (drop (12 + 8 * k) s.bytes)

abbrev pub blob_place : SuperBlob → ℕ → ℕ
blob_place s k = number Big 4 (drop (16 + 8 * k) s.bytes)

abbrev pub blob_head_at : List ℕ → ℕ → Result BlobHead Fault
blob_head_at bytes s = record_at Big blob_head_fields bytes s >>= (λ vs. Ok (blob_head_of_values vs))

-- the bytes of a blob; it has at least 8
abbrev pub blob_bytes_at : List ℕ → ℕ → BlobHead → Result (List ℕ) Fault
blob_bytes_at bytes s head = if nat_lt head.length 8 then Err malformed else slice_at head.length bytes s

-- the blob of a number
unfoldable pub blob_at : SuperBlob → ℕ → Result BlobThere Fault
blob_at s k = do
  head ← blob_head_at s.bytes (blob_place s k)
  bytes ← blob_bytes_at s.bytes (blob_place s k) head
  Ok (record { slot = slot_at s k; offset = blob_place s k; magic = head.magic; bytes = bytes })

-- all blobs
abbrev pub blobs_of : SuperBlob → List (Result BlobThere Fault)
blobs_of s = items_from (blob_at s) 0 s.count

-- the number of the first blob of a slot
abbrev pub first_blob_of : SuperBlob → ℕ → Option ℕ
first_blob_of s slot = find (λ k. slot_at s k == slot) (range_with_len 0 s.count)

-- the blob of a number, if there is one
abbrev pub blob_if_any : SuperBlob → Option ℕ → Result (Option BlobThere) Fault
blob_if_any s None = Ok None
blob_if_any s (Some k) = blob_at s k >>= (λ blob. Ok (Some blob))

-- the first blob of a slot
unfoldable pub blob_of : SuperBlob → ℕ → Result (Option BlobThere) Fault
blob_of s slot = blob_if_any s (first_blob_of s slot)

-- the bytes of a blob after its head of 8 bytes
abbrev pub content_if_any : Option BlobThere → Option (List ℕ)
content_if_any None = None
content_if_any (Some blob) = Some (drop 8 blob.bytes)

-- the bytes of the first blob of a slot after its head
unfoldable pub content_of : SuperBlob → ℕ → Result (Option (List ℕ)) Fault
content_of s slot = blob_of s slot >>= (λ blob. Ok (content_if_any blob))
