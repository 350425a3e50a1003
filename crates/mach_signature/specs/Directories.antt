-- A code directory (`cs_blobs.h`, struct __CodeDirectory; CodeDirectory of Security): what it says about the code that it covers.
-- Offsets count from its first byte.
use Rattle.std.specs.Prelude.{ℕ, ◌+◌, ◌-◌, ◌*◌, ◌/◌, ◌^◌, min, List, length, take, drop, Option, Some, None, Result, Ok, Err, nat_lt, nat_le, ◌==◌, ◌&&◌, Bool}
use Rattle.std.specs.Prelude.{if◌then◌else◌, codes}
use Rattle.std.specs.List.{list_any}
use Rattle.mach_base.specs.declared.context.Endian.TheVariants.{Big}
use Rattle.mach_base.specs.Answer.{◌>>=◌}
use Rattle.mach_base.specs.Fault.{Fault, malformed, bad_magic, bad_offset, too_short}
use Rattle.mach_base.specs.Number.{number, number_at, rest_from, room_at}
use Rattle.mach_base.specs.Record.{record_at}
use Rattle.mach_base.specs.Sums.{found_or_malformed}
use Rattle.mach_base.specs.Text.{is_zero, text_at}
use Rattle.mach_signature.specs.DirectoryRecords.{directory_head_fields, directory_head_of_values}
use Rattle.mach_signature.specs.Hashes.{hash_type_of, hash_len, hash_of}
use Rattle.mach_signature.specs.declared.hash.HashType.{HashType}
use Rattle.mach_signature.specs.declared.records.DirectoryHead.{DirectoryHead}
use Rattle.mach_signature.specs.declared.records.ExecutableSegment.{ExecutableSegment}
use Rattle.mach_signature.specs.declared.records.RuntimeFields.{RuntimeFields}

-- its bytes, the fields that every version has, its hash, and the fields that its version may lack
pub record Directory : Type 0 where
  pub bytes : List ℕ
  pub head : DirectoryHead
  pub hash : HashType
  pub scatter_offset : Option ℕ
  pub team_offset : Option ℕ
  pub spare3 : Option ℕ
  pub code_limit64 : Option ℕ
  pub executable : Option ExecutableSegment
  pub runtime : Option RuntimeFields

-- ---- which bytes are a code directory

abbrev pub directory_magic : ℕ → Result ℕ Fault
directory_magic magic = if magic == 0xfade0c02 then Ok magic else Err (bad_magic magic)

abbrev pub directory_head_at : List ℕ → Result DirectoryHead Fault
directory_head_at bytes = record_at Big directory_head_fields bytes 0 >>= (λ vs. Ok (directory_head_of_values vs))

-- the versions that are read
abbrev pub readable_version : ℕ → Result ℕ Fault
readable_version v = if nat_lt v 0x20001 then Err malformed else if nat_lt 0x2f000 v then Err malformed else Ok v

-- how many bytes the fields of a version take
abbrev pub fields_len : ℕ → ℕ
fields_len v =
    if nat_lt v 0x20100 then 44
    else if nat_lt v 0x20200 then 48
    else if nat_lt v 0x20300 then 52
    else if nat_lt v 0x20400 then 64
    else if nat_lt v 0x20500 then 88
    else 96

-- the hash has the size that the directory gives, and a page has no more than 2 ^ 31 bytes
abbrev pub sized_hash : DirectoryHead → HashType → Result HashType Fault
sized_hash head hash =
    if head.hash_size == hash_len hash then (if nat_lt 31 head.page_size then Err malformed else Ok hash)
    else Err malformed

-- the slots lie in the bytes: the special ones before hash_offset, the code slots from there on
abbrev pub with_slots : List ℕ → DirectoryHead → HashType → Result HashType Fault
with_slots bytes head hash =
    if nat_lt (length bytes) head.hash_offset then Err (bad_offset head.hash_offset)
    else if nat_lt head.hash_offset (head.n_special_slots * head.hash_size) then Err (too_short head.n_special_slots (codes "special slots"))
    else if nat_lt (length bytes - head.hash_offset) (head.n_code_slots * head.hash_size) then Err (too_short head.n_code_slots (codes "code slots"))
    else Ok hash

-- a field that directories have since version `first`
abbrev pub field_from : {A : Type 0} → ℕ → ℕ → A → Option A
field_from version first field = if nat_lt version first then None else Some field

-- the executable segment: where it begins, how many bytes it has, and its flags
abbrev pub executable_of : ℕ → List ℕ → Option ExecutableSegment
executable_of version bytes =
    field_from version 0x20400
    (record { base = number Big 8 (drop 64 bytes); limit = number Big 8 (drop 72 bytes); flags = number Big 8 (drop 80 bytes) })

-- the version of the runtime, and the offset of the hashes of pages before their encryption
abbrev pub runtime_of : ℕ → List ℕ → Option RuntimeFields
runtime_of version bytes =
    field_from version 0x20500 (record { version = number Big 4 (drop 88 bytes); pre_encrypt_offset = number Big 4 (drop 92 bytes) })

-- the directory of these bytes; its fields and slots lie in them
abbrev pub directory_with : List ℕ → DirectoryHead → HashType → Directory
directory_with bytes head hash = record {
  bytes = bytes;
  head = head;
  hash = hash;
  scatter_offset = field_from head.version 0x20100 (number Big 4 (drop 44 bytes));
  team_offset = field_from head.version 0x20200 (number Big 4 (drop 48 bytes));
  spare3 = field_from head.version 0x20300 (number Big 4 (drop 52 bytes));
  code_limit64 = field_from head.version 0x20300 (number Big 8 (drop 56 bytes));
  executable = executable_of head.version bytes;
  runtime = runtime_of head.version bytes;
}

-- the directory of these bytes, or why they are none
unfoldable pub directory_at : List ℕ → Result Directory Fault
directory_at bytes = do
  magic ← number_at Big 4 bytes 0
  known ← directory_magic magic
  head ← directory_head_at bytes
  version ← readable_version head.version
  room ← room_at (fields_len version) bytes 0
  found ← found_or_malformed (hash_type_of head.hash_type)
  hash ← sized_hash head found
  inside ← with_slots bytes head hash
  Ok (directory_with bytes head inside)

-- ---- texts

-- the text at a place, up to a zero byte, which must be there
abbrev pub closed_text_at : List ℕ → ℕ → Result (List ℕ) Fault
closed_text_at bytes s = rest_from bytes s >>= (λ rest. if list_any is_zero rest then text_at bytes s else Err malformed)

-- the name at a place; 0 means none
abbrev pub name_at : List ℕ → Option ℕ → Result (Option (List ℕ)) Fault
name_at bytes None = Ok None
name_at bytes (Some s) = if s == 0 then Ok None else (closed_text_at bytes s >>= (λ name. Ok (Some name)))

unfoldable pub identifier_of : Directory → Result (Option (List ℕ)) Fault
identifier_of d = name_at d.bytes (Some d.head.ident_offset)

unfoldable pub team_of : Directory → Result (Option (List ℕ)) Fault
team_of d = name_at d.bytes d.team_offset

-- ---- what it covers

-- the limit of 64 bits if it is there and not 0, else that of 32
abbrev pub limit_by : Option ℕ → ℕ → ℕ
limit_by None short = short
limit_by (Some long) short = if long == 0 then short else long

-- how many bytes of the image are covered
abbrev pub code_limit_of : Directory → ℕ
code_limit_of d = limit_by d.code_limit64 d.head.code_limit

-- how many pages they have: each of 2 ^ page_size bytes except the last, which may be shorter; one page of all bytes if page_size is 0
abbrev pub page_count_of : Directory → ℕ
page_count_of d =
    let limit = code_limit_of d in
    let size = 2 ^ d.head.page_size in
    if d.head.page_size == 0 then (if limit == 0 then 0 else 1) else (limit + (size - 1)) / size

abbrev pub page_start : Directory → ℕ → ℕ
page_start d k = if d.head.page_size == 0 then 0 else k * 2 ^ d.head.page_size

abbrev pub page_end : Directory → ℕ → ℕ
page_end d k = if d.head.page_size == 0 then code_limit_of d else min ((k + 1) * 2 ^ d.head.page_size) (code_limit_of d)

-- the bytes of an image between two places
abbrev pub bytes_between : List ℕ → (start end : ℕ) → List ℕ
bytes_between image start end = take (end - start) (drop start image)

-- the bytes of a page; the last one isn't padded
abbrev pub page_bytes : Directory → List ℕ → ℕ → List ℕ
page_bytes d image k = bytes_between image (page_start d k) (page_end d k)

-- ---- its hashes

abbrev pub slot_bytes : Directory → ℕ → List ℕ
slot_bytes d place = take d.head.hash_size (drop place d.bytes)

-- the hash of a page
abbrev pub code_slot_bytes : Directory → ℕ → List ℕ
code_slot_bytes d k = slot_bytes d (d.head.hash_offset + k * d.head.hash_size)

abbrev pub code_slot_of : Directory → ℕ → Option (List ℕ)
code_slot_of d k = if nat_lt k d.head.n_code_slots then Some (code_slot_bytes d k) else None

-- the hash of a special slot; they count from hash_offset downwards, and the first is number 1
abbrev pub special_slot_bytes : Directory → ℕ → List ℕ
special_slot_bytes d k = slot_bytes d (d.head.hash_offset - k * d.head.hash_size)

abbrev pub special_slot_of : Directory → ℕ → Option (List ℕ)
special_slot_of d k = if nat_le 1 k && nat_le k d.head.n_special_slots then Some (special_slot_bytes d k) else None

-- the whole hash of the directory
abbrev pub full_cdhash_of : Directory → List ℕ
full_cdhash_of d = hash_of d.hash d.bytes

-- its first 20 bytes, by which callers identify the directory
abbrev pub cdhash_of : Directory → List ℕ
cdhash_of d = take 20 (hash_of d.hash d.bytes)
