-- The header of a member (`ar.h`, struct ar_hdr): 60 bytes of text.
use Rattle.std.specs.Prelude.{◌==◌, ℕ, ◌+◌, ◌%◌, List, [], ◌∷◌, take, slice_range, Bool, nat_eq, nat_le, Option, Some, None, Result, Ok, Err}
use Rattle.std.specs.Prelude.{if◌then◌else◌, codes}
use Rattle.std.specs.List.{starts_with}
use Rattle.std.specs.Str.{bytes_eq}
use Rattle.mach_base.specs.Answer.{◌>>=◌}
use Rattle.mach_base.specs.Fault.{Fault, malformed}
use Rattle.mach_base.specs.Number.{slice_at, room_at}
use Rattle.mach_base.specs.Sums.{found_or_malformed}
use Rattle.mach_archive.specs.Fields.{word_of, numeral, field_number}

-- ar_name, ar_date, ar_uid, ar_gid, ar_mode, ar_size and ar_fmag
abbrev pub name_field : List ℕ → List ℕ
name_field fields = take 16 fields

abbrev pub date_field : List ℕ → List ℕ
date_field fields = slice_range fields 16 28

abbrev pub uid_field : List ℕ → List ℕ
uid_field fields = slice_range fields 28 34

abbrev pub gid_field : List ℕ → List ℕ
gid_field fields = slice_range fields 34 40

abbrev pub mode_field : List ℕ → List ℕ
mode_field fields = slice_range fields 40 48

abbrev pub size_field : List ℕ → List ℕ
size_field fields = slice_range fields 48 58

abbrev pub end_field : List ℕ → List ℕ
end_field fields = slice_range fields 58 60

-- a header: its place, its bytes, its size field, and how many of the bytes that follow are a long name, if it has one
pub record MemberHeader : Type 0 where
  pub place : ℕ
  pub fields : List ℕ
  pub size : ℕ
  pub long : Option ℕ

-- whether the name follows the header (AR_EFMT1)
abbrev pub has_long_name : List ℕ → Bool
has_long_name fields = starts_with nat_eq fields (codes "#1/")

-- a number, if it is at most another
abbrev pub at_most_or_malformed : ℕ → ℕ → Result ℕ Fault
at_most_or_malformed most n = if nat_le n most then Ok n else Err malformed

-- the length of the long name, which is part of the `size` bytes
abbrev pub named_len : List ℕ → ℕ → Result ℕ Fault
named_len fields size = found_or_malformed (numeral 10 (word_of (slice_range fields 3 16))) >>= at_most_or_malformed size

abbrev pub some_len : ℕ → Result (Option ℕ) Fault
some_len n = Ok (Some n)

abbrev pub long_name_len : List ℕ → ℕ → Result (Option ℕ) Fault
long_name_len fields size = if has_long_name fields then named_len fields size >>= some_len else Ok None

-- a header whose fields were all read
abbrev pub header_with : ℕ → List ℕ → ℕ → Option ℕ → Result MemberHeader Fault
header_with h fields size long = Ok (record { place = h; fields = fields; size = size; long = long })

-- `size` bytes follow a header; a size of 0 is always accepted
abbrev pub room_following : List ℕ → ℕ → ℕ → Result ℕ Fault
room_following bytes h size = if size == 0 then Ok 0 else room_at size bytes (h + 60)

abbrev pub header_by_size : List ℕ → ℕ → List ℕ → ℕ → Result MemberHeader Fault
header_by_size bytes h fields size =
    room_following bytes h size >>= (λ room. long_name_len fields size >>= header_with h fields size)

abbrev pub header_by_fields : List ℕ → ℕ → List ℕ → Result MemberHeader Fault
header_by_fields bytes h fields =
    if bytes_eq (end_field fields) (0x60 ∷ 0x0a ∷ []) then
    found_or_malformed (field_number 10 (size_field fields)) >>= header_by_size bytes h fields
    else Err malformed

-- The header at a place, or the first fault of these: its 60 bytes are there; they end with
-- ARFMAG; the size is a number; as many bytes follow, unless it is 0; they include a long name.
unfoldable pub member_header_at : List ℕ → ℕ → Result MemberHeader Fault
member_header_at bytes h = slice_at 60 bytes h >>= header_by_fields bytes h

-- the place of the next header: after the bytes, and one more if their number is odd
abbrev pub next_header : MemberHeader → ℕ
next_header h = h.place + 60 + h.size + h.size % 2
