-- The start of an archive (`ar.h`, ARMAG; `ranlib.h`, SYMDEF): its form, its index, its names, and where members begin.
use Rattle.std.specs.Prelude.{◌==◌, ◌||◌, ℕ, List, [], ◌∷◌, ◌++◌, length, Option, Some, None, option_map, is_some, Result, Ok, Err, nat_le, nat_lt}
use Rattle.std.specs.Prelude.{if◌then◌else◌, codes}
use Rattle.std.specs.Str.{bytes_eq}
use Rattle.mach_base.specs.declared.context.Endian.TheVariants.{Big}
use Rattle.mach_base.specs.Answer.{◌>>=◌}
use Rattle.mach_base.specs.Fault.{Fault, malformed, bad_magic}
use Rattle.mach_base.specs.Number.{slice_at, number}
use Rattle.mach_base.specs.Text.{is_zero}
use Rattle.mach_archive.specs.declared.archive.ArchiveKind.{ArchiveKind}
use Rattle.mach_archive.specs.declared.archive.ArchiveKind.TheVariants.{Gnu, Bsd}
use Rattle.mach_archive.specs.Fields.{is_space, without_end, word_of}
use Rattle.mach_archive.specs.MemberHeaders.{MemberHeader, member_header_at, name_field, next_header}
use Rattle.mach_archive.specs.Members.{LongNames, MemberView, member_of, placed_body, long_name_of}
use Rattle.mach_archive.specs.Places.{PlacedText}

-- an index: the width of its numbers in bytes, and its bytes
pub record ArchiveIndexView : Type 0 where
  pub width : ℕ
  pub table : PlacedText

pub record ArchiveView : Type 0 where
  pub bytes : List ℕ
  pub index : Option ArchiveIndexView
  pub names : LongNames
  pub begin : ℕ

-- the form: GNU's has a list of names, which may be empty
abbrev pub archive_kind : LongNames → ArchiveKind
archive_kind (Some names) = Gnu
archive_kind None = Bsd

-- the width of the numbers in an index with this name
abbrev pub bsd_width : List ℕ → Option ℕ
bsd_width name =
    if bytes_eq name (codes "__.SYMDEF") || bytes_eq name (codes "__.SYMDEF SORTED") then Some 4
    else (if bytes_eq name (codes "__.SYMDEF_64") || bytes_eq name (codes "__.SYMDEF_64 SORTED") then Some 8 else None)

abbrev pub gnu_width : List ℕ → Option ℕ
gnu_width word = if bytes_eq word (codes "/") then Some 4 else (if bytes_eq word (codes "/SYM64/") then Some 8 else None)

-- the long name without the zeros at its end, or else the name field without its trailing spaces
abbrev pub index_name_by : Option PlacedText → List ℕ → List ℕ
index_name_by (Some long) field = without_end is_zero long.text
index_name_by None field = without_end is_space field

abbrev pub index_name : List ℕ → MemberHeader → List ℕ
index_name bytes h = index_name_by (long_name_of bytes h) (name_field h.fields)

-- the index, if the member is one: then its numbers have a width
abbrev pub index_of : List ℕ → MemberHeader → Option ℕ → Option ArchiveIndexView
index_of bytes h width = option_map (λ w. record { width = w; table = placed_body bytes h }) width

-- the place after the member if it is an index, or else its place
abbrev pub after_index : MemberHeader → Option ℕ → ℕ
after_index h width = if is_some width then next_header h else h.place

-- an archive in BSD's form, by its first header
abbrev pub bsd_archive : List ℕ → MemberHeader → ArchiveView
bsd_archive bytes h =
    let width = bsd_width (index_name bytes h) in
    record { bytes = bytes; index = index_of bytes h width; names = None; begin = after_index h width }

-- no list of names
abbrev pub no_names : PlacedText
no_names = record { place = 0; text = [] }

-- the names at a place, and the place after them; or an empty list, and the same place
abbrev pub names_or_none : List ℕ → MemberHeader → PlacedText × ℕ
names_or_none bytes h =
    if bytes_eq (word_of (name_field h.fields)) (codes "//") then (placed_body bytes h, next_header h) else (no_names, h.place)

abbrev pub names_at : List ℕ → ℕ → Result (PlacedText × ℕ) Fault
names_at bytes from =
    if nat_le (length bytes) from then Ok (no_names, from) else member_header_at bytes from >>= (λ h. Ok (names_or_none bytes h))

-- an archive in GNU's form, by its first header: the index, then the names, then the members
abbrev pub gnu_archive : List ℕ → MemberHeader → Result ArchiveView Fault
gnu_archive bytes h =
    let width = gnu_width (word_of (name_field h.fields)) in
    names_at bytes (after_index h width)
    >>= (λ found. Ok (record { bytes = bytes; index = index_of bytes h width; names = Some found.0; begin = found.1 }))

abbrev pub archive_by : List ℕ → MemberHeader → Result ArchiveView Fault
archive_by bytes h =
    if is_some h.long || is_some (bsd_width (index_name bytes h)) then Ok (bsd_archive bytes h) else gnu_archive bytes h

-- an archive without members
abbrev pub empty_archive : List ℕ → ArchiveView
empty_archive bytes = record { bytes = bytes; index = None; names = Some no_names; begin = 8 }

-- the archive, after its magic
abbrev pub archive_after_magic : List ℕ → Result ArchiveView Fault
archive_after_magic bytes =
    if length bytes == 8 then Ok (empty_archive bytes) else member_header_at bytes 8 >>= archive_by bytes

-- the archive, by its magic; a thin archive is not read
abbrev pub archive_by_magic : List ℕ → List ℕ → Result ArchiveView Fault
archive_by_magic bytes magic =
    if bytes_eq magic (codes "!<thin>" ++ 0x0a ∷ []) then Err malformed
    else (if bytes_eq magic (codes "!<arch>" ++ 0x0a ∷ []) then archive_after_magic bytes
    else Err (bad_magic (number Big 4 magic)))

-- the archive that some bytes are, or the reason why they are none
unfoldable pub archive_in : List ℕ → Result ArchiveView Fault
archive_in bytes = slice_at 8 bytes 0 >>= archive_by_magic bytes

-- the member whose header is at a place, which must be after the magic
abbrev pub archive_member_at : ArchiveView → ℕ → Result MemberView Fault
archive_member_at a place =
    if nat_lt place 8 then Err malformed else member_header_at a.bytes place >>= (λ h. Ok (member_of a.bytes a.names h))
