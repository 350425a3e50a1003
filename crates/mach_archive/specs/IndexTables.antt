-- The table of an index (`ranlib.h`, struct ranlib and ranlib_64; GNU's `/` and `/SYM64/`), and the faults of the table itself.
use Rattle.std.specs.Prelude.{◌==◌, ℕ, ◌+◌, ◌-◌, ◌*◌, ◌/◌, ◌%◌, List, length, drop, Option, Some, None, Result, Ok, Err, nat_le, if◌then◌else◌, codes}
use Rattle.mach_base.specs.declared.context.Endian.{Endian}
use Rattle.mach_base.specs.declared.context.Endian.TheVariants.{Little, Big}
use Rattle.mach_base.specs.Answer.{◌>>=◌}
use Rattle.mach_base.specs.Fault.{Fault, malformed, too_big, too_short}
use Rattle.mach_base.specs.Number.{number, number_at}
use Rattle.mach_archive.specs.declared.archive.ArchiveKind.{ArchiveKind}
use Rattle.mach_archive.specs.declared.archive.ArchiveKind.TheVariants.{Gnu, Bsd}
use Rattle.mach_archive.specs.Archives.{ArchiveView, ArchiveIndexView, archive_kind}
use Rattle.mach_archive.specs.Places.{PlacedText, rest_of_text, front_of_text}

-- a table: its form, the byte order and the width of its numbers, the number of
-- its symbols, the bytes from its first record on, and the names with their place
pub record IndexTable : Type 0 where
  pub kind : ArchiveKind
  pub le : Endian
  pub width : ℕ
  pub count : ℕ
  pub records : List ℕ
  pub names : PlacedText

-- GNU's form: a count, as many places of headers, and the names up to the end
abbrev pub gnu_table_of : ℕ → PlacedText → ℕ → Result IndexTable Fault
gnu_table_of w t n =
    if nat_le (w + w * n) (length t.text) then
    Ok (record { kind = Gnu; le = Big; width = w; count = n; records = drop w t.text; names = rest_of_text (w + w * n) t })
    else Err (too_short n (codes "symbols"))

abbrev pub gnu_table : ℕ → PlacedText → Result IndexTable Fault
gnu_table w t = number_at Big w t.text 0 >>= gnu_table_of w t

-- BSD's form, with n bytes of records and s bytes of names: the names are the s bytes after both numbers and the records
abbrev pub bsd_names : Endian → ℕ → PlacedText → (n s : ℕ) → Result IndexTable Fault
bsd_names le w t n s =
    let left = length t.text - (w + n + w) in
    if nat_le s left then
    Ok (record { kind = Bsd; le = le; width = w; count = n / (2 * w); records = drop w t.text; names = front_of_text s (rest_of_text (w + n + w) t) })
    else Err (too_big s left)

abbrev pub bsd_table_of : Endian → ℕ → PlacedText → ℕ → Result IndexTable Fault
bsd_table_of le w t n =
    if n % (2 * w) == 0 then
    (if nat_le (w + n + w) (length t.text) then bsd_names le w t n (number le w (drop (w + n) t.text))
    else Err (too_short (n / (2 * w)) (codes "symbols")))
    else Err malformed

abbrev pub bsd_table_in : Endian → ℕ → PlacedText → Result IndexTable Fault
bsd_table_in le w t = number_at le w t.text 0 >>= bsd_table_of le w t

-- the first of two readings; if it fails, the second; if both fail, the first fault
abbrev pub or_else_read : {A : Type 0} → Result A Fault → Result A Fault → Result A Fault
or_else_read (Ok x) second = Ok x
or_else_read (Err f) (Ok y) = Ok y
or_else_read (Err f) (Err g) = Err f

-- as little-endian, or else as big-endian
abbrev pub bsd_table : ℕ → PlacedText → Result IndexTable Fault
bsd_table w t = or_else_read (bsd_table_in Little w t) (bsd_table_in Big w t)

unfoldable pub index_table : ArchiveKind → ArchiveIndexView → Result IndexTable Fault
index_table Gnu index = gnu_table index.width index.table
index_table Bsd index = bsd_table index.width index.table

-- the table of an archive, if it has an index
abbrev pub index_table_by : ArchiveKind → Option ArchiveIndexView → Result (Option IndexTable) Fault
index_table_by kind None = Ok None
index_table_by kind (Some index) = index_table kind index >>= (λ t. Ok (Some t))

abbrev pub archive_table : ArchiveView → Result (Option IndexTable) Fault
archive_table a = index_table_by (archive_kind a.names) a.index
