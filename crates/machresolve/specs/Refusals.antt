-- The words for a refused file.
use Rattle.std.specs.Prelude.{◌+◌, ◌*◌, ℕ, List, Bool, true, false, length, nat_le, Option, Some, None, Result, Ok, Err}
use Rattle.mach_base.specs.Fault.{Fault}
use Rattle.mach_base.specs.Record.{Value, number_among, record_at}
use Rattle.mach_base.specs.declared.context.Endian.TheVariants.{Big}
use Rattle.mach_base.specs.declared.error.Error.{Error}
use Rattle.mach_cli.specs.Foreigners.{refused_kind, words_by}
use Rattle.goblin_mach.specs.declared.first_bytes.Foreign.{Foreign}
use Rattle.goblin_mach.specs.declared.first_bytes.Foreign.TheVariants.{JavaClass}
use Rattle.mach_parts.specs.Fat.{fat_header_fields}

-- whether bytes of this size hold the table that a fat file's header counts: 20 for each entry, after the 8 of the header (`mach-o/fat.h`).
abbrev pub is_table_by : (header : Result (List Value) Fault) → (size : ℕ) → Bool
is_table_by (Ok values) size = nat_le (8 + 20 * number_among values 1) size
is_table_by (Err f) size = false

abbrev pub has_table : List ℕ → Bool
has_table bytes = is_table_by (record_at Big fat_header_fields bytes 0) (length bytes)

-- a kind, except that of a Java class if the bytes hold a table
abbrev pub kind_with_table : (table : Bool) → Option Foreign → Option Foreign
kind_with_table true (Some JavaClass) = None
kind_with_table table kind = kind

-- The kind of a file that is refused for an error, if it is not Mach-O. A Java class and a fat file begin alike: one that holds its
-- table is a fat file, however many entries it has, and not a Java class.
abbrev pub kind_reported : List ℕ → Error → Option Foreign
kind_reported bytes e = kind_with_table (has_table bytes) (refused_kind bytes e)

-- the words for a refused file: its kind, if it is not Mach-O, else those of the error
abbrev pub reported_words : List ℕ → Error → List ℕ
reported_words bytes e = words_by (kind_reported bytes e) e
