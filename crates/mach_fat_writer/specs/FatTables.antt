-- The table of a fat file of either form: a header, and a record for each entry (`mach-o/fat.h`).
use Rattle.std.specs.Prelude.{◌==◌, ℕ, ◌/◌, List, length, drop, codes, nat_le, Option, Some, None, Result, Ok, Err, if◌then◌else◌}
use Rattle.mach_base.specs.Answer.{◌>>=◌}
use Rattle.mach_base.specs.Fault.{Fault, too_short}
use Rattle.mach_base.specs.Items.{items_from, all_read}
use Rattle.mach_base.specs.Number.{number, number_at, bounded}
use Rattle.mach_base.specs.Record.{Value, number_among, size}
use Rattle.mach_base.specs.declared.context.Endian.TheVariants.{Big}
use Rattle.mach_fat_writer.specs.FatForms.{FatForm, fat_form_32, fat_form_64}
use Rattle.mach_fat_writer.specs.FatReads.{declared_record}
use Rattle.mach_fat_writer.specs.declared.form.Form.{Form}
use Rattle.mach_fat_writer.specs.declared.form.Form.TheVariants.{Bits32, Bits64}
use Rattle.mach_fat_writer.specs.declared.entry_record.EntryRecord.{EntryRecord}

abbrev pub form_of : Form → FatForm
form_of Bits32 = fat_form_32
form_of Bits64 = fat_form_64

-- the form of a magic
abbrev pub form_by_magic : Result ℕ Fault → Option FatForm
form_by_magic (Ok magic) = if magic == 0xcafe_babe then Some fat_form_32 else (if magic == 0xcafe_babf then Some fat_form_64 else None)
form_by_magic (Err f) = None

-- the form of a fat file; none where the bytes are no fat file
abbrev pub form_in : List ℕ → Option FatForm
form_in bytes = form_by_magic (number_at Big 4 bytes 0)

-- the record of some values, which have the same order in both forms
abbrev pub record_of_values : List Value → EntryRecord
record_of_values vs =
    record {
      cputype = number_among vs 0;
      cpusubtype = number_among vs 1;
      offset = number_among vs 2;
      size = number_among vs 3;
      align = number_among vs 4;
    }

-- the record at an index, or why it isn't there
abbrev pub fat_record_in : FatForm → List ℕ → ℕ → Result EntryRecord Fault
fat_record_in form bytes i = declared_record form bytes i >>= (λ vs. Ok (record_of_values vs))

-- n records, if the bytes could hold them; else the fault of the first that isn't there
abbrev pub fat_table_by : FatForm → List ℕ → ℕ → Result (List EntryRecord) Fault
fat_table_by form bytes n =
    if nat_le n (length bytes / size form.fields) then all_read (items_from (fat_record_in form bytes) 0 n) else Err (too_short n (codes "arches"))

-- the count of entries in a fat file's header, which has 8 bytes
abbrev pub header_count_in : List ℕ → Result ℕ Fault
header_count_in bytes = bounded 8 bytes 0 (number Big 4 (drop 4 bytes))

-- the records of a fat file: as many as its header says
abbrev pub fat_table_in : FatForm → List ℕ → Result (List EntryRecord) Fault
fat_table_in form bytes = header_count_in bytes >>= fat_table_by form bytes
