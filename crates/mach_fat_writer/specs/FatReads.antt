-- What the table of a written file holds, read back.
use Rattle.std.specs.Prelude.{ℕ, ◌+◌, ◌*◌, ◌^◌, ◌<◌, List, [], ◌∷◌, map, drop, Result}
use Rattle.mach_base.specs.Fault.{Fault}
use Rattle.mach_base.specs.Items.{items_from, all_read}
use Rattle.mach_base.specs.Number.{number}
use Rattle.mach_base.specs.Record.{Value, number_among, record_at, size}
use Rattle.mach_base.specs.declared.context.Endian.TheVariants.{Big}
use Rattle.mach_parts.specs.Fat.{part_of}
use Rattle.mach_fat_writer.specs.Entries.{FatEntryView}
use Rattle.mach_fat_writer.specs.FatForms.{FatForm, fat_place_after, end_after}

-- cputypes and cpusubtypes are numbers of 32 bits
abbrev pub HaveNumbers : List FatEntryView → Type 0
HaveNumbers [] = Unit {0}
HaveNumbers (e ∷ es) = (e.cputype < 2 ^ 32) × (e.cpusubtype < 2 ^ 32) × HaveNumbers es

-- the values of record i of a file, or why it isn't there
abbrev pub declared_record : FatForm → List ℕ → ℕ → Result (List Value) Fault
declared_record form file i = record_at Big form.fields file (8 + size form.fields * i)

-- the values of all records, as many as the header says
abbrev pub declared_records : FatForm → List ℕ → Result (List (List Value)) Fault
declared_records form file = all_read (items_from (declared_record form file) 0 (number Big 4 (drop 4 file)))

-- the values of the records of entries, the first of which follows the bytes that end at `from`
abbrev pub records_of : FatForm → ℕ → List FatEntryView → List (List Value)
records_of form from [] = []
records_of form from (e ∷ es) = form.values e (fat_place_after from e) ∷ records_of form (end_after from e) es

-- the entry of a record, with the bytes at its offset
abbrev pub entry_of_record : List ℕ → List Value → FatEntryView
entry_of_record file record_values =
    record {
      cputype = number_among record_values 0;
      cpusubtype = number_among record_values 1;
      align = number_among record_values 4;
      bytes = part_of file (number_among record_values 2) (number_among record_values 3);
    }

-- the entries of some records
abbrev pub entries_of_records : List ℕ → List (List Value) → List FatEntryView
entries_of_records file records = map (entry_of_record file) records
