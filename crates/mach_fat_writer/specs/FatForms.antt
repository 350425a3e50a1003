-- Fat files as they are written (`mach-o/fat.h`): a header, a record for each entry, and the entries' bytes, each at a multiple
-- of its alignment.
use Rattle.std.specs.Prelude.{ℕ, ◌+◌, ◌-◌, ◌*◌, ◌%◌, ◌^◌, List, [], ◌∷◌, ◌++◌, length, replicate}
use Rattle.mach_base.specs.Record.{Field, Value, number_is, size, spelling}
use Rattle.mach_base.specs.declared.context.Endian.TheVariants.{Big}
use Rattle.mach_parts.specs.Fat.{fat_header_fields, fat_arch_fields}
use Rattle.mach_fat_writer.specs.Entries.{FatEntryView}
use Rattle.mach_parts.specs.FatRecords.{fat_arch_64_fields}

-- a form: its magic, the fields of a record, their values for an entry and its offset, and the largest offset and length that they hold
pub record FatForm : Type 0 where
  pub magic : ℕ
  pub fields : List Field
  pub values : FatEntryView → ℕ → List Value
  pub most : ℕ

abbrev pub record_of_32 : FatEntryView → ℕ → List Value
record_of_32 e place =
    number_is e.cputype ∷ number_is e.cpusubtype ∷ number_is place ∷ number_is (length e.bytes) ∷ number_is e.align ∷ []

abbrev pub record_of_64 : FatEntryView → ℕ → List Value
record_of_64 e place =
    number_is e.cputype ∷ number_is e.cpusubtype ∷ number_is place ∷ number_is (length e.bytes) ∷ number_is e.align
    ∷ number_is 0 ∷ []

-- offsets and lengths of 32 bits, and of 64
abbrev pub fat_form_32 : FatForm
fat_form_32 = record { magic = 0xcafe_babe; fields = fat_arch_fields; values = record_of_32; most = 2 ^ 32 - 1 }

abbrev pub fat_form_64 : FatForm
fat_form_64 = record { magic = 0xcafe_babf; fields = fat_arch_64_fields; values = record_of_64; most = 2 ^ 64 - 1 }

-- where the table ends: after the header and n records
abbrev pub table_end : FatForm → ℕ → ℕ
table_end form n = 8 + size form.fields * n

-- how many bytes of padding lie between a place and the next multiple of 2 to the power of align
abbrev pub gap_after : ℕ → ℕ → ℕ
gap_after from align = (2 ^ align - from % 2 ^ align) % 2 ^ align

-- the offset of an entry after the bytes that end at `from`, and where it ends
abbrev pub fat_place_after : ℕ → FatEntryView → ℕ
fat_place_after from e = from + gap_after from e.align

abbrev pub end_after : ℕ → FatEntryView → ℕ
end_after from e = fat_place_after from e + length e.bytes

-- the offsets of entries, the first of which follows the bytes that end at `from`, and where the last one ends
abbrev pub fat_places : ℕ → List FatEntryView → List ℕ
fat_places from [] = []
fat_places from (e ∷ es) = fat_place_after from e ∷ fat_places (end_after from e) es

abbrev pub fat_end : ℕ → List FatEntryView → ℕ
fat_end from [] = from
fat_end from (e ∷ es) = fat_end (end_after from e) es

-- the records of entries, one after the other
abbrev pub fat_records : FatForm → ℕ → List FatEntryView → List ℕ
fat_records form from [] = []
fat_records form from (e ∷ es) =
    spelling Big form.fields (form.values e (fat_place_after from e)) ++ fat_records form (end_after from e) es

-- the entries' bytes, each after its padding
abbrev pub fat_contents : ℕ → List FatEntryView → List ℕ
fat_contents from [] = []
fat_contents from (e ∷ es) = replicate (gap_after from e.align) 0 ++ (e.bytes ++ fat_contents (end_after from e) es)

-- the file: magic and count, the table, the entries; nothing follows the last one
abbrev pub fat_front : FatForm → ℕ → List ℕ
fat_front form n = spelling Big fat_header_fields (number_is form.magic ∷ number_is n ∷ [])

unfoldable pub fat_bytes : FatForm → List FatEntryView → List ℕ
fat_bytes form es =
    let from = table_end form (length es) in
    fat_front form (length es) ++ (fat_records form from es ++ fat_contents from es)
