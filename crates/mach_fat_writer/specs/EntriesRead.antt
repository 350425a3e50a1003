-- The entries of a file.
use Rattle.std.specs.Prelude.{ℕ, ◌+◌, List, [], ◌∷◌, length, take, drop, nat_le, nat_lt, Option, Some, None, Result, Ok, Err}
use Rattle.std.specs.Prelude.{if◌then◌else◌}
use Rattle.mach_base.specs.Fault.{Fault}
use Rattle.mach_fat_writer.specs.CreatedEntries.{created_entry}
use Rattle.mach_fat_writer.specs.Entries.{FatEntryView}
use Rattle.mach_fat_writer.specs.FatForms.{FatForm}
use Rattle.mach_fat_writer.specs.FatTables.{form_in, fat_table_in}
use Rattle.mach_fat_writer.specs.Unfit.{Unfit, unread, out_of_file, overlap}
use Rattle.mach_fat_writer.specs.declared.entry_record.EntryRecord.{EntryRecord}

-- the bytes of an entry, if they lie in the file
abbrev pub slice_of : List ℕ → EntryRecord → Option (List ℕ)
slice_of bytes r = if nat_le (r.offset + r.size) (length bytes) then Some (take r.size (drop r.offset bytes)) else None

-- the entry of a record and its bytes
abbrev pub entry_with : EntryRecord → List ℕ → FatEntryView
entry_with r bytes = record { cputype = r.cputype; cpusubtype = r.cpusubtype; align = r.align; bytes = bytes }

-- an entry before the later ones
abbrev pub entry_ahead : FatEntryView → Result (List FatEntryView) Unfit → Result (List FatEntryView) Unfit
entry_ahead e (Ok es) = Ok (e ∷ es)
entry_ahead e (Err why) = Err why

-- entry i, if its bytes are there, before the later ones
abbrev pub entry_read_by : ℕ → EntryRecord → Option (List ℕ) → Result (List FatEntryView) Unfit → Result (List FatEntryView) Unfit
entry_read_by i r (Some slice) rest = entry_ahead (entry_with r slice) rest
entry_read_by i r None rest = Err (out_of_file i)

-- the entries of records, numbered from i on, or the first that isn't in the file
abbrev pub entries_by : List ℕ → ℕ → List EntryRecord → Result (List FatEntryView) Unfit
entries_by bytes i [] = Ok []
entries_by bytes i (r ∷ rs) = entry_read_by i r (slice_of bytes r) (entries_by bytes (i + 1) rs)

-- how many bytes entries have together
abbrev pub entries_len : List FatEntryView → ℕ
entries_len [] = 0
entries_len (e ∷ es) = length e.bytes + entries_len es

-- the entries, if they have no more bytes than `most`
abbrev pub of_bytes : ℕ → Result (List FatEntryView) Unfit → Result (List FatEntryView) Unfit
of_bytes most (Ok es) = if nat_lt most (entries_len es) then Err overlap else Ok es
of_bytes most (Err why) = Err why

abbrev pub entries_by_table : List ℕ → Result (List EntryRecord) Fault → Result (List FatEntryView) Unfit
entries_by_table bytes (Ok records) = of_bytes (length bytes) (entries_by bytes 0 records)
entries_by_table bytes (Err f) = Err (unread f)

-- The entries of a fat file: all are in it, and they have no more bytes than it has.
abbrev pub fat_entries_in : FatForm → List ℕ → Result (List FatEntryView) Unfit
fat_entries_in form bytes = entries_by_table bytes (fat_table_in form bytes)

abbrev pub one_entry : Result FatEntryView Fault → Result (List FatEntryView) Unfit
one_entry (Ok e) = Ok (e ∷ [])
one_entry (Err f) = Err (unread f)

-- What a file contributes to one that is created: the entries of a fat file, or the one that it becomes.
abbrev pub entries_by_form : Option FatForm → List ℕ → Result (List FatEntryView) Unfit
entries_by_form (Some form) bytes = fat_entries_in form bytes
entries_by_form None bytes = one_entry (created_entry bytes)

abbrev pub file_entries : List ℕ → Result (List FatEntryView) Unfit
file_entries bytes = entries_by_form (form_in bytes) bytes
