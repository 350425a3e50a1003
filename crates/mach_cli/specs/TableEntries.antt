-- The entries of a fat file: which are shown, and which are out of the file.
use Rattle.std.specs.Prelude.{ℕ, zero, suc, ◌+◌, ◌-◌, ◌/◌, ◌^◌, List, ◌++◌, codes, length, min, nat_le, nat_lt, Option, Some, None}
use Rattle.std.specs.Prelude.{Result, Ok, Err, if◌then◌else◌}
use Rattle.std.specs.Fmt.{decimal}
use Rattle.mach_base.specs.Fault.{Fault}
use Rattle.mach_parts.specs.ArchForms.{ArchForm, arch_form_32, arch_in}
use Rattle.mach_parts.specs.declared.fat.FatArch.{FatArch}
use Rattle.mach_parts.specs.Fat.{part_of}
use Rattle.goblin_mach.specs.FatFile.{FatFile}
use Rattle.mach_cli.specs.Listings.{hex_text}
use Rattle.mach_cli.specs.declared.entries.EntryCounts.{EntryCounts}
use Rattle.mach_cli.specs.declared.entries.OutOfFile.{OutOfFile}

-- ---- entries that overlap

-- how many bytes of the file the record of an entry names; none if it can't be read
abbrev pub record_len : {R : Type 0} → ArchForm R → List ℕ → Result R Fault → ℕ
record_len form bytes (Ok arch) = length (part_of bytes (form.offset arch) (form.size arch))
record_len form bytes (Err f) = 0

-- and those of the first n entries together
abbrev pub first_len : {R : Type 0} → ArchForm R → List ℕ → ℕ → ℕ
first_len form bytes zero = 0
first_len form bytes (suc n) = first_len form bytes n + record_len form bytes (arch_in form bytes n)

-- How many of the first entries are shown: the greatest number, up to their count, that have no more bytes together than the file.
abbrev pub entries_shown : {R : Type 0} → ArchForm R → List ℕ → (count : ℕ) → ℕ
entries_shown form bytes zero = 0
entries_shown form bytes (suc n) = if nat_le (first_len form bytes (suc n)) (length bytes) then suc n else entries_shown form bytes n

-- how many of its entries are shown, of `count` in its table, and how many aren't
abbrev pub counts_of : {R : Type 0} → ArchForm R → List ℕ → (count : ℕ) → EntryCounts
counts_of form bytes count = let shown = entries_shown form bytes count in record { shown = shown; left_out = count - shown }

-- of a fat file of 32 bits with this table, how many are shown, and how many aren't
abbrev pub archs_shown : (bytes : List ℕ) → List FatArch → ℕ
archs_shown bytes archs = (counts_of arch_form_32 bytes (length archs)).shown

abbrev pub archs_left_out : (bytes : List ℕ) → List FatArch → ℕ
archs_left_out bytes archs = (counts_of arch_form_32 bytes (length archs)).left_out

-- the counts of a file without entries
abbrev pub no_entries : EntryCounts
no_entries = record { shown = 0; left_out = 0 }

-- those of a fat file, by the count that it states; none, if its bytes couldn't hold so many
abbrev pub counts_in : {R : Type 0} → ArchForm R → Result FatFile Fault → EntryCounts
counts_in form (Ok file) = if nat_le file.narches (length file.bytes / form.stride) then counts_of form file.bytes file.narches else no_entries
counts_in form (Err f) = no_entries

-- why they aren't
abbrev pub left_out_words : ℕ → List ℕ
left_out_words count = codes "entries overlap: the last " ++ (decimal count ++ codes " are left out")

-- ---- entries that are cut off

-- an entry whose bytes aren't all in the file, with where it ends, or the greatest number of 64 bits if that is less
abbrev pub outside_of : (len i end : ℕ) → Option OutOfFile
outside_of len i end = if nat_lt len end then Some (record { entry = i; end = end; len = len }) else None

-- by its record
abbrev pub outside_by : {R : Type 0} → ArchForm R → (len i : ℕ) → Result R Fault → Option OutOfFile
outside_by form len i (Ok arch) = outside_of len i (min (form.offset arch + form.size arch) (2 ^ 64 - 1))
outside_by form len i (Err f) = None

-- the same by the index of the entry, if there is one
abbrev pub outside_at : {R : Type 0} → ArchForm R → List ℕ → Option ℕ → Option OutOfFile
outside_at form bytes (Some i) = outside_by form (length bytes) i (arch_in form bytes i)
outside_at form bytes None = None

-- why it isn't shown
abbrev pub outside_words : OutOfFile → List ℕ
outside_words o =
    codes "entry " ++ (decimal o.entry ++ (codes " is out of the file: it ends at " ++ (hex_text o.end ++ (codes ", the file at " ++ hex_text o.len))))
