-- The entries of a fat file as C sees them.
use Rattle.std.specs.Prelude.{◌==◌, ◌+◌, ◌-◌, ◌/◌, ℕ, List, Result, Ok, Err, length, nat_le, nat_lt, if◌then◌else◌}
use Rattle.mach_base.specs.Fault.{Fault}
use Rattle.mach_base.specs.Number.{number_at}
use Rattle.mach_base.specs.declared.context.Endian.TheVariants.{Big}
use Rattle.mach_base.specs.Items.{items_from}
use Rattle.mach_parts.specs.declared.fat.FatArch.{FatArch}
use Rattle.goblin_mach.specs.FatFile.{FatFile, arch_at, fat_file_in}
use Rattle.goblin_mach_c.specs.Codes.{code_of_fault}
use Rattle.goblin_mach_c.specs.declared.fat.gm_fat_entry.{gm_fat_entry}

-- the code of an entry of `size` bytes at `offset`, in a file of so many: 3 if they aren't all in it
abbrev pub entry_code : ℕ → ℕ → ℕ → ℕ
entry_code len offset size = if nat_le (offset + size) len then 0 else 3

-- the record of an entry in a file of so many bytes, or why it isn't there
abbrev pub fat_row : ℕ → Result FatArch Fault → gm_fat_entry
fat_row len (Ok a) =
    record {
      cputype = a.cputype;
      cpusubtype = a.cpusubtype;
      offset = a.offset;
      size = a.size;
      align = a.align;
      code = entry_code len a.offset a.size;
    }
fat_row len (Err f) = record { cputype = 0; cpusubtype = 0; offset = 0; size = 0; align = 0; code = code_of_fault f }

-- the count of entries in a file whose header can be read
abbrev pub entry_count_in : Result FatFile Fault → ℕ
entry_count_in (Ok file) = file.narches
entry_count_in (Err f) = 0

abbrev pub count_after : Result ℕ Fault → List ℕ → ℕ
count_after (Ok magic) bytes = if magic == 0xcafe_babe then entry_count_in (fat_file_in bytes) else 0
count_after (Err f) bytes = 0

-- how many entries some bytes have: none if they don't begin with the magic of a fat file, or its header is short
abbrev pub fat_count : List ℕ → ℕ
fat_count bytes = count_after (number_at Big 4 bytes 0) bytes

-- how many records of 20 bytes lie whole in some bytes, after a header of 8
abbrev pub whole_fat_records : List ℕ → ℕ
whole_fat_records bytes = (length bytes - 8) / 20

-- how many of them are reported: all of the header's count if they lie in the bytes; else those that lie whole in them, and one more
abbrev pub reported_count : List ℕ → ℕ
reported_count bytes = if nat_lt (whole_fat_records bytes) (fat_count bytes) then whole_fat_records bytes + 1 else fat_count bytes

-- the entries of some bytes, in order, up to the first record that isn't whole
abbrev pub fat_rows : List ℕ → List gm_fat_entry
fat_rows bytes = items_from (λ k. fat_row (length bytes) (arch_at bytes k)) 0 (reported_count bytes)
