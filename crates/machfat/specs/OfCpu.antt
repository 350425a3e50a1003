-- The entry of a fat file that is selected by its cpu, and the word that selects it.
use Rattle.std.specs.Prelude.{◌≡◌, ℕ, ◌+◌, List, [], ◌∷◌, Option, Some, None, Result, Ok, Err, if◌then◌else◌}
use Rattle.mach_fat_writer.specs.Changes.{fat_records_in, slice_or_out}
use Rattle.mach_fat_writer.specs.EntriesRead.{slice_of}
use Rattle.mach_fat_writer.specs.Unfit.{Unfit, if_fit}
use Rattle.mach_fat_writer.specs.declared.entry_record.EntryRecord.{EntryRecord}
use Rattle.mach_cli.specs.Calls.{IsCputype}
use Rattle.mach_records.specs.CpuNames.{arch_named, arch_row_of, arch_rows}
use Rattle.mach_cli.specs.Cpus.{is_of_cpu}
use Rattle.mach_cli.specs.declared.cpu.Cpu.{Cpu}
use Rattle.mach_cli.specs.declared.cpu.Cpu.TheVariants.{Any, Number, Arch}

-- The word says this cpu: its number, as `0x` and digits; or its name.
abbrev pub SaysCpu : (word : List ℕ) → Cpu → Type 0
SaysCpu word Any = ⊥
SaysCpu word (Number n) = IsCputype word n
SaysCpu word (Arch a) = arch_named arch_rows word ≡ Some (arch_row_of a)

-- what is found, if its bytes are in the file
abbrev pub found_if_fit : Result (List ℕ) Unfit → Result (Option (List ℕ)) Unfit
found_if_fit (Ok slice) = Ok (Some slice)
found_if_fit (Err why) = Err why

-- the bytes of the first entry for a cpu, among records that are numbered from i on; nothing if no record is for it
abbrev pub first_entry_for : List ℕ → Cpu → ℕ → List EntryRecord → Result (Option (List ℕ)) Unfit
first_entry_for bytes cpu i [] = Ok None
first_entry_for bytes cpu i (r ∷ rs) =
    if is_of_cpu cpu r.cputype r.cpusubtype then found_if_fit (slice_or_out i (slice_of bytes r)) else first_entry_for bytes cpu (i + 1) rs

-- The bytes of the first entry for a cpu in a fat file of either form; nothing if it has no entry for it.
abbrev pub cpu_entry_in : List ℕ → Cpu → Result (Option (List ℕ)) Unfit
cpu_entry_in bytes cpu = if_fit (first_entry_for bytes cpu 0) (fat_records_in bytes)
