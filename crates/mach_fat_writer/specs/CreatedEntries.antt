-- The entry that a file becomes in a fat file. Its cpu is that of its header, or that of all members of an archive.
use Rattle.std.specs.Prelude.{◌==◌, ◌&&◌, ◌||◌, ℕ, ◌-◌, ◌/◌, ◌%◌, ◌^◌, Bool, List, [], ◌∷◌, length, drop, Option, Some, None, Result, Ok, Err}
use Rattle.std.specs.Prelude.{if◌then◌else◌}
use Rattle.mach_base.specs.Answer.{◌>>=◌}
use Rattle.mach_base.specs.Fault.{Fault, malformed, bad_magic}
use Rattle.mach_base.specs.Number.{number, slice_at}
use Rattle.mach_base.specs.declared.context.Ctx.{Ctx}
use Rattle.mach_parts.specs.Magic.{magic_at, begins_archive}
use Rattle.mach_archive.specs.Archives.{ArchiveView, archive_in}
use Rattle.mach_archive.specs.Members.{MemberView, members_from}
use Rattle.mach_fat_writer.specs.Entries.{FatEntryView}
use Rattle.mach_fat_writer.specs.declared.cpu.Cpu.{Cpu}

-- the cpu in a header
pub record CpuView : Type 0 where
  pub cputype : ℕ
  pub cpusubtype : ℕ

abbrev pub cpu_view : Cpu → CpuView
cpu_view c = record { cputype = c.cputype; cpusubtype = c.cpusubtype }

abbrev pub is_same_cpu : CpuView → CpuView → Bool
is_same_cpu c d = c.cputype == d.cputype && c.cpusubtype == d.cpusubtype

-- the cpu of a header; its first 28 bytes must be there
abbrev pub cpu_in : Ctx → List ℕ → CpuView
cpu_in ctx header = record { cputype = number ctx.le 4 (drop 4 header); cpusubtype = number ctx.le 4 (drop 8 header) }

abbrev pub cpu_of_image : Ctx → List ℕ → Result CpuView Fault
cpu_of_image ctx bytes = slice_at 28 bytes 0 >>= (λ header. Ok (cpu_in ctx header))

-- the cpu of a member, which must be an image
abbrev pub cpu_by_magic : Result (ℕ × Option Ctx) Fault → List ℕ → Result CpuView Fault
cpu_by_magic (Ok (magic, Some ctx)) bytes = cpu_of_image ctx bytes
cpu_by_magic (Ok (magic, None)) bytes = Err malformed
cpu_by_magic (Err f) bytes = Err malformed

abbrev pub cpu_of_member : Result MemberView Fault → Result CpuView Fault
cpu_of_member item = item >>= (λ m. cpu_by_magic (magic_at m.bytes 0) m.bytes)

-- a cpu, if each of the members has it
abbrev pub if_cpu_of_all : CpuView → List (Result MemberView Fault) → Result CpuView Fault
if_cpu_of_all cpu [] = Ok cpu
if_cpu_of_all cpu (item ∷ items) =
    cpu_of_member item >>= (λ c. if is_same_cpu c cpu then if_cpu_of_all cpu items else Err malformed)

-- the cpu of all members; there must be one
abbrev pub cpu_of_members : List (Result MemberView Fault) → Result CpuView Fault
cpu_of_members [] = Err malformed
cpu_of_members (item ∷ items) = cpu_of_member item >>= (λ cpu. if_cpu_of_all cpu items)

-- all members of an archive
abbrev pub members_of_archive : ArchiveView → List (Result MemberView Fault)
members_of_archive a = members_from a.bytes a.names (length a.bytes - a.begin) a.begin

abbrev pub cpu_of_archive : List ℕ → Result CpuView Fault
cpu_of_archive bytes = archive_in bytes >>= (λ a. cpu_of_members (members_of_archive a))

-- the power of two of a page: 4 kilobytes for x86 and PowerPC, else 16; for an archive that of a word
abbrev pub align_of_image : ℕ → ℕ
align_of_image cputype =
    if (cputype == 7 || cputype == 0x100_0007) || (cputype == 18 || cputype == 0x100_0012) then 12 else 14

abbrev pub align_of_archive : ℕ → ℕ
align_of_archive cputype = if cputype / 2 ^ 24 % 2 == 1 then 3 else 2

abbrev pub entry_of_cpu : List ℕ → (ℕ → ℕ) → CpuView → Result FatEntryView Fault
entry_of_cpu bytes align cpu =
    Ok (record { cputype = cpu.cputype; cpusubtype = cpu.cpusubtype; align = align cpu.cputype; bytes = bytes })

-- an image, by its magic, or else an archive
abbrev pub created_by_magic : List ℕ → ℕ × Option Ctx → Result FatEntryView Fault
created_by_magic bytes (magic, Some ctx) = cpu_of_image ctx bytes >>= entry_of_cpu bytes align_of_image
created_by_magic bytes (magic, None) =
    if begins_archive bytes then cpu_of_archive bytes >>= entry_of_cpu bytes align_of_archive else Err (bad_magic magic)

-- the entry that a file becomes, or why it becomes none
abbrev pub created_entry : List ℕ → Result FatEntryView Fault
created_entry bytes = magic_at bytes 0 >>= created_by_magic bytes
