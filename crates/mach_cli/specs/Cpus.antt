-- The images that are selected by their cpu (`mach/machine.h`).
use Rattle.std.specs.Prelude.{◌≡◌, ◌==◌, ◌&&◌, not, ℕ, List, ◌++◌, codes, Bool, true, false, Option, Some, None}
use Rattle.std.specs.Fmt.{digits}
use Rattle.std.specs.List.{list_any}
use Rattle.mach_records.specs.CpuNames.{arch_rows, cpu_named}
use Rattle.mach_parts.specs.Cpu.{kind_of_cpu}
use Rattle.mach_parts.specs.Header.{IsHeader}
use Rattle.mach_parts.specs.declared.fat.FatArch.{FatArch}
use Rattle.mach_parts.specs.declared.header.Header.{Header}
use Rattle.goblin_mach.specs.Facts.{OfImage}
use Rattle.goblin_mach.specs.declared.item.EntryCpu.{EntryCpu}
use Rattle.mach_cli.specs.declared.cpu.Cpu.{Cpu}
use Rattle.mach_cli.specs.declared.cpu.Cpu.TheVariants.{Any, Number, Arch}

-- the name of the cpu of an entry of a fat file, if its record can be read and the cpu has a name
abbrev pub entry_cpu_name : Option EntryCpu → Option (List ℕ)
entry_cpu_name None = None
entry_cpu_name (Some cpu) = cpu_named arch_rows cpu.cputype (kind_of_cpu cpu.cpusubtype)

-- Whether an image for a cpu of these numbers is selected: all are, or those of a number, or those of a name, whatever their capabilities.
abbrev pub is_of_cpu : Cpu → (cputype cpusubtype : ℕ) → Bool
is_of_cpu Any cputype cpusubtype = true
is_of_cpu (Number number) cputype cpusubtype = cputype == number
is_of_cpu (Arch a) cputype cpusubtype = (cputype == a.cputype) && (kind_of_cpu cpusubtype == a.cpusubtype)

-- whether a cpu is selected, and not all images are
abbrev pub is_chosen : Cpu → Bool
is_chosen Any = false
is_chosen (Number number) = true
is_chosen (Arch a) = true

-- whether the entry of a record of a fat file is selected
abbrev pub is_selected : Cpu → FatArch → Bool
is_selected cpu arch = is_of_cpu cpu arch.cputype arch.cpusubtype

-- a cpu is selected, and none of these records is for it
abbrev pub misses : Cpu → List FatArch → Bool
misses cpu archs = is_chosen cpu && not (list_any (is_selected cpu) archs)

-- Whether the image at the start of the bytes is selected, by its header.
abbrev pub IsTaken : Cpu → List ℕ → Bool → Type 0
IsTaken cpu bytes taken =
    OfImage bytes 0 (λ ctx cs. (h : Header) × IsHeader ctx bytes 0 h × (is_of_cpu cpu h.cputype h.cpusubtype ≡ taken))

abbrev pub cpu_words : Cpu → List ℕ
cpu_words Any = codes "any cpu"
cpu_words (Number number) = codes "cputype 0x" ++ digits 16 false number
cpu_words (Arch a) = a.name.now

-- why nothing is shown of a file that is one image, and of a fat one
abbrev pub other_words : Cpu → List ℕ
other_words cpu = codes "no image of " ++ cpu_words cpu

abbrev pub no_entry_words : Cpu → List ℕ
no_entry_words cpu = codes "no entry of " ++ cpu_words cpu
