-- The names of cpus (`mach/machine.h`).
use Rattle.std.specs.Prelude.{◌==◌, ◌&&◌, ℕ, List, [], ◌∷◌, codes, Option, Some, None, bytes_eq, if◌then◌else◌}
use Rattle.mach_records.specs.declared.cpu_names.Arch as named

-- a name in LLVM's tools (`MachOObjectFile::getArchTriple`), and the numbers of the cpu and of its kind (CPU_TYPE_, CPU_SUBTYPE_)
pub record ArchRow : Type 0 where
  pub name : List ℕ
  pub cputype : ℕ
  pub cpusubtype : ℕ

abbrev pub arch_rows : List ArchRow
arch_rows =
    record { name = codes "i386"; cputype = 0x7; cpusubtype = 3 }
    ∷ record { name = codes "x86_64"; cputype = 0x100_0007; cpusubtype = 3 }
    ∷ record { name = codes "x86_64h"; cputype = 0x100_0007; cpusubtype = 8 }
    ∷ record { name = codes "armv4t"; cputype = 0xc; cpusubtype = 5 }
    ∷ record { name = codes "armv5e"; cputype = 0xc; cpusubtype = 7 }
    ∷ record { name = codes "xscale"; cputype = 0xc; cpusubtype = 8 }
    ∷ record { name = codes "armv6"; cputype = 0xc; cpusubtype = 6 }
    ∷ record { name = codes "armv6m"; cputype = 0xc; cpusubtype = 14 }
    ∷ record { name = codes "armv7"; cputype = 0xc; cpusubtype = 9 }
    ∷ record { name = codes "armv7em"; cputype = 0xc; cpusubtype = 16 }
    ∷ record { name = codes "armv7k"; cputype = 0xc; cpusubtype = 12 }
    ∷ record { name = codes "armv7m"; cputype = 0xc; cpusubtype = 15 }
    ∷ record { name = codes "armv7s"; cputype = 0xc; cpusubtype = 11 }
    ∷ record { name = codes "arm64"; cputype = 0x100_000c; cpusubtype = 0 }
    ∷ record { name = codes "arm64e"; cputype = 0x100_000c; cpusubtype = 2 }
    ∷ record { name = codes "arm64_32"; cputype = 0x200_000c; cpusubtype = 1 }
    ∷ record { name = codes "ppc"; cputype = 0x12; cpusubtype = 0 }
    ∷ record { name = codes "ppc64"; cputype = 0x100_0012; cpusubtype = 0 }
    ∷ []

-- the first row of a name
abbrev pub arch_named : List ArchRow → List ℕ → Option ArchRow
arch_named [] name = None
arch_named (row ∷ rows) name = if bytes_eq name row.name then Some row else arch_named rows name

-- the name of the first row with these numbers
abbrev pub cpu_named : List ArchRow → (cputype kind : ℕ) → Option (List ℕ)
cpu_named [] cputype kind = None
cpu_named (row ∷ rows) cputype kind = if cputype == row.cputype && kind == row.cpusubtype then Some row.name else cpu_named rows cputype kind

abbrev pub arch_row_of : named.Arch → ArchRow
arch_row_of a = record { name = a.name.now; cputype = a.cputype; cpusubtype = a.cpusubtype }
