-- The cpu that is selected, and the numbers of an image's cpu.
use Rattle.std.specs.Prelude.{◌≡◌, ℕ, List, Option, Some, None}
use Rattle.mach_parts.specs.Header.{IsHeader}
use Rattle.mach_parts.specs.declared.header.Header.{Header}
use Rattle.goblin_mach.specs.Facts.{OfImage}
use Rattle.goblin_mach.specs.Image.{Opens}
use Rattle.mach_cli.specs.declared.cpu.Cpu.{Cpu}
use Rattle.mach_cli.specs.declared.cpu.Cpu.TheVariants as cpus

-- the selected cpu, if not all are selected
abbrev pub selected_cpu : Cpu → Option Cpu
selected_cpu cpus.Any = None
selected_cpu (cpus.Number number) = Some (cpus.Number number)
selected_cpu (cpus.Arch arch) = Some (cpus.Arch arch)

-- the bytes are an image with these numbers of its cpu, which opens
pub record HasNumbers (bytes : List ℕ) (cputype cpusubtype : ℕ) : Type 0 where
  pub opens : Opens bytes 0
  pub numbers : OfImage bytes 0 (λ ctx cs. (h : Header) × IsHeader ctx bytes 0 h × (h.cputype ≡ cputype) × (h.cpusubtype ≡ cpusubtype))
