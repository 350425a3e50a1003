use Rattle.std.proofs.Common.{◌≡◌, ◌∙◌, ℕ, List, Some, None, ap, sym}
use Rattle.std.specs.Prelude.{option_map}
use Rattle.mach_cli.specs.Calls.{IsCputype}
use Rattle.mach_records.specs.CpuNames.{arch_named, arch_row_of, arch_rows}
use Rattle.mach_cli.specs.declared.cpu.Cpu.{Cpu}
use Rattle.mach_cli.specs.declared.cpu.Cpu.TheVariants as cpus
use Rattle.machfat.specs.OfCpu.{SaysCpu}
use Rattle.machfat.proofs.thin.cpu_in.Goals as goal

-- a word that is no cputype and no name says no cpu
says_none : (word : List ℕ) → ((number : ℕ) → IsCputype word number → ⊥) → None ≡ arch_named arch_rows word → (cpu : Cpu) → SaysCpu word cpu → ⊥
says_none word number name cpus.Any said = said
says_none word number name (cpus.Number n) said = number n said
says_none word number name (cpus.Arch a) said = let none : None ≡ Some (arch_row_of a) = name ∙ said in cc

pub returns-in-None-clause-none : goal.returns-in-None-clause-none
returns-in-None-clause-none c =
    says_none c.args.word.now c.in_default.ensures.none (ap (option_map arch_row_of) (sym c.in-None.is) ∙ c.named.ensures)
