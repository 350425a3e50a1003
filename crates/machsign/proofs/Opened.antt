-- Images that were opened, and errors.
use Rattle.std.proofs.Common.{◌≡◌, ℕ, List, Result, Ok, Err}
use Rattle.std.specs.Prelude.{Bool, IfErr}
use Rattle.mach_base.proofs.Faults.{ErrorMeets-in}
use Rattle.mach_base.specs.Answer.{IsOkUnlessMemory, ErrorMeets}
use Rattle.mach_base.specs.Fault.{Fault}
use Rattle.mach_base.specs.declared.error.Error.{Error}
use Rattle.mach_base.specs.declared.error.Error.TheVariants as errors
use Rattle.goblin_mach.specs.OpenImage.{IsImage, commands_view}
use Rattle.goblin_mach.specs.declared.macho.MachO.{MachO}
use Rattle.goblin_mach.specs.View.{IsReported, ReportsFault}
use Rattle.mach_cli.specs.Cpus.{is_of_cpu, IsTaken}
use Rattle.mach_cli.specs.declared.cpu.Cpu.{Cpu}

-- an image is selected, or not, by its header
pub taken_of : {A : Type 0} (cpu : Cpu) (bytes : List ℕ) (m : MachO A) (taken : Bool) → IsImage bytes 0 m
    → is_of_cpu cpu m.header.cputype m.header.cpusubtype ≡ taken → IsTaken cpu bytes taken
taken_of cpu bytes m taken opened is = record {
  ctx = opened.ctx;
  cs = commands_view m;
  opens = opened.opens.lossy;
  holds = (m.header, opened.fields.header, is);
}

-- an error that reports a fault that holds
pub reported_of : (P : Fault → Type 0) (e : Error) → IsReported e → ErrorMeets P e → ReportsFault P e
reported_of P (errors.Malformed m) reported h = h
reported_of P (errors.BadMagic n) reported h = h
reported_of P (errors.Scroll e) reported h = h
reported_of P (errors.BufferTooShort n m) reported h = h
reported_of P (errors.Memory e) reported h = absurd reported

-- a refused allocation reports any fault
pub unless_memory : {X : Type 0} (P : Fault → Type 0) (answer : Result X Error) → IsOkUnlessMemory answer → IfErr answer (ErrorMeets P)
unless_memory P (Ok x) only = tt
unless_memory P (Err e) only = ErrorMeets-in (λ _. ⊥) P e (λ f none. absurd none) only
