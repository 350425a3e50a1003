-- The reports of programs, and of refused files.
use Rattle.std.proofs.Common.{◌≡◌, ◌∙◌, ℕ, Bool, true, false, List, Option, Some, None, Result, Ok, Err, refl, sym, ap, subst}
use Rattle.std.specs.Prelude.{IfOk}
use Rattle.mach_base.proofs.Faults.{ErrorMeets-in}
use Rattle.mach_base.specs.Answer.{ErrorMeets}
use Rattle.mach_base.specs.Fault.{Fault}
use Rattle.mach_base.specs.declared.error.Error.{Error}
use Rattle.mach_parts.specs.Magic.{begins_archive}
use Rattle.goblin_mach.proofs.Views.{reports}
use Rattle.goblin_mach.specs.OpenImage.{IsImage, commands_view}
use Rattle.goblin_mach.specs.View.{IsReported, ReportsFault}
use Rattle.goblin_mach.specs.declared.macho.MachO.{MachO}
use Rattle.mach_cli.specs.Cpus.{is_of_cpu}
use Rattle.mach_cli.specs.declared.cpu.Cpu.{Cpu}
use Rattle.mach_resolve.specs.Cpu as cpu
use Rattle.mach_resolve.specs.Cpu.{FileFault, ForFault}
use Rattle.machresolve.specs.Cpu.{HasNumbers}
use Rattle.mach_resolve.specs.Failures.{IsFailure}
use Rattle.mach_resolve.specs.Given.{GivenFile}
use Rattle.machresolve.specs.Report as report
use Rattle.machresolve.specs.Report.{IsOutcome, fault, IsEntryOutcome, an_image, IsOneOf, image, image_of_cpu, IsProgramReport, other_image, unopened, unfound}
use Rattle.machresolve.specs.Report.{ProgramFault, ReportsError, of_file}
use Rattle.mach_resolve.specs.Resolved.{ResolveFault}
use Rattle.machresolve.specs.ReportViews.{outcome_view, IsOutcomeOfFailure}
use Rattle.mach_resolve.specs.declared.failure.ResolveFailure.{ResolveFailure}
use Rattle.machresolve.specs.declared.report.Outcome.{Outcome}
use Rattle.machresolve.specs.declared.report.Outcome.TheVariants.{Answered, Archive, Refused}

-- an image that was opened has the numbers of its header's cpu
pub of_numbers : {A : Type 0} (bytes : List ℕ) (m : MachO A) → IsImage bytes 0 m → HasNumbers bytes m.header.cputype m.header.cpusubtype
of_numbers bytes m is = record {
  opens = (is.ctx, commands_view m, is.opens);
  numbers = record { ctx = is.ctx; cs = commands_view m; opens = is.opens.lossy; holds = (m.header, is.fields.header, refl, refl) };
}

-- the outcome for a failure to resolve
pub refused_outcome : {A : Type 0} (n : ℕ) (p : GivenFile) (ls : List GivenFile) (x : ResolveFailure) (r : Result (Outcome A) ResolveFailure)
    → IsFailure (ResolveFault n p ls) x → IsOutcomeOfFailure x r
    → IfOk r (λ o. IsOutcome n p ls (outcome_view o))
refused_outcome n p ls x (Ok (Refused file e)) occurs is = fault file e (subst (IsFailure (ResolveFault n p ls)) is occurs)
refused_outcome n p ls x (Ok Archive) occurs is = absurd is
refused_outcome n p ls x (Ok (Answered resolved)) occurs is = absurd is
refused_outcome n p ls x (Err kept) occurs is = tt

reports_fault : (P : Fault → Type 0) (e : Error) → IsReported e → ErrorMeets P e → ReportsFault P e
reports_fault P e reported occurs = reports P P e reported (λ f s. s) occurs

-- a program whose table is refused, for all of it or for a cpu
pub table_refused : (n : ℕ) (p : GivenFile) (ls : List GivenFile) (e : Error) (r : report.Report) → ReportsError e r → ErrorMeets (ProgramFault p.bytes) e
    → IsProgramReport n p ls None r
table_refused n p ls e r reported occurs =
    subst (IsProgramReport n p ls None) (sym reported.0) (unopened e (reports_fault (ProgramFault p.bytes) e reported.1 occurs))

pub search_refused : (n : ℕ) (p : GivenFile) (ls : List GivenFile) (c : Cpu) (e : Error) (r : report.Report) → ReportsError e r
    → ErrorMeets (ForFault p.bytes (is_of_cpu c)) e → IsProgramReport n p ls (Some c) r
search_refused n p ls c e r reported occurs =
    subst (IsProgramReport n p ls (Some c)) (sym reported.0) (unfound c e (reports_fault (ForFault p.bytes (is_of_cpu c)) e reported.1 occurs))

-- a program that doesn't open, whichever cpu is selected
pub file_refused : (n : ℕ) (p : GivenFile) (ls : List GivenFile) (wanted : Option Cpu) (e : Error) (r : report.Report) → ReportsError e r
    → ErrorMeets (FileFault p.bytes) e → IsProgramReport n p ls wanted r
file_refused n p ls None e r reported occurs =
    table_refused n p ls e r reported (ErrorMeets-in (FileFault p.bytes) (ProgramFault p.bytes) e (λ f s. of_file s) occurs)
file_refused n p ls (Some c) e r reported occurs =
    search_refused n p ls c e r reported (ErrorMeets-in (FileFault p.bytes) (ForFault p.bytes (is_of_cpu c)) e (λ f s. cpu.of_file s) occurs)

-- an entry that is no archive
pub entry_image : (n : ℕ) (path slice bytes : List ℕ) (ls : List GivenFile) (o : report.Outcome) → slice ≡ bytes → begins_archive slice ≡ false
    → IsOutcome n (record { path = path; bytes = slice }) ls o → IsEntryOutcome n (record { path = path; bytes = bytes }) ls o
entry_image n path slice bytes ls o same off is =
    subst (λ (b : List ℕ). IsEntryOutcome n (record { path = path; bytes = b }) ls o) same (an_image o off is)

-- one image, for all that a file has, or for its cpu
pub one_of_all : (n : ℕ) (p : GivenFile) (ls : List GivenFile) (cputype cpusubtype : ℕ) (r : report.Report) → HasNumbers p.bytes cputype cpusubtype
    → IsOneOf (IsOutcome n p ls) r → IsProgramReport n p ls None r
one_of_all n p ls cputype cpusubtype (report.one o) has is = image cputype cpusubtype o has is
one_of_all n p ls cputype cpusubtype (report.entries os) has is = absurd is
one_of_all n p ls cputype cpusubtype (report.nothing other) has is = absurd is

pub one_of_cpu : (n : ℕ) (p : GivenFile) (ls : List GivenFile) (c : Cpu) (cputype cpusubtype : ℕ) (r : report.Report)
    → HasNumbers p.bytes cputype cpusubtype → is_of_cpu c cputype cpusubtype ≡ true → IsOneOf (IsOutcome n p ls) r → IsProgramReport n p ls (Some c) r
one_of_cpu n p ls c cputype cpusubtype (report.one o) has for is = image_of_cpu c cputype cpusubtype o has for is
one_of_cpu n p ls c cputype cpusubtype (report.entries os) has for is = absurd is
one_of_cpu n p ls c cputype cpusubtype (report.nothing other) has for is = absurd is

-- the same for a selected cpu, whether the image is for it or not; `picked` is that cpu
pub image_of_selected : (n : ℕ) (p : GivenFile) (ls : List GivenFile) (wanted : Option Cpu) (picked c : Cpu) (cputype cpusubtype : ℕ) (taken : Bool)
    (r : report.Report) → wanted ≡ Some c → picked ≡ c → HasNumbers p.bytes cputype cpusubtype → taken ≡ is_of_cpu picked cputype cpusubtype
    → taken ≡ true → IsOneOf (IsOutcome n p ls) r → IsProgramReport n p ls wanted r
image_of_selected n p ls wanted picked c cputype cpusubtype taken r is same has by on one =
    subst (λ (w : Option Cpu). IsProgramReport n p ls w r) (sym is)
    (one_of_cpu n p ls c cputype cpusubtype r has (ap (λ (x : Cpu). is_of_cpu x cputype cpusubtype) (sym same) ∙ (sym by ∙ on)) one)

pub image_of_another : (n : ℕ) (p : GivenFile) (ls : List GivenFile) (wanted : Option Cpu) (picked c : Cpu) (cputype cpusubtype : ℕ) (taken : Bool)
    → wanted ≡ Some c → picked ≡ c → HasNumbers p.bytes cputype cpusubtype → taken ≡ is_of_cpu picked cputype cpusubtype → taken ≡ false
    → IsProgramReport n p ls wanted (report.nothing picked)
image_of_another n p ls wanted picked c cputype cpusubtype taken is same has by off =
    subst (λ (w : Option Cpu). IsProgramReport n p ls w (report.nothing picked)) (sym is)
    (subst (λ (x : Cpu). IsProgramReport n p ls (Some c) (report.nothing x)) (sym same)
    (other_image c cputype cpusubtype has (ap (λ (x : Cpu). is_of_cpu x cputype cpusubtype) (sym same) ∙ (sym by ∙ off))))
