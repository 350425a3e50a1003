-- The report of a program: of one image, or of each entry of a fat file.
use Rattle.std.specs.Prelude.{◌≡◌, ◌-◌, ◌&&◌, ℕ, not, length, sum_by, Bool, true, false, List, [], ◌∷◌, Option, Some, None, Ok, Err}
use Rattle.std.specs.List.{list_all}
use Rattle.mach_base.specs.Fault.{Fault}
use Rattle.mach_base.specs.declared.error.Error.{Error}
use Rattle.mach_parts.specs.Magic.{begins_archive}
use Rattle.goblin_mach.specs.View.{IsReported, ReportsFault}
use Rattle.mach_resolve.specs.Answers.{Answer, is_settled}
use Rattle.mach_cli.specs.Cpus.{is_of_cpu}
use Rattle.mach_cli.specs.declared.cpu.Cpu.{Cpu}
use Rattle.mach_resolve.specs.Cpu.{FatTableView, FileFault, FindsEntry, ForFault, HasTable}
use Rattle.machresolve.specs.Cpu.{HasNumbers}
use Rattle.mach_resolve.specs.Given.{GivenFile}
use Rattle.mach_resolve.specs.Note.{Note}
use Rattle.mach_resolve.specs.Resolved.{IsResolved, ResolveFault}

-- The outcome for one program: its answers, with notes, and whether it has more bindings; or it is an archive; or a file is
-- refused, by its number.
pub data Outcome : Type 0 where
  answered : (answers : List Answer) (notes : List Note) (more : Bool) → Outcome
  archive : Outcome
  refused : (file : ℕ) → Error → Outcome

-- how many bindings are answered
abbrev pub answer_count : Outcome → ℕ
answer_count (answered answers notes more) = length answers
answer_count archive = 0
answer_count (refused file e) = 0

-- the outcome for an image, of which at most `limit` bindings are answered
pub data IsOutcome (limit : ℕ) (program : GivenFile) (libraries : List GivenFile) : Outcome → Type 0 where
  resolved : (answers : List Answer) (notes : List Note) (more : Bool) → IsResolved limit program libraries answers notes more
      → IsOutcome limit program libraries (answered answers notes more)
  fault : (file : ℕ) (e : Error) → ReportsFault (ResolveFault limit program libraries file) e → IsOutcome limit program libraries (refused file e)

-- the outcome for an entry of a fat program: an archive, by its first bytes, or an image
pub data IsEntryOutcome (limit : ℕ) (program : GivenFile) (libraries : List GivenFile) : Outcome → Type 0 where
  an_archive : begins_archive program.bytes ≡ true → IsEntryOutcome limit program libraries archive
  an_image : (o : Outcome) → begins_archive program.bytes ≡ false → IsOutcome limit program libraries o → IsEntryOutcome limit program libraries o

-- an entry of a program, by its bytes
abbrev pub entry_of_program : GivenFile → List ℕ → GivenFile
entry_of_program program entry = record { path = program.path; bytes = entry }

-- one outcome for each entry, in order, each within what the entries before it left of `limit` bindings
abbrev pub AreEntryOutcomes : ℕ → GivenFile → List GivenFile → List (List ℕ) → List Outcome → Type 0
AreEntryOutcomes limit program libraries [] [] = Unit {0}
AreEntryOutcomes limit program libraries [] (o ∷ outcomes) = ⊥
AreEntryOutcomes limit program libraries (entry ∷ entries) [] = ⊥
AreEntryOutcomes limit program libraries (entry ∷ entries) (o ∷ outcomes) =
    IsEntryOutcome limit (entry_of_program program entry) libraries o × AreEntryOutcomes (limit - answer_count o) program libraries entries outcomes

-- a fault of opening a program as a whole: of opening the file, or of the table of a fat file
pub data ProgramFault (bytes : List ℕ) : Fault → Type 0 where
  of_file : {f : Fault} → FileFault bytes f → ProgramFault bytes f
  of_table : {f : Fault} (table : FatTableView) → HasTable bytes table → table.entries ≡ Err f → ProgramFault bytes f

-- the report of a whole file: one outcome; those of all entries; or it has nothing for a cpu
pub data Report : Type 0 where
  one : Outcome → Report
  entries : List Outcome → Report
  nothing : (cpu : Cpu) → Report

-- how many bindings of all images are answered
abbrev pub answers_in : Report → ℕ
answers_in (one o) = answer_count o
answers_in (entries outcomes) = sum_by answer_count outcomes
answers_in (nothing cpu) = 0

-- it is one outcome, of which this holds
abbrev pub IsOneOf : (Outcome → Type 0) → Report → Type 0
IsOneOf Holds (one o) = Holds o
IsOneOf Holds (entries outcomes) = ⊥
IsOneOf Holds (nothing cpu) = ⊥

-- the program, which is file 0, is reported as refused for this error, which is no refused allocation
abbrev pub ReportsError : Error → Report → Type 0
ReportsError e r = (r ≡ one (refused 0 e)) × IsReported e

-- The report of a program: all of it, or what it has for a selected cpu. Of the bindings of its images, in order, the first
-- `limit` are answered.
pub data IsProgramReport (limit : ℕ) (program : GivenFile) (libraries : List GivenFile) : Option Cpu → Report → Type 0 where
  image : (cputype cpusubtype : ℕ) (o : Outcome) → HasNumbers program.bytes cputype cpusubtype → IsOutcome limit program libraries o
      → IsProgramReport limit program libraries None (one o)
  image_of_cpu : (cpu : Cpu) (cputype cpusubtype : ℕ) (o : Outcome) → HasNumbers program.bytes cputype cpusubtype
      → is_of_cpu cpu cputype cpusubtype ≡ true → IsOutcome limit program libraries o → IsProgramReport limit program libraries (Some cpu) (one o)
  other_image : (cpu : Cpu) (cputype cpusubtype : ℕ) → HasNumbers program.bytes cputype cpusubtype → is_of_cpu cpu cputype cpusubtype ≡ false
      → IsProgramReport limit program libraries (Some cpu) (nothing cpu)
  fat : (table : FatTableView) (parts : List (List ℕ)) (outcomes : List Outcome) → HasTable program.bytes table → table.entries ≡ Ok parts
      → AreEntryOutcomes limit program libraries parts outcomes → IsProgramReport limit program libraries None (entries outcomes)
  entry : (cpu : Cpu) (part : List ℕ) (o : Outcome) → FindsEntry program.bytes (is_of_cpu cpu) (Some part)
      → IsEntryOutcome limit (entry_of_program program part) libraries o → IsProgramReport limit program libraries (Some cpu) (one o)
  no_entry : (cpu : Cpu) → FindsEntry program.bytes (is_of_cpu cpu) None → IsProgramReport limit program libraries (Some cpu) (nothing cpu)
  unopened : (e : Error) → ReportsFault (ProgramFault program.bytes) e → IsProgramReport limit program libraries None (one (refused 0 e))
  unfound : (cpu : Cpu) (e : Error) → ReportsFault (ForFault program.bytes (is_of_cpu cpu)) e
      → IsProgramReport limit program libraries (Some cpu) (one (refused 0 e))

-- whether all is answered and settled, and nothing was refused
abbrev pub is_whole : Outcome → Bool
is_whole (answered answers notes more) = list_all is_settled answers && not more
is_whole archive = true
is_whole (refused file e) = false

abbrev pub all_whole : Report → Bool
all_whole (one o) = is_whole o
all_whole (entries outcomes) = list_all is_whole outcomes
all_whole (nothing cpu) = false
