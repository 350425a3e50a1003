-- Verdicts on how an image is hardened, as C sees them. The numbers are those of `goblin_mach.h` (GM_VERDICT_NO_HEAP_EXECUTION and the
-- following ones).
use Rattle.std.specs.Prelude.{ℕ, ◌-◌, List, [], ◌∷◌, drop, length, map, Bool, Result, Ok, Err}
use Rattle.mach_base.specs.Fault.{Fault}
use Rattle.goblin_mach.specs.ImageFacts.{Facts, HasFacts}
use Rattle.mach_audit.specs.Security.{findings_left, is_so, verdicts_for}
use Rattle.mach_audit.specs.declared.security.Finding.{Finding}
use Rattle.mach_audit.specs.declared.security.Findings.{Findings}
use Rattle.mach_audit.specs.declared.security.Verdict.{Verdict}
use Rattle.mach_audit.specs.declared.security.Verdict.TheVariants as verdicts
use Rattle.goblin_mach_c.specs.Codes.{code_of_fault}
use Rattle.goblin_mach_c.specs.Fill.{Fills}
use Rattle.goblin_mach_c.specs.Opened.{flag}
use Rattle.goblin_mach_c.specs.declared.security.VerdictRows.{VerdictRows}
use Rattle.goblin_mach_c.specs.declared.security.gm_verdict.{gm_verdict}

abbrev pub verdict_number : Verdict → ℕ
verdict_number verdicts.NoHeapExecution = 1
verdict_number verdicts.Pie = 2
verdict_number verdicts.StackExecution = 3
verdict_number verdicts.PointerAuthentication = 4
verdict_number verdicts.StackCanary = 5
verdict_number verdicts.WritableCode = 6
verdict_number verdicts.WritableCodeAllowed = 7
verdict_number verdicts.Restricted = 8
verdict_number verdicts.ChainedFixups = 9
verdict_number verdicts.RelativeRunPaths = 10
verdict_number verdicts.Encrypted = 11
verdict_number verdicts.Stripped = 12
verdict_number verdicts.Signed = 13
verdict_number verdicts.AdHoc = 14
verdict_number verdicts.Cms = 15
verdict_number verdicts.HardenedRuntime = 16
verdict_number verdicts.LibraryValidation = 17
verdict_number verdicts.Entitlements = 18
verdict_number verdicts.GetTaskAllow = 19

-- ---- the rows of an image

-- a verdict of a number: whether it holds, or why that isn't known
abbrev pub verdict_row_by : ℕ → Result Bool Fault → gm_verdict
verdict_row_by n (Ok holds) = record { verdict = n; holds = flag holds; code = 0 }
verdict_row_by n (Err f) = record { verdict = n; holds = 0; code = code_of_fault f }

abbrev pub verdict_row : Facts → Verdict → gm_verdict
verdict_row f verdict = verdict_row_by (verdict_number verdict) (is_so f verdict)

-- those on an image: a row for each, in order
abbrev pub verdict_rows : Facts → List gm_verdict
verdict_rows f = map (verdict_row f) (verdicts_for f.ctx.container)

-- those on the image at o were written, from a number on
pub record WritesVerdicts (bytes : List ℕ) (o first : ℕ) (old new : List gm_verdict) (n : ℕ) : Type 0 where
  pub facts : Facts
  pub has : HasFacts bytes o facts
  pub rows : Fills (drop first (verdict_rows facts)) old new n

-- ---- the rows that are left, of findings

-- a finding; the number is that of the verdict if it isn't known
abbrev pub found_verdict_row : ℕ → Result Finding Fault → gm_verdict
found_verdict_row n (Ok it) = record { verdict = verdict_number it.verdict; holds = flag it.is_so; code = 0 }
found_verdict_row n (Err f) = record { verdict = n; holds = 0; code = code_of_fault f }

-- the number of a verdict that isn't known is found by how many are left
abbrev pub found_verdict_rows : List (Result Finding Fault) → List gm_verdict
found_verdict_rows [] = []
found_verdict_rows (x ∷ xs) = found_verdict_row (20 - length (x ∷ xs)) x ∷ found_verdict_rows xs

abbrev pub left_verdict_rows : {A : Type 0} → Findings A → List gm_verdict
left_verdict_rows findings = found_verdict_rows (findings_left findings)

abbrev pub verdict_rows_left : VerdictRows → List gm_verdict
verdict_rows_left it = left_verdict_rows it.findings
