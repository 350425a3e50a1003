-- The views of reports.
use Rattle.std.specs.Prelude.{◌≡◌, ◌≢◌, ℕ, Result, Ok, Err, map}
use Rattle.mach_base.specs.declared.error.Error.{Error}
use Rattle.mach_resolve.specs.ResolveViews.{answer_view, note_view_of}
use Rattle.mach_resolve.specs.declared.failure.ResolveFailure.{ResolveFailure}
use Rattle.mach_resolve.specs.declared.failure.ResolveFailure.TheVariants as failures
use Rattle.machresolve.specs.Report as report
use Rattle.machresolve.specs.declared.report.Outcome.{Outcome}
use Rattle.machresolve.specs.declared.report.Outcome.TheVariants.{Answered, Archive, Refused}
use Rattle.machresolve.specs.declared.report.Report.{Report}
use Rattle.machresolve.specs.declared.report.Report.TheVariants.{One, Entries, Nothing}

abbrev pub outcome_view : {A : Type 0} → Outcome A → report.Outcome
outcome_view (Answered resolved) = report.answered (map answer_view resolved.answers.items) (map note_view_of resolved.notes.items) resolved.more
outcome_view Archive = report.archive
outcome_view (Refused file e) = report.refused file e

abbrev pub report_view : {A : Type 0} → Report A → report.Report
report_view (One outcome) = report.one (outcome_view outcome)
report_view (Entries outcomes) = report.entries (map outcome_view outcomes.items)
report_view (Nothing cpu) = report.nothing cpu

-- the outcome for a failure: a refused file; any other failure stays one
abbrev pub IsOutcomeOfFailure : {A : Type 0} → ResolveFailure → Result (Outcome A) ResolveFailure → Type 0
IsOutcomeOfFailure failure (Ok (Refused file e)) = failure ≡ failures.Refused file e
IsOutcomeOfFailure failure (Ok Archive) = ⊥
IsOutcomeOfFailure failure (Ok (Answered resolved)) = ⊥
IsOutcomeOfFailure failure (Err kept) = (kept ≡ failure) × ((file : ℕ) (e : Error) → failure ≢ failures.Refused file e)
