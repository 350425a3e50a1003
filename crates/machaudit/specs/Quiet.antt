-- The line of a file under `--quiet`, and its exit status.
use Rattle.std.specs.Prelude.{ℕ, List, ◌++◌, codes}
use Rattle.mach_audit.specs.Verdicts.{verdict_words}
use Rattle.mach_audit.specs.declared.verdict.Soundness.{Soundness}
use Rattle.mach_audit.specs.declared.verdict.Soundness.TheVariants.{Sound, Unended, Faulty}
use Rattle.mach_cli.specs.Escapes.{escaped_text}

-- the line of a file: its name, and whether it is sound
abbrev pub quiet_line : (name : List ℕ) → Soundness → List ℕ
quiet_line name verdict = escaped_text name ++ (codes ": " ++ (verdict_words verdict ++ codes "\n"))

-- the exit status of a verdict
abbrev pub status_of : Soundness → ℕ
status_of Sound = 0
status_of Unended = 1
status_of Faulty = 1
