-- What a call audits.
use Rattle.std.specs.Prelude.{◌≡◌, ℕ, List, Option, codes, false, true}
use Rattle.std.specs.declared.io.buffered.BufWriter.{BufWriter}
use Rattle.mach_cli.specs.Bounds.{limit_of}
use Rattle.mach_cli.specs.ShownCalls.{ShowsFiles}
use Rattle.mach_cli.specs.Titles.{titled_contents}
use Rattle.mach_cli.specs.declared.call.Call.{Call}
use Rattle.mach_cli.specs.declared.files.Files.{Files}
use Rattle.mach_cli.specs.declared.options.SharedOnly.{SharedOnly}
use Rattle.mach_cli.specs.declared.titled.Titled.{Titled}
use Rattle.machaudit.specs.Audited.{ShowsAudit}
use Rattle.machaudit.specs.declared.options.Options.{Options}

-- how a call audits each file: in its form, and by its limit
abbrev pub audit_options : {A : Type 0} → Call A SharedOnly → Options
audit_options call = record { format = call.format; limit = limit_of call.limit 10000000 }

-- How a call shows its files: part by part, without titles.
pub record AreAuditedFiles {A : Type 0} (call : Call A SharedOnly) (s : Files) : Type 0 where
  pub program : s.program.name.now ≡ codes "machaudit"
  pub cpu : s.cpu ≡ call.cpu
  pub titles : s.has_titles ≡ false
  pub parts : s.has_parts ≡ true
  pub limit : s.limit ≡ limit_of call.limit 10000000

-- A call audits all files that it names.
abbrev pub ShowsAudits : {W A B : Type 0} → (contents : W → Option (List ℕ)) → Call A SharedOnly → (old new : BufWriter (Titled W) B) → (worst : ℕ) → Type 0
ShowsAudits contents call old new worst = (s : Files) × AreAuditedFiles call s
    × ShowsFiles s (ShowsAudit (titled_contents contents) (audit_options call) call.cpu) call.words.items call.others old new worst
