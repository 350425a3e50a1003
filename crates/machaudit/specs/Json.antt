-- The words and the verdict of a file's object.
use Rattle.std.specs.Prelude.{ℕ, List, codes, Bool, true, false}
use Rattle.mach_audit.specs.declared.report.ImageReport.{ImageReport}
use Rattle.mach_audit.specs.declared.report.ImageReport.TheVariants as images
use Rattle.mach_audit.specs.declared.report.Report.{Report}
use Rattle.mach_audit.specs.declared.report.Report.TheVariants as reports
use Rattle.mach_audit.specs.declared.verdict.Soundness.{Soundness}
use Rattle.mach_audit.specs.declared.verdict.Soundness.TheVariants.{Sound, Unended}

-- how an image opens
abbrev pub opening_words : {A : Type 0} → ImageReport A → List ℕ
opening_words (images.Opens parts) = codes "strictly"
opening_words (images.OpensLossily e parts) = codes "lossily"
opening_words (images.Refused e) = codes "no"

-- what a file is
abbrev pub fault_kind_words : {A : Type 0} → Report A → List ℕ
fault_kind_words (reports.Image r) = codes "image"
fault_kind_words (reports.Fat r) = codes "fat file"

abbrev pub is_sound : Soundness → Bool
is_sound Sound = true
is_sound other = false

-- no fault was found, but a list has more items than the limit
abbrev pub is_unended : Soundness → Bool
is_unended Unended = true
is_unended other = false
