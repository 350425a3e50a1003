-- The error for which a whole file is refused, by its report.
use Rattle.std.proofs.Common.{◌≡◌, ℕ, List, Option, Some, None, Ok}
use Rattle.mach_base.specs.declared.error.Error.{Error}
use Rattle.mach_parts.specs.ArchForms.{arch_form_32}
use Rattle.goblin_mach.specs.FatFile.{FatFile, fat_file_in}
use Rattle.goblin_mach.specs.File.{HasFatMagic}
use Rattle.machaudit.specs.Foreign.{IsWholeRefusal, opens, opens_lossily, has_table, unopened, unread_table}
use Rattle.mach_audit.specs.Report.{IsFileReport, ReportsTable, refusal_in}
use Rattle.mach_audit.specs.declared.report.FatReport.{FatReport}
use Rattle.mach_audit.specs.declared.report.ImageReport.TheVariants.{Opens, OpensLossily, Refused}
use Rattle.mach_audit.specs.declared.report.Report.{Report}
use Rattle.mach_audit.specs.declared.report.Report.TheVariants.{Image, Fat}

refused_table : {A : Type 0} (limit : ℕ) (bytes : List ℕ) (file : FatFile) (r : FatReport A) (table : Option Error) → HasFatMagic bytes
    → fat_file_in bytes ≡ Ok file → ReportsTable arch_form_32 limit bytes file r table → IsWholeRefusal bytes table
refused_table limit bytes file r None magic is reports = has_table file magic is reports.readable
refused_table limit bytes file r (Some e) magic is reports = unread_table file e magic is reports.reported reports.fails

pub whole_refusal : {A : Type 0} (limit : ℕ) (bytes : List ℕ) (r : Report A) → IsFileReport limit bytes r → IsWholeRefusal bytes (refusal_in r)
whole_refusal limit bytes (Image (Opens parts)) h = opens h.0
whole_refusal limit bytes (Image (OpensLossily e parts)) h = opens_lossily h.2.sections.0 h.2.sections.1
whole_refusal limit bytes (Image (Refused e)) h = unopened e h.0 h.1 h.2
whole_refusal limit bytes (Fat r) h = refused_table limit bytes h.0 r r.table h.1 h.2 h.3.table
