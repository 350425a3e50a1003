-- The audit of a file as C sees it. The numbers are those of `goblin_mach.h` (GM_FINDING_REFUSED, GM_LIST_SECTIONS, GM_SOUND, and those after
-- them).
use Rattle.std.specs.Prelude.{◌≡◌, ◌^◌, ◌-◌, ℕ, List, [], Option, Some, None, drop, length, map, min, unwrap_or}
use Rattle.std.specs.declared.alloc.Global.{Global}
use Rattle.mach_base.specs.Fault.{fault_of}
use Rattle.mach_base.specs.Words.{words_of}
use Rattle.mach_base.specs.declared.error.Error.{Error}
use Rattle.mach_signature.specs.FaultViews.{signature_fault_view}
use Rattle.mach_audit.specs.Findings.{FindingView, FoundView, finding_view, findings_of}
use Rattle.mach_audit.specs.Findings.{image_refused, only_lossy, table_unread, no_entries, members_ended, item_unread, more_faults, past_the_end}
use Rattle.mach_audit.specs.Findings.{cut_off, signature_unread, not_as_signed, laid_wrongly}
use Rattle.mach_audit.specs.Inputs.{IsInputReport, IsLongInput, IsSoundInput}
use Rattle.mach_audit.specs.Verdicts.{Judges, verdict_of_input}
use Rattle.mach_audit.specs.declared.findings.AuditedPart.{AuditedPart}
use Rattle.mach_audit.specs.declared.findings.AuditedPart.TheVariants as parts
use Rattle.mach_audit.specs.declared.findings.FindingPlace.{FindingPlace}
use Rattle.mach_audit.specs.declared.report.InputReport.{InputReport}
use Rattle.mach_audit.specs.declared.report.ItemList.{ItemList}
use Rattle.mach_audit.specs.declared.report.ItemList.TheVariants as lists
use Rattle.mach_audit.specs.declared.verdict.Soundness.{Soundness}
use Rattle.mach_audit.specs.declared.verdict.Soundness.TheVariants.{Sound, Unended, Faulty}
use Rattle.goblin_mach_c.specs.Codes.{HasErrorWords, code_of_fault, error_text}
use Rattle.goblin_mach_c.specs.LayoutRows.{layout_row}
use Rattle.goblin_mach_c.specs.Say.{FillsBy}
use Rattle.goblin_mach_c.specs.SignatureRows.{fault_row, signature_fault_row}
use Rattle.goblin_mach_c.specs.declared.audit.FindingRows.{FindingRows}
use Rattle.goblin_mach_c.specs.declared.audit.gm_finding.{gm_finding}
use Rattle.goblin_mach_c.specs.declared.errors.gm_error.{gm_error}
use Rattle.goblin_mach_c.specs.declared.layout.gm_layout_fault.{gm_layout_fault}
use Rattle.goblin_mach_c.specs.declared.signature.gm_signature_fault.{gm_signature_fault}

abbrev pub soundness_number : Soundness → ℕ
soundness_number Sound = 0
soundness_number Unended = 1
soundness_number Faulty = 2

abbrev pub finding_number : FoundView → ℕ
finding_number (image_refused e) = 1
finding_number (only_lossy e) = 2
finding_number (table_unread e) = 3
finding_number no_entries = 4
finding_number (members_ended e) = 5
finding_number (item_unread f) = 6
finding_number (more_faults part n) = 7
finding_number (past_the_end part n) = 8
finding_number (cut_off part) = 9
finding_number (signature_unread e) = 10
finding_number (not_as_signed f) = 11
finding_number (laid_wrongly f) = 12

-- ---- lists

abbrev pub audited_number : AuditedPart → ℕ
audited_number parts.Sections = 1
audited_number parts.Relocations = 2
audited_number parts.Symbols = 3
audited_number parts.Exports = 4
audited_number parts.Imports = 5
audited_number parts.Fixups = 6
audited_number parts.Bindings = 7
audited_number parts.Signature = 8
audited_number parts.Members = 9
audited_number parts.Entries = 10

-- the list of an item that can't be read, with the numbers of its segment and its section, if it has them
abbrev pub item_list_numbers : ItemList → ℕ × ℕ × ℕ
item_list_numbers (lists.Sections segment) = (1, segment, 0)
item_list_numbers (lists.Relocations segment section) = (2, segment, section)
item_list_numbers lists.Symbols = (3, 0, 0)
item_list_numbers lists.Exports = (4, 0, 0)
item_list_numbers lists.Imports = (5, 0, 0)
item_list_numbers lists.Fixups = (6, 0, 0)
item_list_numbers lists.Bindings = (7, 0, 0)

-- ---- the fields of what is found; 0 where it has none

abbrev pub list_found : FoundView → ℕ
list_found (item_unread f) = (item_list_numbers f.place.list).0
list_found (more_faults part n) = audited_number part
list_found (past_the_end part n) = audited_number part
list_found (cut_off part) = audited_number part
list_found _ = 0

abbrev pub segment_found : FoundView → ℕ
segment_found (item_unread f) = (item_list_numbers f.place.list).1
segment_found _ = 0

abbrev pub section_found : FoundView → ℕ
section_found (item_unread f) = (item_list_numbers f.place.list).2
section_found _ = 0

abbrev pub index_found : FoundView → ℕ
index_found (item_unread f) = f.place.index
index_found _ = 0

abbrev pub count_found : FoundView → ℕ
count_found (more_faults part n) = n
count_found (past_the_end part n) = n
count_found _ = 0

abbrev pub no_layout_fault : gm_layout_fault
no_layout_fault =
    record {
      found = 0;
      limit = 0;
      command = 0;
      index = 0;
      other_command = 0;
      other_index = 0;
      rule = 0;
      part = 0;
      other_part = 0;
      reserved = 0;
    }

abbrev pub layout_found : FoundView → gm_layout_fault
layout_found (laid_wrongly f) = layout_row f
layout_found _ = no_layout_fault

abbrev pub signature_fault_found : FoundView → gm_signature_fault
signature_fault_found (not_as_signed f) = signature_fault_row (signature_fault_view f)
signature_fault_found _ = fault_row 0 0

abbrev pub error_found : FoundView → Option Error
error_found (image_refused e) = Some e
error_found (only_lossy e) = Some e
error_found (table_unread e) = Some e
error_found (members_ended e) = Some e
error_found (item_unread f) = Some f.error
error_found (signature_unread e) = Some e
error_found _ = None

abbrev pub code_found : Option Error → ℕ
code_found None = 0
code_found (Some e) = code_of_fault (fault_of e)

-- ---- rows

-- nothing is refused
abbrev pub no_error : gm_error
no_error = record { code = 0; text = error_text [] }

-- the number of an entry or a member, or the greatest number if there is none
abbrev pub number_or_most : Option ℕ → ℕ
number_or_most n = unwrap_or n (2 ^ 64 - 1)

-- a row of a kind, with its place and its error alone
abbrev pub row_with : FindingPlace → (kind : ℕ) → gm_error → gm_finding
row_with place kind error =
    record {
      entry = number_or_most place.entry;
      member = number_or_most place.member;
      segment = 0;
      section = 0;
      index = 0;
      count = 0;
      kind = kind;
      list = 0;
      layout = no_layout_fault;
      signature = fault_row 0 0;
      error = error;
    }

-- a row of a kind for a part of the file, with a count
abbrev pub part_row : FindingPlace → (kind : ℕ) → AuditedPart → (count : ℕ) → gm_finding
part_row place kind part n =
    record {
      entry = number_or_most place.entry;
      member = number_or_most place.member;
      segment = 0;
      section = 0;
      index = 0;
      count = n;
      kind = kind;
      list = audited_number part;
      layout = no_layout_fault;
      signature = fault_row 0 0;
      error = no_error;
    }

-- the row of a finding whose error has this text
abbrev pub finding_row : FindingView → (text : List ℕ) → gm_finding
finding_row f text =
    record {
      entry = number_or_most f.0.entry;
      member = number_or_most f.0.member;
      segment = segment_found f.1;
      section = section_found f.1;
      index = index_found f.1;
      count = count_found f.1;
      kind = finding_number f.1;
      list = list_found f.1;
      layout = layout_found f.1;
      signature = signature_fault_found f.1;
      error = record { code = code_found (error_found f.1); text = text };
    }

-- The text is the words of an error, or empty because they didn't fit, or there is no error.
abbrev pub HasWordsOf : Option Error → List ℕ → Type 0
HasWordsOf None text = text ≡ error_text []
HasWordsOf (Some e) text = HasErrorWords (words_of e) text

-- a row of a finding
pub record IsFindingRow (f : FindingView) (r : gm_finding) : Type 0 where
  pub row : r ≡ finding_row f r.error.text
  pub words : HasWordsOf (error_found f.1) r.error.text

-- the findings that are left
abbrev pub finding_rows_left : FindingRows → List FindingView
finding_rows_left it = map finding_view (drop it.next it.findings.now)

-- the rows of these findings were written, as many as there are and fit
abbrev pub WritesFindings : List FindingView → (old new : List gm_finding) → Type 0
WritesFindings found old new = FillsBy IsFindingRow found old new (min (length found) (length old))

-- The findings of a file's report were written, with their number and the verdict.
pub record WritesAudit (limit : ℕ) (bytes : List ℕ) (old new : List gm_finding) (n v : ℕ) : Type 0 where
  pub report : InputReport Global
  pub is : IsInputReport limit bytes report
  pub findings : WritesFindings (findings_of report) old new
  pub count : n ≡ length (findings_of report)
  pub verdict : v ≡ soundness_number (verdict_of_input report)

-- A number is that of a verdict that judges the file.
abbrev pub SaysSoundness : (limit : ℕ) → List ℕ → (verdict : ℕ) → Type 0
SaysSoundness limit bytes verdict = (v : Soundness) × (verdict ≡ soundness_number v) × Judges (IsSoundInput bytes) (IsLongInput limit bytes) v
