-- Whether a file is sound, by its report.
use Rattle.std.specs.Prelude.{◌≡◌, ◌==◌, ◌||◌, ◌&&◌, ℕ, Bool, not, List, [], ◌∷◌, Option, Some, None, is_some, codes, if◌then◌else◌}
use Rattle.mach_layout.specs.declared.fault.LayoutFault.{LayoutFault}
use Rattle.mach_audit.specs.declared.report.ArchiveReport.{ArchiveReport}
use Rattle.mach_audit.specs.declared.report.EntryReport.TheVariants as entries
use Rattle.mach_audit.specs.declared.report.EntryReport.{EntryReport}
use Rattle.mach_audit.specs.declared.report.FatReport.{FatReport}
use Rattle.mach_audit.specs.declared.report.ImageReport.TheVariants as images
use Rattle.mach_audit.specs.declared.report.ImageReport.{ImageReport}
use Rattle.mach_audit.specs.declared.report.InputReport.TheVariants as inputs
use Rattle.mach_audit.specs.declared.report.InputReport.{InputReport}
use Rattle.mach_audit.specs.declared.report.MemberReport.TheVariants as member_reports
use Rattle.mach_audit.specs.declared.report.MemberReport.{MemberReport}
use Rattle.mach_audit.specs.declared.report.PartReport.{PartReport}
use Rattle.mach_audit.specs.declared.report.Parts.{Parts}
use Rattle.mach_audit.specs.declared.report.Records.{Records}
use Rattle.mach_audit.specs.declared.report.Report.TheVariants as reports
use Rattle.mach_audit.specs.declared.report.Report.{Report}
use Rattle.mach_audit.specs.declared.report.SignatureReport.{SignatureReport}
use Rattle.mach_audit.specs.declared.report.SignatureReport.TheVariants as signatures
use Rattle.mach_audit.specs.declared.verdict.Soundness.TheVariants.{Sound, Unended, Faulty}
use Rattle.mach_audit.specs.declared.verdict.Soundness.{Soundness}

-- a verdict in words
abbrev pub verdict_words : Soundness → List ℕ
verdict_words Sound = codes "sound"
verdict_words Unended = codes "not sound: limit met"
verdict_words Faulty = codes "not sound"

-- the verdict on two parts: a fault counts before a limit, and a limit before soundness
abbrev pub verdict_of_both : Soundness → Soundness → Soundness
verdict_of_both Faulty w = Faulty
verdict_of_both Unended Faulty = Faulty
verdict_of_both Unended Unended = Unended
verdict_of_both Unended Sound = Unended
verdict_of_both Sound w = w

-- all items of a part were visited, and each can be read
abbrev pub is_clean : {A : Type 0} → PartReport A → Bool
is_clean p = (p.faults == 0) && not p.cut

-- the verdict on a part: it has faults, it was not visited to its end, or neither
abbrev pub verdict_of : {A : Type 0} → PartReport A → Soundness
verdict_of p = if p.faults == 0 then (if p.cut then Unended else Sound) else Faulty

-- no record is past the end of the bytes, all items were visited, and each can be read
abbrev pub are_clean : {A : Type 0} → Records A → Bool
are_clean r = (r.past == 0) && is_clean r.in_bounds

-- the verdict on records: faulty if some are past the end of the bytes, else that on the others
abbrev pub verdict_of_records : {A : Type 0} → Records A → Soundness
verdict_of_records r = if r.past == 0 then verdict_of r.in_bounds else Faulty

-- the verdict on the sections and the relocations; the relocations are not read if a section can't be
abbrev pub verdict_of_read : {A : Type 0} → Records A → Option (Records A) → Soundness
verdict_of_read sections None = verdict_of_records sections
verdict_of_read sections (Some relocations) = verdict_of_both (verdict_of_records sections) (verdict_of_records relocations)

-- the verdict on faults of layout
abbrev pub verdict_of_layout : List LayoutFault → Soundness
verdict_of_layout [] = Sound
verdict_of_layout (f ∷ fs) = Faulty

-- the verdict on a signature: faulty if it has faults or can't be read
abbrev pub verdict_of_signature : {A : Type 0} → SignatureReport A → Soundness
verdict_of_signature signatures.Unsigned = Sound
verdict_of_signature (signatures.Unreadable e) = Faulty
verdict_of_signature (signatures.Signed p) = if p.faults == 0 then Sound else Faulty

-- the verdict on all parts
abbrev pub verdict_of_parts : {A : Type 0} → Parts A → Soundness
verdict_of_parts p =
    verdict_of_both (verdict_of_both (verdict_of_layout p.layout.items) (verdict_of_signature p.signature))
    (verdict_of_both (verdict_of_read p.sections p.relocations) (verdict_of_both (verdict_of_records p.symbols)
    (verdict_of_both (verdict_of p.exports) (verdict_of_both (verdict_of p.imports) (verdict_of_both (verdict_of p.fixups) (verdict_of p.bindings))))))

-- the verdict on an image: faulty if it doesn't open strictly
abbrev pub verdict_of_image : {A : Type 0} → ImageReport A → Soundness
verdict_of_image (images.Opens parts) = verdict_of_parts parts
verdict_of_image (images.OpensLossily e parts) = Faulty
verdict_of_image (images.Refused e) = Faulty

-- the verdict on whether there are more than were audited
abbrev pub verdict_of_cut : Bool → Soundness
verdict_of_cut cut = if cut then Unended else Sound

-- the verdict on all of some things
abbrev pub verdict_of_all : {X : Type 0} → (X → Soundness) → List X → Soundness
verdict_of_all verdict [] = Sound
verdict_of_all verdict (x ∷ xs) = verdict_of_both (verdict x) (verdict_of_all verdict xs)

-- the verdict on an item of an archive
abbrev pub verdict_of_member : {A : Type 0} → MemberReport A → Soundness
verdict_of_member (member_reports.Image m image) = verdict_of_image image
verdict_of_member (member_reports.Refused e) = Faulty

-- the verdict on an archive
abbrev pub verdict_of_archive : {A : Type 0} → ArchiveReport A → Soundness
verdict_of_archive r = verdict_of_both (verdict_of_cut r.cut) (verdict_of_all verdict_of_member r.members.items)

-- the verdict on an entry of a fat file
abbrev pub verdict_of_entry : {A : Type 0} → EntryReport A → Soundness
verdict_of_entry (entries.Archive archive) = verdict_of_archive archive
verdict_of_entry (entries.Image image) = verdict_of_image image

-- the verdict on the entries of a fat file: faulty if its table can't be read, or it has no entries
abbrev pub verdict_of_table : {A : Type 0} → FatReport A → Soundness
verdict_of_table f =
    if is_some f.table || (f.count == 0) then Faulty
    else verdict_of_both (verdict_of_cut f.cut) (verdict_of_all verdict_of_entry f.entries.items)

-- the verdict on a fat file
abbrev pub verdict_of_fat : {A : Type 0} → FatReport A → Soundness
verdict_of_fat f = verdict_of_both (verdict_of_layout f.container.items) (verdict_of_table f)

-- the verdict on a file
abbrev pub verdict_of_report : {A : Type 0} → Report A → Soundness
verdict_of_report (reports.Image image) = verdict_of_image image
verdict_of_report (reports.Fat fat) = verdict_of_fat fat

-- the verdict on a file of any kind
abbrev pub verdict_of_input : {A : Type 0} → InputReport A → Soundness
verdict_of_input (inputs.Mach report) = verdict_of_report report
verdict_of_input (inputs.Fat64 fat) = verdict_of_fat fat
verdict_of_input (inputs.Archive archive) = verdict_of_archive archive

-- A verdict on something that may be sound, and may have a list that is too long to be visited to its end. It is sound exactly if
-- the thing is sound and no list is so long. Otherwise it is faulty only if the thing isn't sound, and unended only if there is
-- such a list.
pub record Judges (IsSound IsLong : Type 0) (v : Soundness) : Type 0 where
  pub sound : v ≡ Sound → IsSound
  pub whole : v ≡ Sound → IsLong → ⊥
  pub faulty : v ≡ Faulty → IsSound → ⊥
  pub unended : v ≡ Unended → IsLong
