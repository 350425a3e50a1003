-- A report as a list: what is found in a file, in the order of the report.
use Rattle.std.specs.Prelude.{◌==◌, ◌+◌, ◌-◌, ◌++◌, ◌∷◌, ◌≡◌, ℕ, Bool, List, [], Option, Some, None, if◌then◌else◌, length, map, nat_lt}
use Rattle.mach_base.specs.declared.error.Error.{Error}
use Rattle.mach_layout.specs.declared.fault.LayoutFault.{LayoutFault}
use Rattle.mach_signature.specs.declared.fault.SignatureFault.{SignatureFault}
use Rattle.mach_audit.specs.declared.findings.AuditedPart.{AuditedPart}
use Rattle.mach_audit.specs.declared.findings.AuditedPart.TheVariants as parts
use Rattle.mach_audit.specs.declared.findings.FileFinding.{FileFinding}
use Rattle.mach_audit.specs.declared.findings.FindingKind.{FindingKind}
use Rattle.mach_audit.specs.declared.findings.FindingKind.TheVariants as kinds
use Rattle.mach_audit.specs.declared.findings.FindingPlace.{FindingPlace}
use Rattle.mach_audit.specs.declared.report.ArchiveReport.{ArchiveReport}
use Rattle.mach_audit.specs.declared.report.EntryReport.TheVariants as entries
use Rattle.mach_audit.specs.declared.report.EntryReport.{EntryReport}
use Rattle.mach_audit.specs.declared.report.FatReport.{FatReport}
use Rattle.mach_audit.specs.declared.report.ImageReport.TheVariants as images
use Rattle.mach_audit.specs.declared.report.ImageReport.{ImageReport}
use Rattle.mach_audit.specs.declared.report.InputReport.TheVariants as inputs
use Rattle.mach_audit.specs.declared.report.InputReport.{InputReport}
use Rattle.mach_audit.specs.declared.report.ItemFault.{ItemFault}
use Rattle.mach_audit.specs.declared.report.MemberReport.TheVariants as member_reports
use Rattle.mach_audit.specs.declared.report.MemberReport.{MemberReport}
use Rattle.mach_audit.specs.declared.report.PartReport.{PartReport}
use Rattle.mach_audit.specs.declared.report.Parts.{Parts}
use Rattle.mach_audit.specs.declared.report.Records.{Records}
use Rattle.mach_audit.specs.declared.report.Report.TheVariants as reports
use Rattle.mach_audit.specs.declared.report.Report.{Report}
use Rattle.mach_audit.specs.declared.report.SignatureReport.TheVariants as signatures
use Rattle.mach_audit.specs.declared.report.SignatureReport.{SignatureReport}

-- what is found
pub data FoundView : Type 0 where
  image_refused : Error → FoundView
  only_lossy : Error → FoundView
  table_unread : Error → FoundView
  no_entries : FoundView
  members_ended : Error → FoundView
  item_unread : ItemFault → FoundView
  more_faults : AuditedPart → ℕ → FoundView
  past_the_end : AuditedPart → ℕ → FoundView
  cut_off : AuditedPart → FoundView
  signature_unread : Error → FoundView
  not_as_signed : SignatureFault → FoundView
  laid_wrongly : LayoutFault → FoundView

-- what is found, and the place of it
abbrev pub FindingView : Type 0
FindingView = FindingPlace × FoundView

abbrev pub found_view : FindingKind → FoundView
found_view (kinds.Refused e) = image_refused e.now
found_view (kinds.Lossy e) = only_lossy e.now
found_view (kinds.Table e) = table_unread e.now
found_view kinds.NoEntries = no_entries
found_view (kinds.Archive e) = members_ended e.now
found_view (kinds.Item f) = item_unread f.now
found_view (kinds.More part n) = more_faults part n
found_view (kinds.Past part n) = past_the_end part n
found_view (kinds.Cut part) = cut_off part
found_view (kinds.Unreadable e) = signature_unread e.now
found_view (kinds.Signature f) = not_as_signed f.now
found_view (kinds.Layout f) = laid_wrongly f.now

abbrev pub finding_view : FileFinding → FindingView
finding_view f = (f.place, found_view f.kind)

-- ---- places

-- the whole file, an entry of it, and a member of an entry
abbrev pub whole_file : FindingPlace
whole_file = record { entry = None; member = None }

abbrev pub in_entry : ℕ → FindingPlace
in_entry n = record { entry = Some n; member = None }

abbrev pub in_member : FindingPlace → ℕ → FindingPlace
in_member at k = record { entry = at.entry; member = Some k }

-- what is found at a place
abbrev pub found_there : FindingPlace → List FoundView → List FindingView
found_there at found = map (λ f. (at, f)) found

-- ---- what is found in an image

-- how many faults of a part were counted and aren't kept
abbrev pub more_found : AuditedPart → (faults kept : ℕ) → List FoundView
more_found part faults kept = if nat_lt kept faults then more_faults part (faults - kept) ∷ [] else []

-- that a list has more items than were visited
abbrev pub cut_found : AuditedPart → Bool → List FoundView
cut_found part cut = if cut then cut_off part ∷ [] else []

-- how many records are past the end of the bytes
abbrev pub past_found : AuditedPart → ℕ → List FoundView
past_found part past = if past == 0 then [] else past_the_end part past ∷ []

-- of a part: the items that can't be read, how many more there are, and whether there are more items than were visited
abbrev pub part_found : {A : Type 0} → AuditedPart → PartReport A → List FoundView
part_found part p = map item_unread p.reported.items ++ (more_found part p.faults (length p.reported.items) ++ cut_found part p.cut)

abbrev pub records_found : {A : Type 0} → AuditedPart → Records A → List FoundView
records_found part r = part_found part r.in_bounds ++ past_found part r.past

-- the relocations, if they were read
abbrev pub relocations_found : {A : Type 0} → Option (Records A) → List FoundView
relocations_found None = []
relocations_found (Some r) = records_found parts.Relocations r

-- of a signature: why it can't be read, or what differs from what was signed, and how many more there are
abbrev pub signature_found : {A : Type 0} → SignatureReport A → List FoundView
signature_found signatures.Unsigned = []
signature_found (signatures.Unreadable e) = signature_unread e ∷ []
signature_found (signatures.Signed p) = map not_as_signed p.reported.items ++ more_found parts.Signature p.faults (length p.reported.items)

-- of an image that opens: part by part
abbrev pub parts_found : {A : Type 0} → Parts A → List FoundView
parts_found p =
    records_found parts.Sections p.sections
    ++ (relocations_found p.relocations
    ++ (records_found parts.Symbols p.symbols
    ++ (part_found parts.Exports p.exports
    ++ (part_found parts.Imports p.imports
    ++ (part_found parts.Fixups p.fixups
    ++ (part_found parts.Bindings p.bindings
    ++ (signature_found p.signature ++ map laid_wrongly p.layout.items)))))))

-- of an image: first why it doesn't open, or opens in lossy mode only
abbrev pub image_found : {A : Type 0} → ImageReport A → List FoundView
image_found (images.Opens parts) = parts_found parts
image_found (images.OpensLossily e parts) = only_lossy e ∷ parts_found parts
image_found (images.Refused e) = image_refused e ∷ []

-- ---- what is found in a file

-- what is found in things that are numbered from here on
abbrev pub findings_each : {X : Type 0} → (ℕ → X → List FindingView) → ℕ → List X → List FindingView
findings_each findings n [] = []
findings_each findings n (x ∷ xs) = findings n x ++ findings_each findings (n + 1) xs

-- of an item of an archive, which is at a place: what is found in a member, or why the members end
abbrev pub member_findings : {A : Type 0} → FindingPlace → ℕ → MemberReport A → List FindingView
member_findings at k (member_reports.Image m image) = found_there (in_member at k) (image_found image)
member_findings at k (member_reports.Refused e) = found_there at (members_ended e ∷ [])

-- of an archive, which is at a place: what is found in each member, and whether there are more
abbrev pub archive_findings : {A : Type 0} → FindingPlace → ArchiveReport A → List FindingView
archive_findings at a = findings_each (member_findings at) 0 a.members.items ++ found_there at (cut_found parts.Members a.cut)

-- of an entry, which is an archive or an image
abbrev pub entry_findings : {A : Type 0} → ℕ → EntryReport A → List FindingView
entry_findings n (entries.Archive a) = archive_findings (in_entry n) a
entry_findings n (entries.Image image) = found_there (in_entry n) (image_found image)

-- of a table: why it can't be read, its faults, and whether it has no entries
abbrev pub unread_found : Option Error → List FoundView
unread_found None = []
unread_found (Some e) = table_unread e ∷ []

abbrev pub none_found : ℕ → List FoundView
none_found count = if count == 0 then no_entries ∷ [] else []

abbrev pub table_found : {A : Type 0} → FatReport A → List FoundView
table_found f = unread_found f.table ++ (map laid_wrongly f.container.items ++ none_found f.count)

-- of a fat file: what is found in its table and in each entry, and whether there are more
abbrev pub fat_findings : {A : Type 0} → FatReport A → List FindingView
fat_findings f =
    found_there whole_file (table_found f)
    ++ (findings_each entry_findings 0 f.entries.items ++ found_there whole_file (cut_found parts.Entries f.cut))

-- of an image, or a fat file of 32 bits
abbrev pub mach_findings : {A : Type 0} → Report A → List FindingView
mach_findings (reports.Image image) = found_there whole_file (image_found image)
mach_findings (reports.Fat fat) = fat_findings fat

-- All findings of a report.
abbrev pub findings_of : {A : Type 0} → InputReport A → List FindingView
findings_of (inputs.Mach report) = mach_findings report
findings_of (inputs.Fat64 fat) = fat_findings fat
findings_of (inputs.Archive archive) = archive_findings whole_file archive

-- ---- a list that grows

-- these findings were added at its end
abbrev pub AddsFindings : (old new : List FileFinding) → List FindingView → Type 0
AddsFindings old new added = map finding_view new ≡ map finding_view old ++ added
