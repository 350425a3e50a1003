-- The report of a file: which items of its lists can't be read, by their numbers.
use Rattle.std.specs.Prelude.{◌≡◌, ◌-◌, ◌∷◌, ℕ, List, [], false, Result, Ok, Err, IsOk, Option, Some, None, length, min, nat_lt, take}
use Rattle.std.specs.Prelude.{option_and_then, slice_get}
use Rattle.std.specs.List.{AllZip}
use Rattle.mach_base.specs.Answer.{ErrorMeets, FailsAs}
use Rattle.mach_base.specs.Fault.{Fault, fault_of}
use Rattle.mach_base.specs.Items.{items_from}
use Rattle.mach_base.specs.declared.error.Error.{Error}
use Rattle.mach_archive.specs.Archives.{ArchiveView, archive_in}
use Rattle.mach_archive.specs.ArchiveViews.{member_view}
use Rattle.mach_archive.specs.Members.{MemberView}
use Rattle.mach_parts.specs.Fat.{part_of}
use Rattle.mach_parts.specs.ArchForms.{ArchForm, arch_form_32}
use Rattle.mach_layout.specs.Containers.{AreContainerFaults}
use Rattle.mach_dyld.specs.Imports.{Import}
use Rattle.mach_chained.specs.Fixups.{Fixup}
use Rattle.mach_parts.specs.Bindings.{Binding}
use Rattle.mach_parts.specs.Segment.{SegmentView}
use Rattle.mach_parts.specs.Symbols.{SymbolTable}
use Rattle.goblin_mach.specs.LayoutFacts.{HasLayoutFaults}
use Rattle.mach_signature.specs.AsSigned.{SignatureFaultView}
use Rattle.mach_signature.specs.SignedFacts.{HasSignatureFaults}
use Rattle.goblin_mach.specs.Facts.{OfImage, HasSegments, HasSymbolTable, HasImportItems, HasFixups, HasBindings}
use Rattle.goblin_mach.specs.Image.{Opens, ImageFault, LossyOpens}
use Rattle.goblin_mach.specs.Items.{members_within}
use Rattle.goblin_mach.specs.Subjects.{lossy_segments_in, libs_in, trie_in, trie_or_empty}
use Rattle.goblin_mach.specs.FatEntry.{FatEntry, archive, image, arch_entry_in}
use Rattle.goblin_mach.specs.FatFile.{FatFile, fat_file_in, arch_table_in}
use Rattle.goblin_mach.specs.File.{HasFatMagic, MachFault, MachOpens}
use Rattle.goblin_mach.specs.View.{IsReported}
use Rattle.mach_audit.specs.Overlaid.{AreGoneOver, every}
use Rattle.mach_audit.specs.Signed.{ReportsSignature}
use Rattle.mach_audit.specs.Reported.{ReportsOf, ReportsOfTrie, ReportsRecords, ReportsRelocations, faults_from, section_faults_reported, sections_beyond}
use Rattle.mach_audit.specs.Reported.{relocation_faults, relocations_past, symbols_unread, symbols_beyond}
use Rattle.mach_audit.specs.Verdicts.{are_clean}
use Rattle.mach_audit.specs.declared.report.ArchiveReport.{ArchiveReport}
use Rattle.mach_audit.specs.declared.report.EntryReport.TheVariants as entries
use Rattle.mach_audit.specs.declared.report.EntryReport.{EntryReport}
use Rattle.mach_audit.specs.declared.report.FatReport.{FatReport}
use Rattle.mach_audit.specs.declared.report.ImageReport.TheVariants as images
use Rattle.mach_audit.specs.declared.report.ImageReport.{ImageReport}
use Rattle.mach_audit.specs.declared.report.MemberReport.TheVariants as member_reports
use Rattle.mach_audit.specs.declared.report.MemberReport.{MemberReport}
use Rattle.mach_audit.specs.declared.report.Parts.{Parts}
use Rattle.mach_audit.specs.declared.report.ItemList.TheVariants as lists
use Rattle.mach_audit.specs.declared.report.Report.TheVariants as reports
use Rattle.mach_audit.specs.declared.report.Report.{Report}

-- Each part reports what can't be read of the first `limit` items of its list, and exactly whether the list has more. Of records
-- only those that begin within the bytes are items, and the part reports how many more are claimed. The part of the signature
-- reports all that differs from what was signed, and the layout reports its faults.
pub record ReportsImage {A : Type 0} (limit : ℕ) (bytes : List ℕ) (p : Parts A) : Type 0 where
  pub sections : (segments : List SegmentView) × HasSegments bytes 0 segments
      × ReportsRecords limit (section_faults_reported segments) (sections_beyond segments) p.sections
  pub relocations : OfImage bytes 0 (λ ctx cs.
      ReportsRelocations limit (relocation_faults ctx bytes (lossy_segments_in ctx bytes cs)) (relocations_past ctx bytes (lossy_segments_in ctx bytes cs))
      (are_clean p.sections) p.relocations)
  pub symbols : (table : Option SymbolTable) × HasSymbolTable bytes 0 table × ReportsRecords limit (symbols_unread table) (symbols_beyond table) p.symbols
  pub exports : OfImage bytes 0 (λ ctx cs. ReportsOfTrie limit (trie_or_empty (trie_in bytes cs)) (libs_in bytes cs) p.exports)
  pub imports : (items : List (Result Import Fault)) × HasImportItems bytes 0 items × ReportsOf limit (faults_from lists.Imports 0 items) p.imports
  pub fixups : (items : List (Result Fixup Fault)) × HasFixups bytes 0 items × ReportsOf limit (faults_from lists.Fixups 0 items) p.fixups
  pub bindings : (items : List (Result Binding Fault)) × HasBindings bytes 0 items × ReportsOf limit (faults_from lists.Bindings 0 items) p.bindings
  pub signature : (there : Result (Option (List SignatureFaultView)) Fault) × HasSignatureFaults bytes 0 there × ReportsSignature there p.signature
  pub layout : HasLayoutFaults bytes p.layout.items

-- The report of some bytes as an image, whose faults are these. If they open strictly, it has the parts of the image. Otherwise it
-- has a fault that holds of them, and the parts that lossy mode reads, exactly if lossy mode opens them. At most as many items of
-- a list are visited as there are bytes.
abbrev pub IsImageReport : {A : Type 0} → (Fault → Type 0) → ℕ → List ℕ → ImageReport A → Type 0
IsImageReport Fails limit bytes (images.Opens parts) = Opens bytes 0 × ReportsImage (min limit (length bytes)) bytes parts
IsImageReport Fails limit bytes (images.OpensLossily e parts) = IsReported e × ErrorMeets Fails e × ReportsImage (min limit (length bytes)) bytes parts
IsImageReport Fails limit bytes (images.Refused e) = IsReported e × ErrorMeets Fails e × ¬ (LossyOpens bytes 0)

-- the error for which some bytes don't open strictly as an image, if they don't
abbrev pub reason_of : {A : Type 0} → ImageReport A → Option Error
reason_of (images.Opens parts) = None
reason_of (images.OpensLossily e parts) = Some e
reason_of (images.Refused e) = Some e

-- the report of some bytes in lossy mode: the parts, if they open as an image
abbrev pub ReportsLossily : {A : Type 0} → ℕ → List ℕ → ImageReport A → Type 0
ReportsLossily limit bytes (images.Opens parts) = ⊥
ReportsLossily limit bytes (images.OpensLossily e parts) = ReportsImage (min limit (length bytes)) bytes parts
ReportsLossily limit bytes (images.Refused e) = MachOpens LossyOpens bytes → HasFatMagic bytes

-- it is reported as refused, for this fault
abbrev pub IsRefusedFor : {A : Type 0} → Fault → ImageReport A → Type 0
IsRefusedFor f (images.Opens parts) = ⊥
IsRefusedFor f (images.OpensLossily e parts) = ⊥
IsRefusedFor f (images.Refused e) = IsReported e × (fault_of e ≡ f)

-- The report of an item of an archive: a member has the report of its bytes as an image, and the fault that ends the members is
-- reported.
abbrev pub IsMemberReport : {A : Type 0} → ℕ → Result MemberView Fault → MemberReport A → Type 0
IsMemberReport limit (Ok m) (member_reports.Image member r) = (member_view member ≡ m) × IsImageReport (ImageFault m.bytes 0) limit m.bytes r
IsMemberReport limit (Ok m) (member_reports.Refused e) = ⊥
IsMemberReport limit (Err f) (member_reports.Image member r) = ⊥
IsMemberReport limit (Err f) (member_reports.Refused e) = IsReported e × (fault_of e ≡ f)

-- The report of an archive's members: those of the first `limit`, in order, and exactly whether there are more.
pub record ReportsMembers {A : Type 0} (limit : ℕ) (items : List (Result MemberView Fault)) (r : ArchiveReport A) : Type 0 where
  pub reports : AllZip (IsMemberReport limit) (take limit items) r.members.items
  pub cut : r.cut ≡ nat_lt limit (length items)

-- The report of an archive: that of its members, or the fault for which it doesn't open.
abbrev pub IsArchiveReport : {A : Type 0} → ℕ → Result ArchiveView Fault → ArchiveReport A → Type 0
IsArchiveReport limit (Ok a) r = ReportsMembers limit (members_within a) r
IsArchiveReport limit (Err f) r = AllZip (IsMemberReport limit) (Err f ∷ []) r.members.items × (r.cut ≡ false)

-- The report of an entry of a fat file. An archive has the reports of its members, an image has the report of its bytes as an
-- image, and any other entry is refused for its fault.
abbrev pub IsEntryReport : {A : Type 0} → ℕ → Result FatEntry Fault → EntryReport A → Type 0
IsEntryReport limit (Ok (archive bytes)) (entries.Archive r) = IsArchiveReport limit (archive_in bytes) r
IsEntryReport limit (Ok (archive bytes)) (entries.Image r) = ⊥
IsEntryReport limit (Ok (image bytes)) (entries.Archive r) = ⊥
IsEntryReport limit (Ok (image bytes)) (entries.Image r) = IsImageReport (ImageFault bytes 0) limit bytes r
IsEntryReport limit (Err f) (entries.Archive r) = ⊥
IsEntryReport limit (Err f) (entries.Image r) = IsRefusedFor f r

-- the bytes of a file that the record of an entry names; none without a record
abbrev pub named_bytes : {R : Type 0} → ArchForm R → List ℕ → Option R → List ℕ
named_bytes form bytes None = []
named_bytes form bytes (Some arch) = part_of bytes (form.offset arch) (form.size arch)

-- The report of a fat file whose table can be read: the faults of the table; each of the first `limit` entries, in order, as long
-- as they have no more bytes together than the file; and exactly whether there are more.
pub record ReportsEntries {R A : Type 0} (form : ArchForm R) (limit : ℕ) (bytes : List ℕ) (file : FatFile) (r : FatReport A) : Type 0 where
  pub readable : IsOk (arch_table_in form file)
  pub container : AreContainerFaults form bytes r.container.items
  pub gone_over : (archs : List R) × (arch_table_in form file ≡ Ok archs) × AreGoneOver form every limit bytes archs (length r.entries.items)
  pub entries : AllZip (IsEntryReport limit) (items_from (arch_entry_in form file) 0 (length r.entries.items)) r.entries.items
  pub cut : r.cut ≡ nat_lt (length r.entries.items) file.narches

-- the report of a fat file whose table can't be read: the error, and nothing else
pub record ReportsNoEntries {R A : Type 0} (form : ArchForm R) (file : FatFile) (r : FatReport A) (e : Error) : Type 0 where
  pub reported : IsReported e
  pub fails : FailsAs e (arch_table_in form file)
  pub container : r.container.items ≡ []
  pub entries : r.entries.items ≡ []
  pub cut : r.cut ≡ false

-- the report of a fat file, by the error of its table if the table can't be read
abbrev pub ReportsTable : {R A : Type 0} → ArchForm R → ℕ → List ℕ → FatFile → FatReport A → Option Error → Type 0
ReportsTable form limit bytes file r None = ReportsEntries form limit bytes file r
ReportsTable form limit bytes file r (Some e) = ReportsNoEntries form file r e

-- The report of a fat file with records of a form, and the number of entries in its header.
pub record IsFatReport {R A : Type 0} (form : ArchForm R) (limit : ℕ) (bytes : List ℕ) (file : FatFile) (r : FatReport A) : Type 0 where
  pub count : r.count ≡ file.narches
  pub table : ReportsTable form limit bytes file r r.table

-- The report of a file.
abbrev pub IsFileReport : {A : Type 0} → ℕ → List ℕ → Report A → Type 0
IsFileReport limit bytes (reports.Image r) = IsImageReport (MachFault ImageFault bytes) limit bytes r
IsFileReport limit bytes (reports.Fat r) = (file : FatFile) × HasFatMagic bytes × (fat_file_in bytes ≡ Ok file) × IsFatReport arch_form_32 limit bytes file r

-- the error of an image that opens in no mode
abbrev pub image_refusal : {A : Type 0} → ImageReport A → Option Error
image_refusal (images.Opens parts) = None
image_refusal (images.OpensLossily e parts) = None
image_refusal (images.Refused e) = Some e

-- the error for which a whole file is refused, if it is: that of its image, or that of a fat file's table that can't be read
abbrev pub refusal_in : {A : Type 0} → Report A → Option Error
refusal_in (reports.Image r) = image_refusal r
refusal_in (reports.Fat r) = r.table

-- the error that an item of an archive is, if it is no member
abbrev pub item_error : {A : Type 0} → MemberReport A → Option Error
item_error (member_reports.Image m r) = None
item_error (member_reports.Refused e) = Some e

-- the error at which the members of an archive end, or for which it doesn't open: its last item
abbrev pub archive_error : {A : Type 0} → ArchiveReport A → Option Error
archive_error r = option_and_then item_error (slice_get r.members.items (length r.members.items - 1))
