-- Reports in which nothing is found, and their verdicts.
use Rattle.std.proofs.Common.{◌≡◌, ◌∙◌, ◌+◌, ◌-◌, ◌++◌, ◌∷◌, [], ℕ, zero, suc, Bool, true, false, List, length, map, min, take, Option, Some, None}
use Rattle.std.proofs.Common.{Result, Ok, Err, refl, sym, ap, arith}
use Rattle.std.proofs.Math.Dec.{eqb-suc-zero}
use Rattle.std.proofs.lemmas.Bool.{ltb-false}
use Rattle.std.proofs.lemmas.List.{nil_from_length}
use Rattle.std.specs.List.{AllZip}
use Rattle.std.specs.Prelude.{◌==◌, ◌||◌, if◌then◌else◌, is_some, nat_lt}
use Rattle.mach_base.specs.Fault.{Fault}
use Rattle.mach_base.specs.declared.error.Error.{Error}
use Rattle.mach_archive.specs.Archives.{ArchiveView, archive_in}
use Rattle.mach_archive.specs.Members.{MemberView}
use Rattle.mach_parts.specs.ArchForms.{ArchForm, arch_form_32, arch_form_64}
use Rattle.mach_layout.specs.declared.fault.LayoutFault.{LayoutFault}
use Rattle.mach_signature.proofs.ReportedNone.{both_empty, empty_both, map_empty}
use Rattle.mach_signature.specs.AsSigned.{SignatureFaultView}
use Rattle.mach_signature.specs.FaultViews.{signature_fault_view}
use Rattle.mach_signature.specs.declared.fault.SignatureFault.{SignatureFault}
use Rattle.goblin_mach.specs.FatEntry.{FatEntry, archive, image}
use Rattle.goblin_mach.specs.FatFile.{FatFile}
use Rattle.goblin_mach.specs.File.{MachFault}
use Rattle.goblin_mach.specs.Image.{ImageFault}
use Rattle.mach_audit.proofs.Judgements.{number}
use Rattle.mach_audit.specs.Findings.{FindingView, FoundView, found_there, item_unread, laid_wrongly, more_faults, not_as_signed, past_the_end}
use Rattle.mach_audit.specs.Findings.{cut_found, more_found, none_found, part_found, past_found, records_found, relocations_found, signature_found}
use Rattle.mach_audit.specs.Findings.{image_found, parts_found, table_found, unread_found, in_entry, in_member, whole_file}
use Rattle.mach_audit.specs.Findings.{archive_findings, entry_findings, fat_findings, findings_each, findings_of, mach_findings, member_findings}
use Rattle.mach_audit.specs.Inputs.{IsInputReport, IsReportByKind}
use Rattle.mach_audit.specs.Report.{IsArchiveReport, IsEntryReport, IsFatReport, IsFileReport, IsImageReport, IsMemberReport, IsRefusedFor}
use Rattle.mach_audit.specs.Report.{ReportsImage, ReportsTable}
use Rattle.mach_audit.specs.Reported.{FaultAt, ReportsFirstFaults, ReportsRecords, ReportsRelocations, fault_reported}
use Rattle.mach_audit.specs.Signed.{ReportsSignature}
use Rattle.mach_audit.specs.Verdicts.{are_clean, verdict_of, verdict_of_all, verdict_of_both, verdict_of_cut, verdict_of_image, verdict_of_layout}
use Rattle.mach_audit.specs.Verdicts.{verdict_of_archive, verdict_of_entry, verdict_of_fat, verdict_of_input, verdict_of_member, verdict_of_parts}
use Rattle.mach_audit.specs.Verdicts.{verdict_of_read, verdict_of_records, verdict_of_report, verdict_of_signature, verdict_of_table}
use Rattle.mach_audit.specs.declared.findings.AuditedPart.{AuditedPart}
use Rattle.mach_audit.specs.declared.findings.AuditedPart.TheVariants as parts
use Rattle.mach_audit.specs.declared.findings.FindingPlace.{FindingPlace}
use Rattle.mach_audit.specs.declared.report.ArchiveReport.{ArchiveReport}
use Rattle.mach_audit.specs.declared.report.EntryReport.TheVariants as entries
use Rattle.mach_audit.specs.declared.report.EntryReport.{EntryReport}
use Rattle.mach_audit.specs.declared.report.FatReport.{FatReport}
use Rattle.mach_audit.specs.declared.report.ImageReport.TheVariants as images
use Rattle.mach_audit.specs.declared.report.ImageReport.{ImageReport}
use Rattle.mach_audit.specs.declared.report.InputReport.TheVariants as inputs
use Rattle.mach_audit.specs.declared.report.InputReport.{InputReport}
use Rattle.mach_audit.specs.declared.report.ItemFault.{ItemFault}
use Rattle.mach_audit.specs.declared.report.MemberReport.TheVariants as member_reports
use Rattle.mach_audit.specs.declared.report.MemberReport.{MemberReport}
use Rattle.mach_audit.specs.declared.report.PartReport.{PartReport}
use Rattle.mach_audit.specs.declared.report.Parts.{Parts}
use Rattle.mach_audit.specs.declared.report.Records.{Records}
use Rattle.mach_audit.specs.declared.report.Report.TheVariants as reports
use Rattle.mach_audit.specs.declared.report.Report.{Report}
use Rattle.mach_audit.specs.declared.report.SignatureReport.TheVariants as signatures
use Rattle.mach_audit.specs.declared.report.SignatureReport.{SignatureReport}
use Rattle.mach_audit.specs.declared.verdict.Soundness.TheVariants.{Sound, Unended, Faulty}
use Rattle.mach_audit.specs.declared.verdict.Soundness.{Soundness}

-- ---- verdicts

faulty_not_sound : Faulty ≡ Sound → ⊥
faulty_not_sound is = omega (arith, ap number is)

unended_not_sound : Unended ≡ Sound → ⊥
unended_not_sound is = omega (arith, ap number is)

sound_both : (v w : Soundness) → v ≡ Sound → w ≡ Sound → verdict_of_both v w ≡ Sound
sound_both v w first second = ap (λ u. verdict_of_both u w) first ∙ second

both_sound_of : (v w : Soundness) → verdict_of_both v w ≡ Sound → (v ≡ Sound) × (w ≡ Sound)
both_sound_of Sound w is = (refl, is)
both_sound_of Unended Sound is = absurd (unended_not_sound is)
both_sound_of Unended Unended is = absurd (unended_not_sound is)
both_sound_of Unended Faulty is = absurd (faulty_not_sound is)
both_sound_of Faulty w is = absurd (faulty_not_sound is)

-- ---- nothing found, so sound

-- if no fault is kept, none was counted
none_counted : (part : AuditedPart) (n : ℕ) → more_found part n 0 ≡ [] → n ≡ 0
none_counted part zero none = refl
none_counted part (suc n) none = by_test (nat_lt 0 (suc n)) refl none
  where
    by_test : (fewer : Bool) → nat_lt 0 (suc n) ≡ fewer → (if fewer then more_faults part (suc n - 0) ∷ [] else []) ≡ [] → suc n ≡ 0
    by_test true is none = absurd (cc)
    by_test false is none = absurd (let few = ltb-false 0 (suc n) is in omega (arith, few))

none_cut : (part : AuditedPart) (cut : Bool) → cut_found part cut ≡ [] → cut ≡ false
none_cut part false none = refl
none_cut part true none = absurd (cc)

none_past : (part : AuditedPart) (past : ℕ) → past_found part past ≡ [] → past ≡ 0
none_past part zero none = refl
none_past part (suc n) none = absurd (let some = rw (eqb-suc-zero n) at none in clash some)
  where
    clash : past_the_end part (suc n) ∷ [] ≡ [] → ⊥
    clash some = cc

none_laid : (faults : List LayoutFault) → map laid_wrongly faults ≡ [] → verdict_of_layout faults ≡ Sound
none_laid faults none = ap verdict_of_layout (map_empty laid_wrongly faults none)

part_sound : {A : Type 0} (part : AuditedPart) (p : PartReport A) → part_found part p ≡ [] → verdict_of p ≡ Sound
part_sound part p none = by_kept p.reported.items p.faults p.cut none
  where
    by_kept : (kept : List ItemFault) (faults : ℕ) (cut : Bool)
        → map item_unread kept ++ (more_found part faults (length kept) ++ cut_found part cut) ≡ []
        → (if faults == 0 then (if cut then Unended else Sound) else Faulty) ≡ Sound
    by_kept (k ∷ ks) faults cut none = absurd (cc)
    by_kept [] faults cut none =
        let both = both_empty (more_found part faults 0) (cut_found part cut) none in
        ap (λ (n : ℕ). if n == 0 then (if cut then Unended else Sound) else Faulty) (none_counted part faults both.0)
        ∙ ap (λ (c : Bool). if c then Unended else Sound) (none_cut part cut both.1)

records_sound : {A : Type 0} (part : AuditedPart) (r : Records A) → records_found part r ≡ [] → verdict_of_records r ≡ Sound
records_sound part r none =
    let both = both_empty (part_found part r.in_bounds) (past_found part r.past) none in
    ap (λ (n : ℕ). if n == 0 then verdict_of r.in_bounds else Faulty) (none_past part r.past both.1) ∙ part_sound part r.in_bounds both.0

read_sound : {A : Type 0} (sections : Records A) (relocations : Option (Records A)) → records_found parts.Sections sections ≡ []
    → relocations_found relocations ≡ [] → verdict_of_read sections relocations ≡ Sound
read_sound sections None first second = records_sound parts.Sections sections first
read_sound sections (Some r) first second =
    sound_both (verdict_of_records sections) (verdict_of_records r) (records_sound parts.Sections sections first) (records_sound parts.Relocations r second)

signature_sound : {A : Type 0} (s : SignatureReport A) → signature_found s ≡ [] → verdict_of_signature s ≡ Sound
signature_sound signatures.Unsigned none = refl
signature_sound (signatures.Unreadable e) none = absurd (cc)
signature_sound (signatures.Signed p) none = by_kept p.reported.items p.faults none
  where
    by_kept : (kept : List SignatureFault) (faults : ℕ) → map not_as_signed kept ++ more_found parts.Signature faults (length kept) ≡ []
        → (if faults == 0 then Sound else Faulty) ≡ Sound
    by_kept (k ∷ ks) faults none = absurd (cc)
    by_kept [] faults none = ap (λ (n : ℕ). if n == 0 then Sound else Faulty) (none_counted parts.Signature faults none)

parts_sound : {A : Type 0} (p : Parts A) → parts_found p ≡ [] → verdict_of_parts p ≡ Sound
parts_sound p none =
    let sections = both_empty (records_found parts.Sections p.sections) _ none in
    let relocations = both_empty (relocations_found p.relocations) _ sections.1 in
    let symbols = both_empty (records_found parts.Symbols p.symbols) _ relocations.1 in
    let exports = both_empty (part_found parts.Exports p.exports) _ symbols.1 in
    let imports = both_empty (part_found parts.Imports p.imports) _ exports.1 in
    let fixups = both_empty (part_found parts.Fixups p.fixups) _ imports.1 in
    let bindings = both_empty (part_found parts.Bindings p.bindings) _ fixups.1 in
    let signature = both_empty (signature_found p.signature) _ bindings.1 in
    sound_both _ _ (sound_both _ _ (none_laid p.layout.items signature.1) (signature_sound p.signature signature.0))
    (sound_both _ _ (read_sound p.sections p.relocations sections.0 relocations.0)
    (sound_both _ _ (records_sound parts.Symbols p.symbols symbols.0)
    (sound_both _ _ (part_sound parts.Exports p.exports exports.0)
    (sound_both _ _ (part_sound parts.Imports p.imports imports.0)
    (sound_both _ _ (part_sound parts.Fixups p.fixups fixups.0) (part_sound parts.Bindings p.bindings bindings.0))))))

image_sound : {A : Type 0} (r : ImageReport A) → image_found r ≡ [] → verdict_of_image r ≡ Sound
image_sound (images.Opens p) none = parts_sound p none
image_sound (images.OpensLossily e p) none = absurd (cc)
image_sound (images.Refused e) none = absurd (cc)

image_there : {A : Type 0} (at : FindingPlace) (r : ImageReport A) → found_there at (image_found r) ≡ [] → verdict_of_image r ≡ Sound
image_there at r none = image_sound r (map_empty (λ (f : FoundView). (at, f)) (image_found r) none)

each_sound : {X : Type 0} (findings : ℕ → X → List FindingView) (verdict : X → Soundness) → ((n : ℕ) (x : X) → findings n x ≡ [] → verdict x ≡ Sound)
    → (n : ℕ) (xs : List X) → findings_each findings n xs ≡ [] → verdict_of_all verdict xs ≡ Sound
each_sound findings verdict one n [] none = refl
each_sound findings verdict one n (x ∷ xs) none =
    let both = both_empty (findings n x) (findings_each findings (n + 1) xs) none in
    sound_both (verdict x) (verdict_of_all verdict xs) (one n x both.0) (each_sound findings verdict one (n + 1) xs both.1)

cut_there : (at : FindingPlace) (part : AuditedPart) (cut : Bool) → found_there at (cut_found part cut) ≡ [] → verdict_of_cut cut ≡ Sound
cut_there at part cut none = ap verdict_of_cut (none_cut part cut (map_empty (λ (f : FoundView). (at, f)) (cut_found part cut) none))

member_sound : {A : Type 0} (at : FindingPlace) (n : ℕ) (r : MemberReport A) → member_findings at n r ≡ [] → verdict_of_member r ≡ Sound
member_sound at n (member_reports.Image m r) none = image_there (in_member at n) r none
member_sound at n (member_reports.Refused e) none = absurd (cc)

archive_sound : {A : Type 0} (at : FindingPlace) (r : ArchiveReport A) → archive_findings at r ≡ [] → verdict_of_archive r ≡ Sound
archive_sound at r none =
    let both = both_empty (findings_each (member_findings at) 0 r.members.items) (found_there at (cut_found parts.Members r.cut)) none in
    sound_both _ _ (cut_there at parts.Members r.cut both.1) (each_sound (member_findings at) verdict_of_member (member_sound at) 0 r.members.items both.0)

entry_sound : {A : Type 0} (n : ℕ) (r : EntryReport A) → entry_findings n r ≡ [] → verdict_of_entry r ≡ Sound
entry_sound n (entries.Archive r) none = archive_sound (in_entry n) r none
entry_sound n (entries.Image r) none = image_there (in_entry n) r none

-- a table that can be read, of at least one entry
table_sound : (table : Option Error) (count : ℕ) (rest : Soundness) → unread_found table ≡ [] → none_found count ≡ [] → rest ≡ Sound
    → (if is_some table || (count == 0) then Faulty else rest) ≡ Sound
table_sound (Some e) count rest read some is = absurd (cc)
table_sound None zero rest read some is = absurd (cc)
table_sound None (suc n) rest read some is = rw (eqb-suc-zero n) is

fat_sound : {A : Type 0} (r : FatReport A) → fat_findings r ≡ [] → verdict_of_fat r ≡ Sound
fat_sound r none =
    let both = both_empty (found_there whole_file (table_found r)) _ none in
    let rest = both_empty (findings_each entry_findings 0 r.entries.items) _ both.1 in
    let table = both_empty (unread_found r.table) _ (map_empty (λ (f : FoundView). (whole_file, f)) (table_found r) both.0) in
    let faults = both_empty (map laid_wrongly r.container.items) (none_found r.count) table.1 in
    sound_both _ _ (none_laid r.container.items faults.0) (table_sound r.table r.count _ table.0 faults.1
    (sound_both _ _ (cut_there whole_file parts.Entries r.cut rest.1) (each_sound entry_findings verdict_of_entry entry_sound 0 r.entries.items rest.0)))

mach_sound : {A : Type 0} (r : Report A) → mach_findings r ≡ [] → verdict_of_report r ≡ Sound
mach_sound (reports.Image r) none = image_there whole_file r none
mach_sound (reports.Fat r) none = fat_sound r none

pub sound_if_nothing_found : {A : Type 0} (r : InputReport A) → findings_of r ≡ [] → verdict_of_input r ≡ Sound
sound_if_nothing_found (inputs.Mach r) none = mach_sound r none
sound_if_nothing_found (inputs.Fat64 r) none = fat_sound r none
sound_if_nothing_found (inputs.Archive r) none = archive_sound whole_file r none

-- ---- sound, so nothing found

-- a part that counts no fault keeps none, and has visited all
kept_none : {A : Type 0} (faults : List FaultAt) (p : PartReport A) → ReportsFirstFaults faults p → p.faults ≡ 0 → p.reported.items ≡ []
kept_none faults p is none =
    let empty = nil_from_length faults (sym is.count ∙ none) in
    map_empty fault_reported p.reported.items (is.reported ∙ ap (take 10) empty)

none_in_part : {A : Type 0} (part : AuditedPart) (faults : List FaultAt) (p : PartReport A) → ReportsFirstFaults faults p → verdict_of p ≡ Sound
    → part_found part p ≡ []
none_in_part part faults p is sound = by_count p.reported.items p.faults p.cut (kept_none faults p is) sound
  where
    by_count : (kept : List ItemFault) (n : ℕ) (cut : Bool) → (n ≡ 0 → kept ≡ [])
        → (if n == 0 then (if cut then Unended else Sound) else Faulty) ≡ Sound
        → map item_unread kept ++ (more_found part n (length kept) ++ cut_found part cut) ≡ []
    by_count kept zero false none sound = ap (λ (ks : List ItemFault). map item_unread ks ++ (more_found part 0 (length ks) ++ [])) (none refl)
    by_count kept zero true none sound = absurd (unended_not_sound sound)
    by_count kept (suc n) cut none sound = absurd (faulty_not_sound (rw (eqb-suc-zero n) at sound))

none_in_records : {A : Type 0} (part : AuditedPart) (limit more : ℕ) (items : List (Option FaultAt)) (r : Records A) → ReportsRecords limit items more r
    → verdict_of_records r ≡ Sound → records_found part r ≡ []
none_in_records part limit more items r is sound = by_past r.past sound
  where
    by_past : (n : ℕ) → (if n == 0 then verdict_of r.in_bounds else Faulty) ≡ Sound → part_found part r.in_bounds ++ past_found part n ≡ []
    by_past zero sound = empty_both _ _ (none_in_part part _ r.in_bounds is.in_bounds.faults sound) refl
    by_past (suc n) sound = absurd (faulty_not_sound (rw (eqb-suc-zero n) at sound))

none_in_read : {A : Type 0} (limit more : ℕ) (items : List (Option FaultAt)) (clean : Bool) (sections : Records A) (relocations : Option (Records A))
    → ReportsRelocations limit items more clean relocations → verdict_of_read sections relocations ≡ Sound
    → (verdict_of_records sections ≡ Sound) × (relocations_found relocations ≡ [])
none_in_read limit more items clean sections None is sound = (sound, refl)
none_in_read limit more items clean sections (Some r) is sound =
    let both = both_sound_of (verdict_of_records sections) (verdict_of_records r) sound in
    (both.0, none_in_records parts.Relocations limit more items r is.1 both.1)

none_laid_wrongly : (faults : List LayoutFault) → verdict_of_layout faults ≡ Sound → map laid_wrongly faults ≡ []
none_laid_wrongly [] sound = refl
none_laid_wrongly (f ∷ fs) sound = absurd (faulty_not_sound sound)

none_signed_wrongly : {A : Type 0} (there : Result (Option (List SignatureFaultView)) Fault) (s : SignatureReport A) → ReportsSignature there s
    → verdict_of_signature s ≡ Sound → signature_found s ≡ []
none_signed_wrongly there signatures.Unsigned is sound = refl
none_signed_wrongly there (signatures.Unreadable e) is sound = absurd (faulty_not_sound sound)
none_signed_wrongly there (signatures.Signed p) is sound = by_count p.reported.items p.faults kept sound
  where
    kept : p.faults ≡ 0 → p.reported.items ≡ []
    kept none =
        let reported = is.2 in
        let empty = nil_from_length is.0 (omega (arith, reported.count, none)) in
        map_empty signature_fault_view p.reported.items (reported.reported ∙ ap (take 10) empty)

    by_count : (faults : List SignatureFault) (n : ℕ) → (n ≡ 0 → faults ≡ []) → (if n == 0 then Sound else Faulty) ≡ Sound
        → map not_as_signed faults ++ more_found parts.Signature n (length faults) ≡ []
    by_count faults zero none sound = ap (λ (fs : List SignatureFault). map not_as_signed fs ++ more_found parts.Signature 0 (length fs)) (none refl)
    by_count faults (suc n) none sound = absurd (faulty_not_sound (rw (eqb-suc-zero n) at sound))

none_in_parts : {A : Type 0} (limit : ℕ) (bytes : List ℕ) (p : Parts A) → ReportsImage limit bytes p → verdict_of_parts p ≡ Sound → parts_found p ≡ []
none_in_parts limit bytes p is sound =
    let top = both_sound_of _ _ sound in
    let laid = both_sound_of (verdict_of_layout p.layout.items) (verdict_of_signature p.signature) top.0 in
    let read = both_sound_of (verdict_of_read p.sections p.relocations) _ top.1 in
    let symbols = both_sound_of (verdict_of_records p.symbols) _ read.1 in
    let exports = both_sound_of (verdict_of p.exports) _ symbols.1 in
    let imports = both_sound_of (verdict_of p.imports) _ exports.1 in
    let bound = both_sound_of (verdict_of p.fixups) (verdict_of p.bindings) imports.1 in
    let relocated = none_in_read limit _ _ (are_clean p.sections) p.sections p.relocations is.relocations.holds read.0 in
    empty_both _ _ (none_in_records parts.Sections limit _ _ p.sections is.sections.2 relocated.0)
    (empty_both _ _ relocated.1
    (empty_both _ _ (none_in_records parts.Symbols limit _ _ p.symbols is.symbols.2 symbols.0)
    (empty_both _ _ (none_in_part parts.Exports _ p.exports is.exports.holds.reports.faults exports.0)
    (empty_both _ _ (none_in_part parts.Imports _ p.imports is.imports.2.faults imports.0)
    (empty_both _ _ (none_in_part parts.Fixups _ p.fixups is.fixups.2.faults bound.0)
    (empty_both _ _ (none_in_part parts.Bindings _ p.bindings is.bindings.2.faults bound.1)
    (empty_both _ _ (none_signed_wrongly is.signature.0 p.signature is.signature.2 laid.1) (none_laid_wrongly p.layout.items laid.0))))))))

none_in_image : {A : Type 0} (Fails : Fault → Type 0) (limit : ℕ) (bytes : List ℕ) (r : ImageReport A) → IsImageReport Fails limit bytes r
    → verdict_of_image r ≡ Sound → image_found r ≡ []
none_in_image Fails limit bytes (images.Opens p) is sound = none_in_parts (min limit (length bytes)) bytes p is.1 sound
none_in_image Fails limit bytes (images.OpensLossily e p) is sound = absurd (faulty_not_sound sound)
none_in_image Fails limit bytes (images.Refused e) is sound = absurd (faulty_not_sound sound)

none_there : (at : FindingPlace) (found : List FoundView) → found ≡ [] → found_there at found ≡ []
none_there at found none = ap (found_there at) none

none_in_cut : (at : FindingPlace) (part : AuditedPart) (cut : Bool) → verdict_of_cut cut ≡ Sound → found_there at (cut_found part cut) ≡ []
none_in_cut at part false sound = refl
none_in_cut at part true sound = absurd (unended_not_sound sound)

none_in_member : {A : Type 0} (limit : ℕ) (at : FindingPlace) (n : ℕ) (m : Result MemberView Fault) (r : MemberReport A) → IsMemberReport limit m r
    → verdict_of_member r ≡ Sound → member_findings at n r ≡ []
none_in_member limit at n (Ok m) (member_reports.Image member r) is sound =
    none_there (in_member at n) (image_found r) (none_in_image (ImageFault m.bytes 0) limit m.bytes r is.1 sound)
none_in_member limit at n (Ok m) (member_reports.Refused e) is sound = absurd is
none_in_member limit at n (Err f) (member_reports.Image member r) is sound = absurd is
none_in_member limit at n (Err f) (member_reports.Refused e) is sound = absurd (faulty_not_sound sound)

none_in_each : {T X : Type 0} (Reports : T → X → Type 0) (findings : ℕ → X → List FindingView) (verdict : X → Soundness)
    → ((n : ℕ) (t : T) (x : X) → Reports t x → verdict x ≡ Sound → findings n x ≡ []) → (n : ℕ) (ts : List T) (xs : List X) → AllZip Reports ts xs
    → verdict_of_all verdict xs ≡ Sound → findings_each findings n xs ≡ []
none_in_each Reports findings verdict one n ts [] are sound = refl
none_in_each Reports findings verdict one n [] (x ∷ xs) are sound = absurd are
none_in_each Reports findings verdict one n (t ∷ ts) (x ∷ xs) are sound =
    let both = both_sound_of (verdict x) (verdict_of_all verdict xs) sound in
    empty_both _ _ (one n t x are.0 both.0) (none_in_each Reports findings verdict one (n + 1) ts xs are.1 both.1)

none_in_members : {A : Type 0} (limit : ℕ) (at : FindingPlace) (ms : List (Result MemberView Fault)) (r : ArchiveReport A)
    → AllZip (IsMemberReport limit) ms r.members.items → verdict_of_archive r ≡ Sound → archive_findings at r ≡ []
none_in_members limit at ms r are sound =
    let both = both_sound_of (verdict_of_cut r.cut) (verdict_of_all verdict_of_member r.members.items) sound in
    empty_both _ _ (none_in_each (IsMemberReport limit) (member_findings at) verdict_of_member (none_in_member limit at) 0 ms r.members.items are both.1)
    (none_in_cut at parts.Members r.cut both.0)

none_in_archive : {A : Type 0} (limit : ℕ) (at : FindingPlace) (a : Result ArchiveView Fault) (r : ArchiveReport A) → IsArchiveReport limit a r
    → verdict_of_archive r ≡ Sound → archive_findings at r ≡ []
none_in_archive limit at (Ok a) r is sound = none_in_members limit at _ r is.reports sound
none_in_archive limit at (Err f) r is sound = none_in_members limit at (Err f ∷ []) r is.0 sound

none_in_entry : {A : Type 0} (limit n : ℕ) (e : Result FatEntry Fault) (r : EntryReport A) → IsEntryReport limit e r → verdict_of_entry r ≡ Sound
    → entry_findings n r ≡ []
none_in_entry limit n (Ok (archive bytes)) (entries.Archive r) is sound = none_in_archive limit (in_entry n) (archive_in bytes) r is sound
none_in_entry limit n (Ok (archive bytes)) (entries.Image r) is sound = absurd is
none_in_entry limit n (Ok (image bytes)) (entries.Archive r) is sound = absurd is
none_in_entry limit n (Ok (image bytes)) (entries.Image r) is sound =
    none_there (in_entry n) (image_found r) (none_in_image (ImageFault bytes 0) limit bytes r is sound)
none_in_entry limit n (Err f) (entries.Archive r) is sound = absurd is
none_in_entry limit n (Err f) (entries.Image r) is sound = refused r is sound
  where
    refused : {A : Type 0} (r : ImageReport A) → IsRefusedFor f r → verdict_of_image r ≡ Sound → found_there (in_entry n) (image_found r) ≡ []
    refused (images.Opens p) is sound = absurd is
    refused (images.OpensLossily e p) is sound = absurd is
    refused (images.Refused e) is sound = absurd (faulty_not_sound sound)

none_in_fat : {R A : Type 0} (form : ArchForm R) (limit : ℕ) (bytes : List ℕ) (file : FatFile) (r : FatReport A) → IsFatReport form limit bytes file r
    → verdict_of_fat r ≡ Sound → fat_findings r ≡ []
none_in_fat form limit bytes file r is sound =
    let both = both_sound_of (verdict_of_layout r.container.items) (verdict_of_table r) sound in
    by_table r.table r.count is.table both.1 (none_laid_wrongly r.container.items both.0)
  where
    rest : Soundness
    rest = verdict_of_both (verdict_of_cut r.cut) (verdict_of_all verdict_of_entry r.entries.items)

    by_table : (table : Option Error) (count : ℕ) → ReportsTable form limit bytes file r table
        → (if is_some table || (count == 0) then Faulty else rest) ≡ Sound → map laid_wrongly r.container.items ≡ []
        → found_there whole_file (unread_found table ++ (map laid_wrongly r.container.items ++ none_found count))
        ++ (findings_each entry_findings 0 r.entries.items ++ found_there whole_file (cut_found parts.Entries r.cut)) ≡ []
    by_table (Some e) count is sound laid = absurd (faulty_not_sound sound)
    by_table None zero is sound laid = absurd (faulty_not_sound sound)
    by_table None (suc n) is sound laid =
        let both = both_sound_of (verdict_of_cut r.cut) (verdict_of_all verdict_of_entry r.entries.items) (rw (eqb-suc-zero n) at sound) in
        let some : none_found (suc n) ≡ [] = rw (eqb-suc-zero n) refl in
        empty_both _ _ (none_there whole_file _ (empty_both _ _ laid some))
        (empty_both _ _ (none_in_each (IsEntryReport limit) entry_findings verdict_of_entry (none_in_entry limit) 0 _ r.entries.items is.entries both.1)
        (none_in_cut whole_file parts.Entries r.cut both.0))

none_in_file : {A : Type 0} (limit : ℕ) (bytes : List ℕ) (r : Report A) → IsFileReport limit bytes r → verdict_of_report r ≡ Sound → mach_findings r ≡ []
none_in_file limit bytes (reports.Image r) is sound = none_there whole_file (image_found r) (none_in_image (MachFault ImageFault bytes) limit bytes r is sound)
none_in_file limit bytes (reports.Fat r) is sound = none_in_fat arch_form_32 limit bytes is.0 r is.3 sound

none_by_kind : {A : Type 0} (is_archive : Bool) (wide : Option FatFile) (limit : ℕ) (bytes : List ℕ) (r : InputReport A)
    → IsReportByKind is_archive wide limit bytes r → verdict_of_input r ≡ Sound → findings_of r ≡ []
none_by_kind true wide limit bytes (inputs.Archive r) is sound = none_in_archive limit whole_file (archive_in bytes) r is sound
none_by_kind true wide limit bytes (inputs.Fat64 r) is sound = absurd is
none_by_kind true wide limit bytes (inputs.Mach r) is sound = absurd is
none_by_kind false (Some file) limit bytes (inputs.Fat64 r) is sound = none_in_fat arch_form_64 limit bytes file r is sound
none_by_kind false (Some file) limit bytes (inputs.Archive r) is sound = absurd is
none_by_kind false (Some file) limit bytes (inputs.Mach r) is sound = absurd is
none_by_kind false None limit bytes (inputs.Mach r) is sound = none_in_file limit bytes r is sound
none_by_kind false None limit bytes (inputs.Archive r) is sound = absurd is
none_by_kind false None limit bytes (inputs.Fat64 r) is sound = absurd is

pub nothing_found_if_sound : {A : Type 0} (r : InputReport A) (limit : ℕ) (bytes : List ℕ) → IsInputReport limit bytes r → verdict_of_input r ≡ Sound
    → findings_of r ≡ []
nothing_found_if_sound r limit bytes is sound = none_by_kind _ _ limit bytes r is sound
