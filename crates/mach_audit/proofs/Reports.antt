-- The report of a file, from the reports of its lists.
use Rattle.std.proofs.Common.{◌≡◌, ◌+◌, ◌++◌, ◌∷◌, ◌∙◌, [], ℕ, zero, suc, List, length, min, Some, Result, Ok, Err, refl, sym, ap, subst, arith, inr}
use Rattle.std.specs.List.{AllZip}
use Rattle.std.specs.Prelude.{option_map}
use Rattle.std.proofs.lemmas.Slice.Zip.{all_zipped_more}
use Rattle.std.specs.Borrow.{Bor}
use Rattle.mach_archive.specs.Archives.{archive_in}
use Rattle.mach_base.proofs.Faults.{ErrorMeets-in}
use Rattle.mach_base.specs.Answer.{ErrorMeets}
use Rattle.mach_base.specs.Fault.{Fault, fault_of}
use Rattle.mach_base.specs.Items.{items_from}
use Rattle.mach_base.specs.Text.{texts}
use Rattle.mach_base.specs.declared.error.Error.{Error}
use Rattle.mach_dyld.specs.Imports.{Import}
use Rattle.mach_chained.specs.Fixups.{Fixup}
use Rattle.mach_parts.specs.Bindings.{Binding}
use Rattle.goblin_mach.specs.LayoutFacts.{HasLayoutFaults}
use Rattle.mach_parts.specs.SymbolViews.{table_of}
use Rattle.goblin_mach.proofs.ImageFacts.{facts_are, segments_are, symbol_table_is}
use Rattle.goblin_mach.specs.Facts.{HasImportItems, HasFixups, HasBindings}
use Rattle.goblin_mach.specs.Image.{ImageFault, LossyOpens}
use Rattle.goblin_mach.specs.OpenImage.{IsImage, IsLossyImage, commands_view, segments_view, trie_view, ctx_view, bytes_view}
use Rattle.goblin_mach.specs.Subjects.{trie_or_empty}
use Rattle.mach_signature.proofs.SignedFacts.{faults_are}
use Rattle.mach_signature.specs.SignedImages.{image_faults}
use Rattle.goblin_mach.specs.declared.macho.MachO.{MachO}
use Rattle.goblin_mach.specs.FatEntry.{FatEntry, FatEntryFault, IsEntry, archive, image, fat_entry_of, no_entry, no_image}
use Rattle.goblin_mach.specs.declared.fat_file.entry.SingleArch.TheVariants as arches
use Rattle.goblin_mach.proofs.Files.{fat-excludes_image}
use Rattle.goblin_mach.specs.File.{HasFatMagic, MachOpens}
use Rattle.goblin_mach.specs.View.{IsReported}
use Rattle.mach_audit.proofs.EntryBytes.{image_entry, same_bytes}
use Rattle.mach_audit.proofs.Goes.{error_meets}
use Rattle.mach_audit.specs.Report.{ReportsImage, ReportsLossily, IsArchiveReport, IsImageReport, IsEntryReport, IsRefusedFor, reason_of}
use Rattle.mach_audit.specs.Signed.{ReportsSignature}
use Rattle.mach_audit.specs.Reported.{ReportsOf, ReportsOfTrie, ReportsRecords, ReportsRelocations, faults_from, section_faults_reported, sections_beyond}
use Rattle.mach_audit.specs.Reported.{relocation_faults, relocations_past, symbols_unread, symbols_beyond}
use Rattle.mach_audit.specs.Verdicts.{are_clean, verdict_of_image}
use Rattle.mach_audit.specs.declared.report.ArchiveReport.{ArchiveReport}
use Rattle.mach_audit.specs.declared.report.EntryReport.TheVariants as entries
use Rattle.mach_audit.specs.declared.report.ImageReport.TheVariants as images
use Rattle.mach_audit.specs.declared.report.ImageReport.{ImageReport}
use Rattle.mach_audit.specs.declared.report.Parts.{Parts}
use Rattle.mach_audit.specs.declared.report.ItemList.TheVariants as lists
use Rattle.mach_audit.specs.declared.verdict.Soundness.TheVariants.{Faulty}

-- the parts of an image
pub image_reported : {A B : Type 0} (limit : ℕ) (bytes : List ℕ) (m : MachO A) → IsLossyImage bytes 0 m → (q : Parts B)
    → ReportsRecords limit (section_faults_reported (segments_view m)) (sections_beyond (segments_view m)) q.sections
    → ReportsRelocations limit (relocation_faults (ctx_view m) (bytes_view m) (segments_view m)) (relocations_past (ctx_view m) (bytes_view m)
    (segments_view m))
    (are_clean q.sections) q.relocations
    → ReportsRecords limit (symbols_unread (option_map table_of m.symbols)) (symbols_beyond (option_map table_of m.symbols)) q.symbols
    → ReportsOfTrie limit (trie_or_empty (trie_view m)) (texts m.libs.items) q.exports
    → (items : List (Result Import Fault)) × HasImportItems bytes 0 items × ReportsOf limit (faults_from lists.Imports 0 items) q.imports
    → (items : List (Result Fixup Fault)) × HasFixups bytes 0 items × ReportsOf limit (faults_from lists.Fixups 0 items) q.fixups
    → (items : List (Result Binding Fault)) × HasBindings bytes 0 items × ReportsOf limit (faults_from lists.Bindings 0 items) q.bindings
    → ReportsSignature (image_faults (bytes_view m) (commands_view m) (segments_view m)) q.signature
    → HasLayoutFaults bytes q.layout.items → ReportsImage limit bytes q
image_reported limit bytes m p q sections relocations symbols exports imports fixups bindings signature layout = record {
  sections = (segments_view m, ((segments_are m).lossy bytes 0 p (segments_view m)).1 refl, sections);
  relocations =
      (facts_are bytes 0 m p (λ f. ReportsRelocations limit (relocation_faults f.ctx f.bytes f.segments) (relocations_past f.ctx f.bytes f.segments)
      (are_clean q.sections) q.relocations)).1 relocations;
  symbols = (option_map table_of m.symbols, ((symbol_table_is m).lossy bytes 0 p (option_map table_of m.symbols)).1 refl, symbols);
  exports = (facts_are bytes 0 m p (λ f. ReportsOfTrie limit (trie_or_empty f.trie) f.libs q.exports)).1 exports;
  imports = imports;
  fixups = fixups;
  bindings = bindings;
  signature =
      let there = image_faults (bytes_view m) (commands_view m) (segments_view m) in
      (there, ((faults_are m).lossy bytes 0 p there).1 refl, signature);
  layout = layout;
}

-- what doesn't open strictly is faulty
pub refused_faulty : {A : Type 0} (e : Error) (r : ImageReport A) → reason_of r ≡ Some e → verdict_of_image r ≡ Faulty
refused_faulty e (images.Opens parts) is = cc
refused_faulty e (images.OpensLossily x parts) is = refl
refused_faulty e (images.Refused x) is = refl

same_some : {X : Type 0} {x y : X} → Some x ≡ Some y → x ≡ y
same_some is = cc

-- what opens neither as a fat file nor as an image doesn't open as an image
pub not_lossy : (bytes : List ℕ) → (MachOpens LossyOpens bytes → HasFatMagic bytes) → ¬ (LossyOpens bytes 0)
not_lossy bytes only opens =
    let room = opens.2.header.room in
    fat-excludes_image bytes (only (record { magic = omega (arith, room); file = inr opens })) opens

-- the report in lossy mode of bytes that don't open strictly
pub refused_reported : {A : Type 0} (Fails : Fault → Type 0) (limit : ℕ) (bytes : List ℕ) (e : Error) (r : ImageReport A) → reason_of r ≡ Some e
    → IsReported e → ErrorMeets Fails e → ReportsLossily limit bytes r → IsImageReport Fails limit bytes r
refused_reported Fails limit bytes e (images.Opens parts) is reported occurs reports = absurd reports
refused_reported Fails limit bytes e (images.OpensLossily x parts) is reported occurs reports =
    let same = same_some is in rw same (reported, occurs, reports)
refused_reported Fails limit bytes e (images.Refused x) is reported occurs reports =
    let same = same_some is in rw same (reported, occurs, not_lossy bytes reports)

-- lossy mode opens the bytes whose parts it reports
reported_opens : {A : Type 0} (limit : ℕ) (bytes : List ℕ) (parts : Parts A) → ReportsImage limit bytes parts → LossyOpens bytes 0
reported_opens limit bytes parts reports = let has = reports.sections.1 in (has.ctx, has.cs, has.opens)

-- ---- entries

no_entry_fault : (f g : Fault) → FatEntryFault (Err f) g → g ≡ f
no_entry_fault f _ (no_entry _) = refl

image_fault : (slice : List ℕ) (f : Fault) → FatEntryFault (Ok (image slice)) f → ImageFault slice 0 f
image_fault slice _ (no_image _ f fault) = fault

archive_fault : (slice : List ℕ) (f : Fault) → FatEntryFault (Ok (archive slice)) f → ⊥
archive_fault slice f fault = elim fault [ ]

refused_for : {A : Type 0} (limit : ℕ) (bytes : List ℕ) (f : Fault) (e : Error) (r : ImageReport A) → fat_entry_of bytes ≡ Err f → reason_of r ≡ Some e
    → IsReported e → fault_of e ≡ f → ReportsLossily limit bytes r → IsRefusedFor f r
refused_for limit bytes f e (images.Opens parts) none is reported fault reports = absurd reports
refused_for limit bytes f e (images.OpensLossily x parts) none is reported fault reports =
    let wrong : Ok (image bytes) ≡ Err f = sym (image_entry bytes (reported_opens (min limit (length bytes)) bytes parts reports)) ∙ none in
    absurd (cc)
refused_for limit bytes f e (images.Refused x) none is reported fault reports = let same = same_some is in rw same (reported, fault)

-- an entry that doesn't open strictly, and the report of its bytes in lossy mode
pub entry_refused : {A : Type 0} (limit : ℕ) (bytes : List ℕ) (entry : Result FatEntry Fault) (e : Error) (r : ImageReport A) → fat_entry_of bytes ≡ entry
    → reason_of r ≡ Some e → IsReported e → ErrorMeets (FatEntryFault entry) e → ReportsLossily limit bytes r → IsEntryReport limit entry (entries.Image r)
entry_refused limit bytes (Ok (archive slice)) e r here is reported occurs reports =
    absurd (archive_fault slice (fault_of e) (error_meets (FatEntryFault (Ok (archive slice))) e reported occurs))
entry_refused limit bytes (Ok (image slice)) e r here is reported occurs reports =
    let same = same_bytes bytes slice here in
    let fault = ErrorMeets-in (FatEntryFault (Ok (image slice))) (ImageFault slice 0) e (λ f one. image_fault slice f one) occurs in
    refused_reported (ImageFault slice 0) limit slice e r is reported fault (subst (λ (x : List ℕ). ReportsLossily limit x r) same reports)
entry_refused limit bytes (Err f) e r here is reported occurs reports =
    refused_for limit bytes f e r here is reported (no_entry_fault f (fault_of e) (error_meets (FatEntryFault (Err f)) e reported occurs)) reports

-- an entry that opens
pub entry_reported : {A B : Type 0} (limit : ℕ) (entry : Result FatEntry Fault) (e : FatEntry) (m : MachO A) (parts : Parts B) → entry ≡ Ok e
    → IsEntry e (arches.MachO m) → ((bytes : List ℕ) → IsImage bytes 0 m → ReportsImage (min limit (length bytes)) bytes parts)
    → IsEntryReport limit entry (entries.Image (images.Opens parts))
entry_reported limit entry (archive slice) m parts is opened reported = absurd opened
entry_reported limit entry (image slice) m parts is opened reported = rw is ((opened.ctx, commands_view m, opened.opens), reported slice opened)

pub archive_reported : (A : Type 0) {B : Type 0} (limit : ℕ) (entry : Result FatEntry Fault) (e : FatEntry) (bytes : Bor (List ℕ)) (r : ArchiveReport B)
    → entry ≡ Ok e → IsEntry {A = A} e (arches.Archive bytes) → IsArchiveReport limit (archive_in bytes.now) r
    → IsEntryReport limit entry (entries.Archive r)
archive_reported A limit entry (archive slice) bytes r is same reported =
    rw is (subst (λ (xs : List ℕ). IsArchiveReport limit (archive_in xs) r) same reported)
archive_reported A limit entry (image slice) bytes r is same reported = absurd same

-- one more entry
items_from-last : {A : Type 0} (item : ℕ → A) (first count : ℕ) → items_from item first (count + 1) ≡ items_from item first count ++ item (first + count) ∷ []
items_from-last item first zero =
    let same : first ≡ first + 0 = omega arith in
    ap (λ (n : ℕ). item n ∷ []) same
items_from-last item first (suc count) =
    let later : suc count + 1 ≡ suc (count + 1) = omega arith in
    let same : first + 1 + count ≡ first + suc count = omega arith in
    ap (λ (n : ℕ). items_from item first n) later
    ∙ ap (λ rest. item first ∷ rest) (items_from-last item (first + 1) count)
    ∙ ap (λ (n : ℕ). item first ∷ (items_from item (first + 1) count ++ item n ∷ [])) same

pub one_entry_more : {X Y : Type 0} (R : X → Y → Type 0) (item : ℕ → X) (n : ℕ) (ys : List Y) (y : Y) → AllZip R (items_from item 0 n) ys → R (item n) y
    → AllZip R (items_from item 0 (n + 1)) (ys ++ y ∷ [])
one_entry_more R item n ys y before here =
    let last : 0 + n ≡ n = omega arith in
    let all = items_from-last item 0 n ∙ ap (λ (k : ℕ). items_from item 0 n ++ item k ∷ []) last in
    subst (λ xs. AllZip R xs (ys ++ y ∷ [])) (sym all) (all_zipped_more R (items_from item 0 n) ys (item n) y before here)
