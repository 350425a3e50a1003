-- The reports of an image's parts, and whether it is sound.
use Rattle.std.proofs.Common.{◌≡◌, ◌<◌, ◌≤◌, ◌-◌, ◌^◌, ◌++◌, ◌∙◌, ℕ, zero, suc, Bool, true, false, List, [], ◌∷◌, map, min, length, Option, Some, None}
use Rattle.std.proofs.Common.{Result, Ok, Err}
use Rattle.std.proofs.Common.{refl, sym, ap, subst, arith, inl, inr}
use Rattle.std.specs.Prelude.{◌⊎◌, ◌↔◌, ◌==◌, ◌&&◌, not, IsTrue, is_ok, if◌then◌else◌, option_map}
use Rattle.std.proofs.Math.Dec.{eqb-suc-zero}
use Rattle.std.proofs.lemmas.Bool.{false≢true, true≢false, ltb-false}
use Rattle.std.proofs.lemmas.List.{length-append, length-map}
use Rattle.std.specs.List.{list_all, flat_map, sum_by}
use Rattle.mach_base.specs.Context.{pointer_size}
use Rattle.mach_base.specs.Fault.{Fault}
use Rattle.mach_base.specs.Items.{items_in_bounds}
use Rattle.mach_dyld.proofs.BindLists.{list_from_items, items_from_list}
use Rattle.mach_base.specs.Text.{texts}
use Rattle.mach_dyld.specs.Imports.{Import, BindRanges, input_in}
use Rattle.mach_dyld.specs.Trie as trie
use Rattle.mach_dyld.proofs.TrieBegins.{prefix_of, whole_list}
use Rattle.mach_dyld.proofs.Unfoldings.{met_begins}
use Rattle.mach_dyld.specs.TrieRange.{TrieRange, trie_there, ListsExports, ExportsFault}
use Rattle.mach_chained.specs.Fixups.{Fixup}
use Rattle.mach_parts.specs.Bindings.{Binding}
use Rattle.mach_parts.specs.Segment.{SegmentView, sections_of}
use Rattle.mach_parts.specs.Symbols.{table_in_bounds}
use Rattle.mach_parts.specs.SymbolViews.{table_of}
use Rattle.mach_parts.specs.declared.relocation.RelocationInfo.{RelocationInfo}
use Rattle.mach_parts.specs.declared.segment.section.Section.{Section}
use Rattle.mach_parts.specs.declared.symbols.nlist.Nlist.{Nlist}
use Rattle.goblin_mach.proofs.ImageFacts.{facts_are, strict-lossy, segments_are, symbols_are, imports_are, exports_are}
use Rattle.goblin_mach.proofs.Walked.{walked_list, walked_fault}
use Rattle.goblin_mach.specs.Facts.{HasSegments, HasSymbols, HasExports, HasImports, HasImportItems, HasFixups, HasBindings}
use Rattle.goblin_mach.specs.OpenImage.{IsImage, commands_view, segments_view, trie_view, binds_view, ctx_view, bytes_view}
use Rattle.goblin_mach.specs.Subjects.{ListsImageImports, ListsImageExports, AreImageBindItems, symbols_view, symbols_in, trie_or_empty}
use Rattle.goblin_mach.specs.declared.macho.MachO.{MachO}
use Rattle.mach_audit.proofs.Begins.{Begins, each_begins, items_begin, symbols_begin}
use Rattle.mach_audit.proofs.Goes.{as_item}
use Rattle.mach_audit.proofs.SoundlySigned.{signature_judged_by}
use Rattle.mach_audit.proofs.Reported.{plain, plain_from, plain_each, cut_is, reported_sound, reported_faulty, reported_long, reported_short}
use Rattle.mach_audit.proofs.Judgements.{after_first, number, sound_judged, faulty_judged, part_judged, both_judged, judged_as}
use Rattle.mach_audit.specs.Sound.{IsSoundImage, HasLongList, of_sections, of_relocations, of_symbols, of_exports, of_imports}
use Rattle.mach_audit.specs.Sound.{HasAllRelocations, HasExportItems, AreExportItems, all_exports, up_to_fault, past_limit}
use Rattle.mach_audit.specs.Sound.{are_all_ok, all_sections, all_relocations, relocations_by, of_fixups, of_bindings, IsSoundlySigned, HasSoundSignature}
use Rattle.mach_audit.specs.Signed.{ReportsSignature}
use Rattle.mach_audit.specs.Reported.{FaultAt, ReportsOf, ReportsOfTrie, ReportsRecords, faults_of_items}
use Rattle.mach_audit.specs.Reported.{ReportsRelocations, faults_from, more_than, section_faults_reported, sections_beyond}
use Rattle.mach_audit.specs.Reported.{relocations_in_bounds, relocation_faults, relocation_faults_by}
use Rattle.mach_audit.specs.Reported.{relocations_past, relocations_past_of, symbols_unread, symbols_beyond}
use Rattle.mach_audit.specs.Verdicts.{Judges, verdict_of, verdict_of_read, verdict_of_parts, verdict_of_layout, verdict_of_signature}
use Rattle.mach_audit.specs.Verdicts.{are_clean, verdict_of_records}
use Rattle.goblin_mach.specs.LayoutFacts.{HasLayoutFaults}
use Rattle.mach_signature.specs.SignedImages.{image_faults}
use Rattle.mach_layout.specs.declared.fault.LayoutFault.{LayoutFault}
use Rattle.mach_audit.specs.declared.report.PartReport.{PartReport}
use Rattle.mach_audit.specs.declared.report.Parts.{Parts}
use Rattle.mach_audit.specs.declared.report.Records.{Records}
use Rattle.mach_audit.specs.declared.report.SignatureReport.{SignatureReport}
use Rattle.mach_audit.specs.declared.report.ItemList.TheVariants as lists
use Rattle.mach_audit.specs.declared.verdict.Soundness.TheVariants.{Sound, Unended, Faulty}
use Rattle.mach_audit.specs.declared.verdict.Soundness.{Soundness}

-- more than `limit` items are in a list of this kind
abbrev pub LongOf : {X : Type 0} → ℕ → (List (Result X Fault) → Type 0) → Type 0
LongOf limit Has = (items : List (Result _ Fault)) × Has items × (limit < length items)

-- a verdict on a list
pub judged_list : {A X : Type 0} (limit : ℕ) (items : List (Result X Fault)) (faults : List (Option FaultAt)) (q : PartReport A)
    → map plain faults ≡ faults_of_items items → ReportsOf limit faults q → Judges (IsTrue (are_all_ok items)) (limit < length items) (verdict_of q)
judged_list limit items faults q same reports =
    part_judged q (reported_sound limit items faults same q reports) (reported_faulty limit items faults same q reports)
    (reported_long limit items faults same q reports)
    (λ none whole. reported_short limit items faults same q reports whole)

-- a verdict on records, some of which begin within the bytes
pub judged_records : {A X : Type 0} (limit : ℕ) (all in_bounds : List (Result X Fault)) (past : ℕ) (faults : List (Option FaultAt)) (r : Records A)
    → Begins all in_bounds past → map plain faults ≡ faults_of_items in_bounds → ReportsRecords limit faults past r
    → Judges (IsTrue (are_all_ok all)) (limit < length all) (verdict_of_records r)
judged_records limit all in_bounds past faults r begins same reports = by_count r.past reports.past
  where
    by_count : (n : ℕ) → n ≡ min past (2 ^ 64 - 1)
        → Judges (IsTrue (are_all_ok all)) (limit < length all) (if n == 0 then verdict_of r.in_bounds else Faulty)
    by_count zero is = judged_list limit all faults r.in_bounds (same ∙ ap faults_of_items (begins.whole (omega (arith, is)))) reports.in_bounds
    by_count (suc n) is = rw (eqb-suc-zero n) (faulty_judged (λ ok. begins.broken (omega (arith, is)) ok))

-- a verdict on the one list of a kind that some bytes have
pub judged_only : {X : Type 0} (limit : ℕ) (Has : List (Result X Fault) → Type 0) (items : List (Result X Fault)) (v : Soundness)
    → Has items → ((others : List (Result X Fault)) → Has others → others ≡ items) → Judges (IsTrue (are_all_ok items)) (limit < length items) v
    → Judges ((found : List (Result X Fault)) × Has found × IsTrue (are_all_ok found)) (LongOf limit Has) v
judged_only limit Has items v has one judged =
    judged_as v (λ ok. (items, has, ok)) (λ s. subst (λ (xs : List (Result _ Fault)). IsTrue (are_all_ok xs)) (one s.0 s.1) s.2)
    (λ long. (items, has, long)) (λ l. subst (λ (xs : List (Result _ Fault)). limit < length xs) (one l.0 l.1) l.2) judged

pub judged_one : {A X : Type 0} (limit : ℕ) (Has : List (Result X Fault)
    → Type 0) (items : List (Result X Fault)) (faults : List (Option FaultAt)) (q : PartReport A)
    → Has items → ((others : List (Result X Fault)) → Has others → others ≡ items) → map plain faults ≡ faults_of_items items → ReportsOf limit faults q
    → Judges ((found : List (Result X Fault)) × Has found × IsTrue (are_all_ok found)) (LongOf limit Has) (verdict_of q)
judged_one limit Has items faults q has one same reports = judged_only limit Has items (verdict_of q) has one (judged_list limit items faults q same reports)

-- imports that can all be read, and their list
all_oks : {X : Type 0} (items : List (Result X Fault)) → list_all is_ok items ≡ true → (list : List X) × (items ≡ map Ok list)
all_oks [] all = ([], refl)
all_oks (Ok x ∷ items) all = let rest = all_oks items all in (x ∷ rest.0, ap (λ xs. Ok x ∷ xs) rest.1)
all_oks (Err f ∷ items) all = absurd (false≢true all)

oks_all : {X : Type 0} (list : List X) → list_all (is_ok {T = X} {E = Fault}) (map Ok list) ≡ true
oks_all [] = refl
oks_all (x ∷ list) = oks_all list

list_of_items : (b : Option BindRanges) (pointer : ℕ) (libs : List (List ℕ)) (segments : List SegmentView) (items : List (Result Import Fault))
    (list : List Import)
    → AreImageBindItems b pointer libs segments items → items ≡ map Ok list → ListsImageImports b pointer libs segments list
list_of_items None pointer libs segments items [] are same = refl
list_of_items None pointer libs segments items (x ∷ list) are same = absurd (cons_nil (sym same ∙ are))
  where
    cons_nil : {X : Type 0} {x : X} {xs : List X} → x ∷ xs ≡ [] → ⊥
    cons_nil e = omega (arith, ap length e)
list_of_items (Some b) pointer libs segments items list are same =
    (are.0, are.1, list_from_items (input_in b pointer libs segments) b.non_lazy b.lazy are.0 are.1 items list are.2 same)

items_of_list : (b : Option BindRanges) (pointer : ℕ) (libs : List (List ℕ)) (segments : List SegmentView) (items : List (Result Import Fault))
    (list : List Import)
    → AreImageBindItems b pointer libs segments items → ListsImageImports b pointer libs segments list → items ≡ map Ok list
items_of_list None pointer libs segments items list are lists = are ∙ ap (map Ok) (sym lists)
items_of_list (Some b) pointer libs segments items list are lists =
    items_from_list (input_in b pointer libs segments) b.non_lazy b.lazy are.0 are.1 lists.0 lists.1 items list are.2 lists.2

found_list : (b : Option BindRanges) (pointer : ℕ) (libs : List (List ℕ)) (segments : List SegmentView) (items : List (Result Import Fault))
    → AreImageBindItems b pointer libs segments items → list_all is_ok items ≡ true
    → (list : List Import) × (items ≡ map Ok list) × ListsImageImports b pointer libs segments list
found_list b pointer libs segments items are ok =
    let list = all_oks items ok in
    (list.0, list.1, list_of_items b pointer libs segments items list.0 are list.1)

-- a faulty trie has no list
no_list : (t : Option TrieRange) (libs : List (List ℕ)) (f : Fault) (list : List trie.Entry)
    → ((t : TrieRange) (libs : List (List ℕ)) (f : Fault) (list : List trie.Entry) → ExportsFault t libs f → ListsExports t libs list → ⊥)
    → ExportsFault (trie_or_empty t) libs f → ListsImageExports t libs list → ⊥
no_list None libs f list law fault lists = walked_fault None libs f fault
no_list (Some t) libs f list law fault lists = law t libs f list fault lists

-- a verdict on something of which the first list is never long
pub beside : {S L : Type 0} {v : Soundness} → Judges S (⊥ ⊎ L) v → Judges S L v
beside {v = v} j = judged_as v (λ s. s) (λ s. s) (after_first (λ l. l)) (λ l. inr l) j

-- a verdict on faults of layout, of which there is one list
pub layout_judged : (Has : List LayoutFault → Type 0) (faults : List LayoutFault) → Has faults
    → ((list others : List LayoutFault) → Has list → Has others → list ≡ others) → Judges (Has []) ⊥ (verdict_of_layout faults)
layout_judged Has [] has one = sound_judged has (λ l. l)
layout_judged Has (f ∷ fs) has one = faulty_judged (λ none. let same = ap length (one (f ∷ fs) [] has none) in omega (arith, same))

-- the sections and the relocations together
pub read_judged : {A S T L M : Type 0} (limit : ℕ) (items : List (Option FaultAt)) (past : ℕ) (sections : Records A) (relocations : Option (Records A))
    → ReportsRelocations limit items past (are_clean sections) relocations → Judges S L (verdict_of_records sections)
    → ((q : Records A) → ReportsRecords limit items past q → Judges T M (verdict_of_records q))
    → Judges (S × T) (L ⊎ M) (verdict_of_read sections relocations)
read_judged limit items past sections None unclean first second = record {
  sound = λ e. absurd (unclean_judged sections unclean e);
  whole = λ e l. unclean_judged sections unclean e;
  faulty = λ e s. first.faulty e s.0;
  unended = λ e. inl (first.unended e);
}
  where
    by_number : (n : ℕ) (cut : Bool) → ((n == 0) && not cut) ≡ false → (if n == 0 then (if cut then Unended else Sound) else Faulty) ≡ Sound → ⊥
    by_number zero false e = absurd (true≢false e)
    by_number zero true e = λ same. omega (arith, ap number same)
    by_number (suc n) cut e = rw (eqb-suc-zero n) (λ same. omega (arith, ap number same))

    by_past : (past n : ℕ) (cut : Bool) → ((past == 0) && ((n == 0) && not cut)) ≡ false
        → (if past == 0 then (if n == 0 then (if cut then Unended else Sound) else Faulty) else Faulty) ≡ Sound → ⊥
    by_past zero n cut e = by_number n cut e
    by_past (suc past) n cut e = rw (eqb-suc-zero past) (λ same. omega (arith, ap number same))

    unclean_judged : {A : Type 0} (r : Records A) → are_clean r ≡ false → verdict_of_records r ≡ Sound → ⊥
    unclean_judged r e = by_past r.past r.in_bounds.faults r.in_bounds.cut e
read_judged limit items past sections (Some q) reports first second = both_judged _ _ first (second q reports.1)

-- ---- the exports of a trie

not_all_ok : {X : Type 0} (found : List X) (f : Fault) → list_all is_ok (map Ok found ++ Err f ∷ []) ≡ true → ⊥
not_all_ok [] f all = false≢true all
not_all_ok (x ∷ found) f all = not_all_ok found f all

abbrev pub FaultyHasNoList : Type 0
FaultyHasNoList = (t : TrieRange) (libs : List (List ℕ)) (f : Fault) (list : List trie.Entry) → ExportsFault t libs f → ListsExports t libs list → ⊥

within_front : {X : Type 0} (found list rest : List X) → list ≡ found ++ rest → length found ≤ length list
within_front found list rest is = omega (arith, ap length is, length-append found rest)

module _ (limit : ℕ) (t : TrieRange) (libs : List (List ℕ)) where
  -- if they have a list, no more are met
  items_within : (list : List trie.Entry) (others : List (Result trie.Entry Fault)) → FaultyHasNoList → ListsExports t libs list
      → AreExportItems limit t libs others → length others ≤ length list
  items_within list _ law lists (all_exports other is) =
      let front = prefix_of (trie_there t libs) t.from [] other list (whole_list (trie_there t libs) t.from [] other is.1) lists.1 in
      omega (arith, length-map other as_item, within_front other list front.0 front.1)
  items_within list _ law lists (up_to_fault found f ends fault) = absurd (law t libs f list fault lists)
  items_within list _ law lists (past_limit found walk long) =
      let front = prefix_of (trie_there t libs) t.from [] found list (met_begins walk.read) lists.1 in
      omega (arith, length-map found as_item, within_front found list front.0 front.1)

  module _ {A : Type 0} (q : PartReport A) where
    short : (items : List (Result trie.Entry Fault)) → ReportsOf limit (faults_from lists.Exports 0 items) q → q.cut ≡ false → length items ≤ limit
    short items reports whole =
        ltb-false limit (length items) (sym (cut_is limit items (faults_from lists.Exports 0 items) (plain_from lists.Exports 0 items) q reports) ∙ whole)

    -- all were met, and each can be read
    list_met : (items : List (Result trie.Entry Fault)) → AreExportItems limit t libs items → ReportsOf limit (faults_from lists.Exports 0 items) q
        → q.faults ≡ 0 → q.cut ≡ false → (list : List trie.Entry) × ListsExports t libs list × (length list ≤ limit)
    list_met _ (all_exports list lists) reports none whole =
        let items = map as_item list in
        (list, lists, omega (arith, length-map list as_item, short items reports whole))
    list_met _ (up_to_fault found f ends fault) reports none whole =
        let items = map as_item found ++ Err f ∷ [] in
        absurd (not_all_ok found f (reported_sound limit items (faults_from lists.Exports 0 items) (plain_from lists.Exports 0 items) q reports none whole))
    list_met _ (past_limit found walk long) reports none whole =
        let items = map as_item found in
        absurd (omega (arith, long, length-map found as_item, short items reports whole))

    -- a reported fault holds of the trie
    fault_met : (items : List (Result trie.Entry Fault)) → AreExportItems limit t libs items → ReportsOf limit (faults_from lists.Exports 0 items) q
        → 0 < q.faults → (f : Fault) × ExportsFault t libs f
    fault_met _ (all_exports list listed) reports some =
        let items = map as_item list in
        absurd (reported_faulty limit items (faults_from lists.Exports 0 items) (plain_from lists.Exports 0 items) q reports some (oks_all list))
    fault_met _ (up_to_fault found f ends fault) reports some = (f, fault)
    fault_met _ (past_limit found walk long) reports some =
        let items = map as_item found in
        absurd (reported_faulty limit items (faults_from lists.Exports 0 items) (plain_from lists.Exports 0 items) q reports some (oks_all found))

module _ {A : Type 0} (bytes : List ℕ) (m : MachO A) (p : IsImage bytes 0 m) (limit : ℕ) where
  abbrev begun_of_segment : SegmentView → List (Result (Section × List ℕ) Fault)
  begun_of_segment s = items_in_bounds (sections_of s)

  sections_plain : map plain (section_faults_reported (segments_view m)) ≡ faults_of_items (flat_map begun_of_segment (segments_view m))
  sections_plain =
      plain_each (λ n s. faults_from (lists.Sections n) 0 (begun_of_segment s)) begun_of_segment
      (λ n s. plain_from (lists.Sections n) 0 (begun_of_segment s)) 0 (segments_view m)

  sections_begin : Begins (all_sections (segments_view m)) (flat_map begun_of_segment (segments_view m)) (sections_beyond (segments_view m))
  sections_begin =
      each_begins sections_of begun_of_segment (λ s. more_than (begun_of_segment s) (sections_of s)) (λ s. items_begin (sections_of s)) (segments_view m)

  pub sections_judged : {B : Type 0} (q : Records B) → ReportsRecords limit (section_faults_reported (segments_view m)) (sections_beyond (segments_view m)) q
      → Judges ((segments : List SegmentView) × HasSegments bytes 0 segments × IsTrue (are_all_ok (all_sections segments)))
      ((segments : List SegmentView) × HasSegments bytes 0 segments × (limit < length (all_sections segments))) (verdict_of_records q)
  sections_judged q reports =
      let is = (segments_are m).strict bytes 0 p in
      judged_as (verdict_of_records q) (λ ok. (segments_view m, (is (segments_view m)).1 refl, ok))
      (λ s. subst (λ (xs : List SegmentView). IsTrue (are_all_ok (all_sections xs))) ((is s.0).0 s.1) s.2)
      (λ long. (segments_view m, (is (segments_view m)).1 refl, long))
      (λ l. subst (λ (xs : List SegmentView). limit < length (all_sections xs)) ((is l.0).0 l.1) l.2)
      (judged_records limit (all_sections (segments_view m)) (flat_map begun_of_segment (segments_view m)) (sections_beyond (segments_view m))
      (section_faults_reported (segments_view m)) q sections_begin sections_plain reports)

  pub relocations_are : (items : List (Result RelocationInfo Fault)) → HasAllRelocations bytes 0 items
      ↔ (items ≡ all_relocations (ctx_view m) (bytes_view m) (segments_view m))
  relocations_are items =
      facts_are bytes 0 m (strict-lossy bytes 0 m p) (λ f. items ≡ all_relocations f.ctx f.bytes f.segments)

  abbrev begun_of_section : Result (Section × List ℕ) Fault → List (Result RelocationInfo Fault)
  begun_of_section s = relocations_in_bounds (ctx_view m) (bytes_view m) s

  abbrev begun_within : SegmentView → List (Result RelocationInfo Fault)
  begun_within s = flat_map begun_of_section (sections_of s)

  relocations_plain : map plain (relocation_faults (ctx_view m) (bytes_view m) (segments_view m)) ≡ faults_of_items (flat_map begun_within (segments_view m))
  relocations_plain =
      plain_each (λ n s. relocation_faults_by begun_of_section n (sections_of s)) begun_within
      (λ n s. plain_each (λ k x. faults_from (lists.Relocations n k) 0 (begun_of_section x)) begun_of_section
      (λ k x. plain_from (lists.Relocations n k) 0 (begun_of_section x)) 0 (sections_of s)) 0 (segments_view m)

  relocations_begin : Begins (all_relocations (ctx_view m) (bytes_view m) (segments_view m)) (flat_map begun_within (segments_view m))
      (relocations_past (ctx_view m) (bytes_view m) (segments_view m))
  relocations_begin =
      let by = relocations_by (ctx_view m) (bytes_view m) in
      let past = relocations_past_of (ctx_view m) (bytes_view m) in
      each_begins (λ s. flat_map by (sections_of s)) begun_within (λ s. sum_by past (sections_of s))
      (λ s. each_begins by begun_of_section past (λ x. items_begin (by x)) (sections_of s)) (segments_view m)

  pub relocations_judged : {B : Type 0} (q : Records B)
      → ReportsRecords limit (relocation_faults (ctx_view m) (bytes_view m) (segments_view m))
      (relocations_past (ctx_view m) (bytes_view m) (segments_view m)) q
      → Judges ((items : List (Result RelocationInfo Fault)) × HasAllRelocations bytes 0 items × IsTrue (are_all_ok items))
      (LongOf limit (HasAllRelocations bytes 0)) (verdict_of_records q)
  relocations_judged q reports =
      let held = all_relocations (ctx_view m) (bytes_view m) (segments_view m) in
      judged_only limit (HasAllRelocations bytes 0) held (verdict_of_records q) ((relocations_are held).1 refl) (λ others h. (relocations_are others).0 h)
      (judged_records limit held (flat_map begun_within (segments_view m)) (relocations_past (ctx_view m) (bytes_view m) (segments_view m))
      (relocation_faults (ctx_view m) (bytes_view m) (segments_view m)) q relocations_begin relocations_plain reports)

  pub symbols_judged : {B : Type 0} (q : Records B)
      → ReportsRecords limit (symbols_unread (option_map table_of m.symbols)) (symbols_beyond (option_map table_of m.symbols)) q
      → (0 < q.past → IsTrue (are_all_ok (symbols_view m.symbols)) → ⊥)
      → Judges ((rows : List (Result (List ℕ × Nlist) Fault)) × HasSymbols bytes 0 rows × IsTrue (are_all_ok rows)) (LongOf limit (HasSymbols bytes 0))
      (verdict_of_records q)
  symbols_judged q reports broken =
      let is = (symbols_are m).strict bytes 0 p in
      let rows = symbols_view m.symbols in
      let table = option_map table_of m.symbols in
      let in_bounds = symbols_in (option_map table_in_bounds table) in
      let begins = symbols_begin table (λ some ok. broken (omega (arith, reports.past, some)) ok) in
      judged_only limit (HasSymbols bytes 0) rows (verdict_of_records q) ((is rows).1 refl) (λ others h. (is others).0 h)
      (judged_records limit rows in_bounds (symbols_beyond table) (symbols_unread table) q begins (plain_from lists.Symbols 0 in_bounds) reports)

  export_items_are : (items : List (Result trie.Entry Fault))
      → HasExportItems limit bytes 0 items ↔ AreExportItems limit (trie_or_empty (trie_view m)) (texts m.libs.items) items
  export_items_are items =
      facts_are bytes 0 m (strict-lossy bytes 0 m p) (λ f. AreExportItems limit (trie_or_empty f.trie) f.libs items)

  pub exports_judged : {B : Type 0} (q : PartReport B) → ReportsOfTrie limit (trie_or_empty (trie_view m)) (texts m.libs.items) q → FaultyHasNoList
      → Judges ((list : List trie.Entry) × HasExports bytes 0 list) (LongOf limit (HasExportItems limit bytes 0)) (verdict_of q)
  exports_judged q reports law =
      let is = (exports_are m).strict bytes 0 p in
      let t = trie_or_empty (trie_view m) in
      let libs = texts m.libs.items in
      let faults = faults_from lists.Exports 0 reports.items in
      part_judged q
      (λ none whole. let found = list_met limit t libs q reports.items reports.met reports.reports none whole in
      (found.0, (is found.0).1 (walked_list (trie_view m) libs found.0 found.1)))
      (λ some s. let fault = fault_met limit t libs q reports.items reports.met reports.reports some in
      no_list (trie_view m) libs fault.0 s.0 law fault.1 ((is s.0).0 s.1))
      (λ cut. (
        reports.items,
        (export_items_are reports.items).1 reports.met,
        reported_long limit reports.items faults
            (plain_from lists.Exports 0 reports.items) q reports.reports cut,
      ))
      (λ none whole l. let found = list_met limit t libs q reports.items reports.met reports.reports none whole in
      let few = items_within limit t libs found.0 l.0 law found.1 ((export_items_are l.0).0 l.1) in
      let long = l.2 in
      let short_list = found.2 in
      omega (arith, few, long, short_list))

  pub imports_judged : {B : Type 0} (items : List (Result Import Fault)) (q : PartReport B)
      → AreImageBindItems (binds_view m) (pointer_size (ctx_view m).container) (texts m.libs.items) (segments_view m) items
      → ReportsOf limit (faults_from lists.Imports 0 items) q → HasImportItems bytes 0 items
      → ((others : List (Result Import Fault)) → HasImportItems bytes 0 others
      → AreImageBindItems (binds_view m) (pointer_size (ctx_view m).container) (texts m.libs.items) (segments_view m) others)
      → Judges ((list : List Import) × HasImports bytes 0 list) (LongOf limit (HasImportItems bytes 0)) (verdict_of q)
  imports_judged items q are reports has held =
      let is = (imports_are m).strict bytes 0 p in
      let b = binds_view m in
      let pointer = pointer_size (ctx_view m).container in
      let libs = texts m.libs.items in
      let segments = segments_view m in
      let faults = faults_from lists.Imports 0 items in
      let same = plain_from lists.Imports 0 items in
      let listed = found_list b pointer libs segments items are in
      part_judged q
      (λ none whole. let list = listed (reported_sound limit items faults same q reports none whole) in (list.0, (is list.0).1 list.2))
      (λ some s. reported_faulty limit items faults same q reports some
      (subst (λ (xs : List (Result Import Fault)). IsTrue (are_all_ok xs)) (sym (items_of_list b pointer libs segments items s.0 are ((is s.0).0 s.1)))
      (oks_all s.0)))
      (λ cut. (items, has, reported_long limit items faults same q reports cut))
      (λ none whole l. let list = listed (reported_sound limit items faults same q reports none whole) in
      let one = items_of_list b pointer libs segments l.0 list.0 (held l.0 l.1) list.2 ∙ sym list.1 in
      reported_short limit items faults same q reports whole (subst (λ (xs : List (Result Import Fault)). limit < length xs) one l.2))

  soundly_signed : HasSoundSignature bytes 0 ↔ IsSoundlySigned (bytes_view m) (commands_view m) (segments_view m)
  soundly_signed = facts_are bytes 0 m (strict-lossy bytes 0 m p) (λ f. IsSoundlySigned f.bytes f.commands f.segments)

  pub signature_judged : {B : Type 0} (q : SignatureReport B)
      → ReportsSignature (image_faults (bytes_view m) (commands_view m) (segments_view m)) q
      → Judges (HasSoundSignature bytes 0) ⊥ (verdict_of_signature q)
  signature_judged q reports =
      judged_as (verdict_of_signature q) soundly_signed.1 soundly_signed.0 (λ l. l) (λ l. l)
      (signature_judged_by (bytes_view m) (commands_view m) (segments_view m) q reports)

  -- the list that is long, by its part
  abbrev pub LongByPart : Type 0
  LongByPart = ⊥ ⊎ ((((segments : List SegmentView) × HasSegments bytes 0 segments × (limit < length (all_sections segments))) ⊎ LongOf limit
      (HasAllRelocations bytes 0))
      ⊎ (LongOf limit (HasSymbols bytes 0) ⊎ (LongOf limit (HasExportItems limit bytes 0) ⊎ (LongOf limit (HasImportItems bytes 0)
      ⊎ (LongOf limit (HasFixups bytes 0) ⊎ LongOf limit (HasBindings bytes 0))))))

  long_list : LongByPart → HasLongList limit bytes
  long_list (inl no_way) = absurd no_way
  long_list (inr (inl (inl l))) = of_sections l.0 l.1 l.2
  long_list (inr (inl (inr l))) = of_relocations l.0 l.1 l.2
  long_list (inr (inr (inl l))) = of_symbols l.0 l.1 l.2
  long_list (inr (inr (inr (inl l)))) = of_exports l.0 l.1 l.2
  long_list (inr (inr (inr (inr (inl l))))) = of_imports l.0 l.1 l.2
  long_list (inr (inr (inr (inr (inr (inl l)))))) = of_fixups l.0 l.1 l.2
  long_list (inr (inr (inr (inr (inr (inr l)))))) = of_bindings l.0 l.1 l.2

  long_part : HasLongList limit bytes → LongByPart
  long_part (of_sections segments has l) = inr (inl (inl (segments, has, l)))
  long_part (of_relocations items has l) = inr (inl (inr (items, has, l)))
  long_part (of_symbols rows has l) = inr (inr (inl (rows, has, l)))
  long_part (of_exports items has l) = inr (inr (inr (inl (items, has, l))))
  long_part (of_imports items has l) = inr (inr (inr (inr (inl (items, has, l)))))
  long_part (of_fixups items has l) = inr (inr (inr (inr (inr (inl (items, has, l))))))
  long_part (of_bindings items has l) = inr (inr (inr (inr (inr (inr (items, has, l))))))

  -- all parts together
  pub parts_judged : {B : Type 0} (parts : Parts B)
      → Judges (((segments : List SegmentView) × HasSegments bytes 0 segments × IsTrue (are_all_ok (all_sections segments)))
      × ((items : List (Result RelocationInfo Fault)) × HasAllRelocations bytes 0 items × IsTrue (are_all_ok items)))
      (((segments : List SegmentView) × HasSegments bytes 0 segments × (limit < length (all_sections segments))) ⊎ LongOf limit (HasAllRelocations bytes 0))
      (verdict_of_read parts.sections parts.relocations)
      → Judges ((rows : List (Result (List ℕ × Nlist) Fault)) × HasSymbols bytes 0 rows × IsTrue (are_all_ok rows)) (LongOf limit (HasSymbols bytes 0))
      (verdict_of_records parts.symbols)
      → Judges ((list : List trie.Entry) × HasExports bytes 0 list) (LongOf limit (HasExportItems limit bytes 0)) (verdict_of parts.exports)
      → Judges ((list : List Import) × HasImports bytes 0 list) (LongOf limit (HasImportItems bytes 0)) (verdict_of parts.imports)
      → Judges ((items : List (Result Fixup Fault)) × HasFixups bytes 0 items × IsTrue (are_all_ok items)) (LongOf limit (HasFixups bytes 0))
      (verdict_of parts.fixups)
      → Judges ((items : List (Result Binding Fault)) × HasBindings bytes 0 items × IsTrue (are_all_ok items)) (LongOf limit (HasBindings bytes 0))
      (verdict_of parts.bindings)
      → Judges (HasLayoutFaults bytes []) ⊥ (verdict_of_layout parts.layout.items)
      → Judges (HasSoundSignature bytes 0) ⊥ (verdict_of_signature parts.signature)
      → Judges (IsSoundImage bytes) (HasLongList limit bytes) (verdict_of_parts parts)
  parts_judged parts read symbols exports imports fixups bindings layout signature =
      judged_as (verdict_of_parts parts)
      (λ s. record {
        opens = (p.ctx, commands_view m, p.opens);
        layout = s.0.0;
        signature = s.0.1;
        sections = s.1.0.0;
        relocations = s.1.0.1;
        symbols = s.1.1.0;
        exports = s.1.1.1.0;
        imports = s.1.1.1.1.0;
        fixups = s.1.1.1.1.1.0;
        bindings = s.1.1.1.1.1.1;
      })
      (λ s. ((s.layout, s.signature), ((s.sections, s.relocations), (s.symbols, (s.exports, (s.imports, (s.fixups, s.bindings)))))))
      long_list long_part
      (both_judged _ _ (beside (both_judged _ _ layout signature)) (both_judged _ _ read (both_judged _ _ symbols (both_judged _ _ exports
      (both_judged _ _ imports (both_judged _ _ fixups bindings))))))
