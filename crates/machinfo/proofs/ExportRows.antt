-- The rows of exports that a walk meets, written one after the other.
use Rattle.std.proofs.Common.{◌≡◌, ◌≤◌, ◌<◌, ◌-◌, ◌++◌, ◌∷◌, [], ◌∙◌, ℕ, List, Option, Some, Result, Ok, Err, Bool, true, false, arith, ap, length}
use Rattle.std.proofs.Common.{inl, inr, map, refl, subst, sym}
use Rattle.std.specs.Borrow.{Bor}
use Rattle.std.specs.Prelude.{◌&&◌, codes}
use Rattle.std.specs.Io.KnownBytes.{Appends}
use Rattle.std.proofs.lemmas.List.{append-nil, append_assoc, length-append, map-append}
use Rattle.mach_base.specs.Answer.{◌>>=◌, ErrorMeets}
use Rattle.mach_base.specs.Fault.{Fault, fault_of}
use Rattle.mach_base.specs.declared.error.Error.{Error}
use Rattle.mach_base.specs.declared.error.Error.TheVariants as errors
use Rattle.mach_dyld.specs.Exports.{info_of}
use Rattle.mach_dyld.specs.Trie.{Entry, Trie, entry}
use Rattle.mach_dyld.specs.TrieRange.{TrieRange, ExportsEnd, ExportsFault}
use Rattle.mach_dyld.specs.Unfolds.{Ahead, AreReadOnce, Unfolds}
use Rattle.mach_dyld.specs.Views.{source_trie}
use Rattle.mach_dyld.specs.WalkState.{IsAtBranch}
use Rattle.mach_dyld.proofs.TrieBegins.{listed_there}
use Rattle.mach_dyld.specs.Walks.{GivesNoMore, GoesOn, HasGiven, SaysOfTrie, SaysWhereItEnds}
use Rattle.mach_dyld.specs.declared.export_info.ExportInfo.{ExportInfo}
use Rattle.mach_dyld.specs.declared.export_walk.ExportWalk.{ExportWalk}
use Rattle.mach_base.specs.Text.{texts}
use Rattle.goblin_mach.specs.Fixups.{base_of, base_view}
use Rattle.goblin_mach.specs.OpenImage.{IsLossyImage, trie_view}
use Rattle.goblin_mach.specs.Subjects.{trie_or_empty}
use Rattle.goblin_mach.specs.declared.macho.MachO.{MachO}
use Rattle.goblin_mach.proofs.ImageFacts.{facts_are}
use Rattle.mach_cli.proofs.Arrays as arrays
use Rattle.mach_cli.proofs.Listings as lines
use Rattle.mach_cli.specs.Fields.{FieldView}
use Rattle.mach_cli.specs.JsonArrays.{WritesObjects}
use Rattle.mach_cli.specs.Listings.{WritesRows, reported_by}
use Rattle.mach_cli.specs.declared.listing.ListProgress.{ListProgress}
use Rattle.machinfo.specs.Exports.{export_fields}
use Rattle.machinfo.specs.ExportRows.{AreShownExports, HasExportFields, IsWalkedTo, WritesExportRows, export_row_text, export_rows, export_text}
use Rattle.machinfo.specs.ExportRows.{fields_of_exports, beyond_limit, up_to_fault, up_to_memory, whole_list}
use Rattle.machinfo.specs.declared.export_rows.ExportForm.{ExportForm}
use Rattle.machinfo.specs.declared.export_rows.ExportForm.TheVariants.{Lines, Objects}

-- ---- exports as items

abbrev pub as_item : Entry → Result Entry Fault
as_item x = Ok x

abbrev pub entries_ok : List Entry → List (Result Entry Fault)
entries_ok found = map as_item found

ok_more : (found : List Entry) (x : Entry) → entries_ok (found ++ x ∷ []) ≡ entries_ok found ++ Ok x ∷ []
ok_more found x = map-append as_item found (x ∷ [])

-- ---- the rows

-- the text of an export
abbrev pub entry_text : ExportForm → ℕ → Entry → List ℕ
entry_text form base e = export_text form (export_fields base e.name e.info)

-- the text of an item
abbrev pub item_row : ExportForm → ℕ → Result Entry Fault → Result (List ℕ) Fault
item_row form base item = reported_by (export_text form) (item >>= (λ e. Ok (export_fields base e.name e.info)))

-- one more item
pub rows_more : (form : ExportForm) (base : ℕ) (items : List (Result Entry Fault)) (item : Result Entry Fault)
    → export_rows form base (items ++ item ∷ []) ≡ export_rows form base items ++ item_row form base item ∷ []
rows_more form base items item =
    let fields : Result Entry Fault → Result (List FieldView) Fault = λ x. x >>= (λ e. Ok (export_fields base e.name e.info)) in
    ap (λ fs. map (reported_by (export_text form)) fs) (map-append fields items (item ∷ []))
    ∙ map-append (reported_by (export_text form)) (map fields items) (fields item ∷ [])

-- The rows of these exports were written, and `left` more may be written, whatever rows follow.
abbrev pub GoesOver : ExportForm → (base limit : ℕ) → List Entry → (left : ℕ) → (is_first : Bool) → (old new : Option (List ℕ)) → Type 0
GoesOver Lines base limit found left is_first old new =
    (rest : List (Result (List ℕ) Fault)) → lines.Goes (codes "refused") limit (export_rows Lines base (entries_ok found) ++ rest) rest left true old new
GoesOver Objects base limit found left is_first old new =
    (rest : List (Result (List ℕ) Fault)) → arrays.Goes limit (export_rows Objects base (entries_ok found) ++ rest) rest left true is_first old new

pub none_written : (form : ExportForm) (base limit : ℕ) (known : Option (List ℕ)) → GoesOver form base limit [] limit true known known
none_written Lines base limit known = λ rest. lines.goes_init (codes "refused") limit rest rest known refl
none_written Objects base limit known = λ rest. arrays.goes_init limit rest rest known refl

module _ (base limit : ℕ) (found : List Entry) (left : ℕ) (is_first : Bool) (old middle new : Option (List ℕ)) where
  -- the row of an item, before others
  abbrev Then : ExportForm → Result Entry Fault → List (Result (List ℕ) Fault) → List (Result (List ℕ) Fault)
  Then form item rest = export_rows form base (entries_ok found) ++ item_row form base item ∷ rest

  then_more : (form : ExportForm) (item : Result Entry Fault) (rest : List (Result (List ℕ) Fault))
      → Then form item rest ≡ export_rows form base (entries_ok found ++ item ∷ []) ++ rest
  then_more form item rest =
      sym (append_assoc (export_rows form base (entries_ok found)) (item_row form base item ∷ []) rest)
      ∙ ap (λ rows. rows ++ rest) (sym (rows_more form base (entries_ok found) item))

  then_entry : (form : ExportForm) (e : Entry) (rest : List (Result (List ℕ) Fault))
      → Then form (Ok e) rest ≡ export_rows form base (entries_ok (found ++ e ∷ [])) ++ rest
  then_entry form e rest = then_more form (Ok e) rest ∙ ap (λ items. export_rows form base items ++ rest) (sym (ok_more found e))

  -- one export more was written
  pub one_written : (form : ExportForm) (e : Entry) → GoesOver form base limit found left is_first old middle → 1 ≤ left
      → Appends middle new (export_row_text form is_first (Ok (entry_text form base e)))
      → GoesOver form base limit (found ++ e ∷ []) (left - 1) false old new
  one_written Lines e goes some written = λ rest.
      subst (λ (rows : List (Result (List ℕ) Fault)). lines.Goes (codes "refused") limit rows rest (left - 1) true old new) (then_entry Lines e rest)
      (lines.goes_on (codes "refused") limit (entry_text Lines base) (Then Lines (Ok e) rest) (item_row Lines base (Ok e) ∷ rest) rest left true true (Ok e)
      old middle new (goes (item_row Lines base (Ok e) ∷ rest)) refl some refl written)
  one_written Objects e goes some written = λ rest.
      subst (λ (rows : List (Result (List ℕ) Fault)). arrays.Goes limit rows rest (left - 1) true false old new) (then_entry Objects e rest)
      (arrays.goes_on limit (entry_text Objects base) (Then Objects (Ok e) rest) (item_row Objects base (Ok e) ∷ rest) rest left true true is_first (Ok e)
      old middle new (goes (item_row Objects base (Ok e) ∷ rest)) refl some refl written)

  -- all were written, and why there are no more
  pub refusal_written : (form : ExportForm) (e : Error) (t : ListProgress) → GoesOver form base limit found left is_first old middle → 1 ≤ left
      → Appends middle new (export_row_text form is_first (Err e)) → (t.left ≡ left - 1) × (t.whole ≡ false) × (t.more ≡ false)
      → WritesExportRows form base limit (entries_ok found ++ Err (fault_of e) ∷ []) old new t
  refusal_written Lines e t goes some written is =
      subst (λ (rows : List (Result (List ℕ) Fault)). WritesRows (codes "refused") limit rows old new t)
      (then_more Lines (Err (fault_of e)) [] ∙ append-nil (export_rows Lines base (entries_ok found ++ Err (fault_of e) ∷ [])))
      (lines.goes_over (codes "refused") limit (Then Lines (Err (fault_of e)) []) [] (left - 1) false old new t
      (lines.goes_on (codes "refused") limit (entry_text Lines base) (Then Lines (Err (fault_of e)) []) (Err (fault_of e) ∷ []) [] left true false (Err e)
      old middle new (goes (Err (fault_of e) ∷ [])) refl some refl written)
      refl is)
  refusal_written Objects e t goes some written is =
      subst (λ (rows : List (Result (List ℕ) Fault)). WritesObjects limit rows old new t)
      (then_more Objects (Err (fault_of e)) [] ∙ append-nil (export_rows Objects base (entries_ok found ++ Err (fault_of e) ∷ [])))
      (arrays.goes_over limit (Then Objects (Err (fault_of e)) []) [] (left - 1) false false old new t
      (arrays.goes_on limit (entry_text Objects base) (Then Objects (Err (fault_of e)) []) (Err (fault_of e) ∷ []) [] left true false is_first (Err e)
      old middle new (goes (Err (fault_of e) ∷ [])) refl some refl written)
      refl is)

  -- as many as the limit were written, and there is one more item
  pub limit_met : (form : ExportForm) (item : Result Entry Fault) (t : ListProgress) → GoesOver form base limit found left is_first old middle
      → left ≡ 0 → (t.left ≡ 0) × (t.whole ≡ true) × (t.more ≡ true)
      → WritesExportRows form base limit (entries_ok found ++ item ∷ []) old middle t
  limit_met Lines item t goes none is =
      let row = item_row Lines base item in
      subst (λ (rows : List (Result (List ℕ) Fault)). WritesRows (codes "refused") limit rows old middle t)
      (sym (rows_more Lines base (entries_ok found) item))
      (lines.goes_cut (codes "refused") limit (Then Lines item []) (row ∷ []) left true old middle t row [] (goes (row ∷ [])) refl none is)
  limit_met Objects item t goes none is =
      let row = item_row Objects base item in
      subst (λ (rows : List (Result (List ℕ) Fault)). WritesObjects limit rows old middle t)
      (sym (rows_more Objects base (entries_ok found) item))
      (arrays.goes_cut limit (Then Objects item []) (row ∷ []) left true is_first old middle t row [] (goes (row ∷ [])) refl none is)

  -- all were written
  pub all_written : (form : ExportForm) (t : ListProgress) → GoesOver form base limit found left is_first old middle
      → (t.left ≡ left) × (t.whole ≡ true) × (t.more ≡ false) → WritesExportRows form base limit (entries_ok found) old middle t
  all_written Lines t goes is =
      let rows = export_rows Lines base (entries_ok found) in
      subst (λ (rows : List (Result (List ℕ) Fault)). WritesRows (codes "refused") limit rows old middle t) (append-nil rows)
      (lines.goes_over (codes "refused") limit (rows ++ []) [] left true old middle t (goes []) refl is)
  all_written Objects t goes is =
      let rows = export_rows Objects base (entries_ok found) in
      subst (λ (rows : List (Result (List ℕ) Fault)). WritesObjects limit rows old middle t) (append-nil rows)
      (arrays.goes_over limit (rows ++ []) [] left true is_first old middle t (goes []) refl is)

-- ---- the items

-- a trie that is walked to these exports from this root
abbrev Walked : List Entry → ℕ → Trie → ℕ → Type 0
Walked found nodes t root = (left : List Ahead) × Unfolds t root nodes found left × AreReadOnce t root nodes

module _ {A : Type 0} (limit : ℕ) (t : TrieRange) (libs : List (List ℕ)) (found : List Entry) (w : ExportWalk A) (h : HasGiven t libs found w) where
  at_branch : IsAtBranch found h.2 w.walker → IsWalkedTo t libs found
  at_branch at =
      let s = w.walker.source in
      let here : Walked found h.2 (source_trie s) s.from = (_, at.1.is_read.read, at.1.known.once) in
      let there = subst (λ (x : Trie). Walked found h.2 x t.from) h.0 (subst (λ (r : ℕ). Walked found h.2 (source_trie s) r) h.1 here) in
      record { nodes = h.2; left = there.0; read = there.1; once = there.2 }

  -- a walk that is not over
  walked_to : (GivesNoMore w → ⊥) → IsWalkedTo t libs found
  walked_to goes = elim h.3 [
    | inl at ↦ at_branch at
    | inr over ↦ absurd (goes over.0)
  ]

  -- if there are more than the limit
  pub more_found : limit < length found → AreShownExports limit t libs (entries_ok found)
  more_found long = elim h.3 [
    | inl at ↦ beyond_limit found (at_branch at) long
    | inr over ↦ whole_list found (listed_there w.walker.source t libs h.0 h.1 over.1)
  ]

  -- the items before an error, and that
  pub refused_items : (e : Error) → (GivesNoMore w → ⊥) → ErrorMeets (ExportsFault t libs) e → ErrorMeets (ExportsEnd t libs found) e
      → AreShownExports limit t libs (entries_ok found ++ Err (fault_of e) ∷ [])
  refused_items (errors.Memory a) goes occurs ends = up_to_memory found (walked_to goes)
  refused_items (errors.Malformed m) goes occurs ends = up_to_fault found _ ends occurs
  refused_items (errors.BadMagic m) goes occurs ends = up_to_fault found _ ends occurs
  refused_items (errors.Scroll m) goes occurs ends = up_to_fault found _ ends occurs
  refused_items (errors.BufferTooShort n m) goes occurs ends = up_to_fault found _ ends occurs

-- if as many as the limit were given, there is one item more, whatever it is
pub one_item_more : {A : Type 0} (limit : ℕ) (t : TrieRange) (libs : List (List ℕ)) (found : List Entry) (w : ExportWalk A) (h : HasGiven t libs found w)
    (next : Result (Bor (List ℕ) × ExportInfo) Error) (v : ExportWalk A) → (GivesNoMore w → ⊥) → length found ≡ limit
    → SaysOfTrie t libs found (Some next) → SaysWhereItEnds t libs found (Some next) → GoesOn w (Some next) v
    → (item : Result Entry Fault) × AreShownExports limit t libs (entries_ok found ++ item ∷ [])
one_item_more limit t libs found w h (Err e) v goes full says ends on = (Err (fault_of e), refused_items limit t libs found w h e goes says ends)
one_item_more limit t libs found w h (Ok given) v goes full says ends on =
    let one = entry given.0.now (info_of given.1) in
    let all = found ++ one ∷ [] in
    let long : limit < length all = omega (arith, full, length-append found (one ∷ [])) in (
      Ok one,
      subst (λ (items : List (Result Entry Fault)). AreShownExports limit t libs items) (ok_more found one)
          (more_found limit t libs all v (on.1 t libs found h) long),
    )

-- ---- an image

-- what is shown of an image, as the bytes have it
pub fields_are : {A : Type 0} (bytes : List ℕ) (m : MachO A) → IsLossyImage bytes 0 m → (base limit : ℕ) (items : List (Result Entry Fault))
    → base ≡ base_view m
    → AreShownExports limit (trie_or_empty (trie_view m)) (texts m.libs.items) items → HasExportFields limit bytes (fields_of_exports base items)
fields_are bytes m opened base limit items is shown =
    let fields = fields_of_exports base items in
    (facts_are bytes 0 m opened (λ f. (found : List (Result Entry Fault))
    × AreShownExports limit (trie_or_empty f.trie) f.libs found × (fields ≡ fields_of_exports (base_of f.segments) found))).1
    (items, shown, ap (λ (b : ℕ). fields_of_exports b items) is)

pub and_true : (b : Bool) → (b && true) ≡ b
and_true true = refl
and_true false = refl
