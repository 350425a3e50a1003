-- If no rebase is shown, the rows are the same whatever symbols there are.
use Rattle.std.proofs.Common.{◌≡◌, ℕ, Bool, cond, true, false, List, [], ◌∷◌, Option, Result, Ok, Err, refl, ap, sym, map}
use Rattle.std.specs.Prelude.{◌||◌}
use Rattle.std.proofs.lemmas.Bool.{or_parts}
use Rattle.mach_base.specs.Fault.{Fault}
use Rattle.mach_chained.specs.Fixups.{Fixup}
use Rattle.mach_chained.specs.Header.{Fixups}
use Rattle.mach_chained.specs.Pointers.{KindOfFixup, rebase, bind, value}
use Rattle.mach_base.specs.Answer.{◌>>=◌}
use Rattle.mach_dyld.specs.Rebases.{Rebase}
use Rattle.mach_parts.specs.PointerSigning.{Auth}
use Rattle.goblin_mach.specs.AllStretches.{SegmentStretches}
use Rattle.machfixups.specs.KeptFixups.{keeps_fixup, keeps_kind, kept_fixups, kinds_in_lines, kinds_in_objects}
use Rattle.machfixups.specs.Lists.{PointerLists}
use Rattle.machfixups.specs.Rows.{Action, PointerRows, action_of, chain_rows, picked, row_by_segment, row_for_fixup, row_for_rebase}
use Rattle.machfixups.specs.Rows.{rows_shown, source_if}
use Rattle.machfixups.specs.StoredPointers.{PointerSource, raw_of}
use Rattle.goblin_mach.specs.SymbolAtAddress.{SymbolBelow}
use Rattle.machfixups.specs.declared.kept_fixups.KindsOfLists.{KindsOfLists}
use Rattle.machfixups.specs.declared.kept_fixups.ShownKinds.{ShownKinds}
use Rattle.machfixups.specs.declared.rows.Selection.{Selection}
use Rattle.machfixups.proofs.Facts.{rows_are}

module _ (parts : List SegmentStretches) (symbols others : ℕ → Option SymbolBelow) (libs : List (List ℕ)) (table : Option Fixups) where
  same_action : (kinds : ShownKinds) (kind : KindOfFixup) (auth : Option Auth) → kinds.rebases ≡ false → keeps_kind kinds kind ≡ true
      → action_of parts symbols libs table kind auth ≡ action_of parts others libs table kind auth
  same_action kinds (rebase target) auth none kept = absurd (cc (none, kept))
  same_action kinds (bind import addend) auth none kept = refl
  same_action kinds (value number) auth none kept = refl

  module _ (source : Option PointerSource) (kinds : ShownKinds) (none : kinds.rebases ≡ false) where
    same_row : (item : Result Fixup Fault) → keeps_fixup kinds item ≡ true
        → row_for_fixup parts symbols libs table source item ≡ row_for_fixup parts others libs table source item
    same_row (Ok f) kept =
        ap (λ (a : Result Action Fault). a >>= (λ (action : Action). Ok (row_by_segment parts f.segment f.address action (raw_of source table f))))
        (same_action kinds f.kind f.auth none kept)
    same_row (Err fault) kept = refl

    one_more : (b : Bool) (item : Result Fixup Fault) (items : List (Result Fixup Fault)) → keeps_fixup kinds item ≡ b
        → map (row_for_fixup parts symbols libs table source) items ≡ map (row_for_fixup parts others libs table source) items
        → map (row_for_fixup parts symbols libs table source) (cond b (item ∷ items) items)
        ≡ map (row_for_fixup parts others libs table source) (cond b (item ∷ items) items)
    one_more true item items kept same = cc (same_row item kept, same)
    one_more false item items kept same = same

    pub same_chains : (items : List (Result Fixup Fault)) → chain_rows parts symbols libs table source kinds items
        ≡ chain_rows parts others libs table source kinds items
    same_chains [] = refl
    same_chains (item ∷ items) = one_more (keeps_fixup kinds item) item (kept_fixups kinds items) refl (same_chains items)

  same_picked : (b : Bool) (items : List (Result Rebase Fault)) → b ≡ false
      → picked b (map (row_for_rebase parts symbols) items) ≡ picked b (map (row_for_rebase parts others) items)
  same_picked true items none = absurd (cc (none))
  same_picked false items none = refl

  pub same_rows : (has_raw : Bool) (shown : Selection) (kinds : KindsOfLists) (lists : PointerLists) → shown.rebases ≡ false
      → kinds.rebases.rebases ≡ false → kinds.binds.rebases ≡ false → kinds.chains.rebases ≡ false
      → rows_shown has_raw shown kinds parts symbols libs table lists ≡ rows_shown has_raw shown kinds parts others libs table lists
  same_rows has_raw shown kinds lists none in_rebases in_binds in_chains =
      let source = source_if has_raw lists.source in
      rows_are (rows_shown has_raw shown kinds parts symbols libs table lists) (rows_shown has_raw shown kinds parts others libs table lists)
      (cc (same_picked shown.rebases lists.rebases none, same_chains source kinds.rebases in_rebases lists.fixups))
      (cc (same_chains source kinds.binds in_binds lists.fixups))
      refl
      (same_chains source kinds.chains in_chains lists.fixups)

  -- ---- the symbols are those of an image if rebases are shown

  module _ (has_raw : Bool) (shown : Selection) (lists : PointerLists) where
    abbrev lines_by : (ℕ → Option SymbolBelow) → PointerRows
    lines_by seen = rows_shown has_raw shown (kinds_in_lines shown) parts seen libs table lists

    pub lines_unseen : (has_rebases : Bool) → has_rebases ≡ (shown.rebases || shown.chains) → (has_rebases ≡ true → symbols ≡ others)
        → lines_by symbols ≡ lines_by others
    lines_unseen true is same = ap lines_by (same refl)
    lines_unseen false is same =
        let none = or_parts shown.rebases shown.chains (sym is) in
        same_rows has_raw shown (kinds_in_lines shown) lists none.0 refl refl (sym is)

    abbrev objects_by : (ℕ → Option SymbolBelow) → PointerRows
    objects_by seen = rows_shown has_raw shown (kinds_in_objects shown) parts seen libs table lists

    pub objects_unseen : (has_rebases : Bool) → has_rebases ≡ (shown.rebases || shown.chains) → (has_rebases ≡ true → symbols ≡ others)
        → objects_by symbols ≡ objects_by others
    objects_unseen true is same = ap objects_by (same refl)
    objects_unseen false is same =
        let none = or_parts shown.rebases shown.chains (sym is) in
        same_rows has_raw shown (kinds_in_objects shown) lists none.0 none.0 refl none.1
