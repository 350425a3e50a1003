use Rattle.std.proofs.Common.{◌≡◌, ◌∙◌, ◌++◌, ℕ, List, [], Option, Result, ap, map, refl}
use Rattle.std.proofs.lemmas.List.{append-nil}
use Rattle.mach_base.specs.Fault.{Fault}
use Rattle.mach_base.specs.Text.{texts}
use Rattle.mach_chained.specs.Fixups.{Fixup}
use Rattle.mach_chained.specs.Header.{Fixups}
use Rattle.mach_dyld.specs.BindingsLeft.{opcode_bindings_left}
use Rattle.mach_dyld.specs.RebasesLeft.{opcode_rebases_left}
use Rattle.mach_dyld.specs.WeakBindsLeft.{weak_binds_left}
use Rattle.goblin_mach.specs.Fixups.{AreImageFixups, chained_view}
use Rattle.goblin_mach.specs.FixupsLeft.{image_fixups_left}
use Rattle.goblin_mach.specs.OpenImage.{ctx_view, segments_view}
use Rattle.goblin_mach.specs.AllStretches.{parts_view}
use Rattle.machfixups.specs.KeptFixups.{kept_fixups}
use Rattle.machfixups.specs.KeptLeft.{kept_left}
use Rattle.machfixups.specs.Lists.{PointerLists}
use Rattle.machfixups.specs.StoredPointers.{PointerSource, source_option_view}
use Rattle.machfixups.specs.Rows.{PointerRow, PointerRows, fixups_table_view, picked, readable_table, source_if}
use Rattle.machfixups.specs.Rows.{row_for_binding, row_for_fixup, row_for_rebase, row_for_weak}
use Rattle.machfixups.specs.TargetSymbols.{symbols_seen}
use Rattle.machfixups.proofs.Facts.{has_chained_fixups, has_fixups, has_libraries, has_lists, rows_are}
use Rattle.machfixups.proofs.lists.ImageRows.of.Goals as goal

pub returns : goal.returns
returns g c = λ bytes o p.
    let m = c.args.image.now in
    let fixups = image_fixups_left c.fixups.result in
    let lists : PointerLists = record {
      rebases = opcode_rebases_left c.opcode_rebases.result;
      bindings = opcode_bindings_left c.opcode_bindings.result;
      weak_binds = weak_binds_left c.weak_binds.result;
      fixups = fixups;
      source = record { segments = segments_view m; le = (ctx_view m).le };
    } in
    let same : (others : List (Result Fixup Fault)) → AreImageFixups (chained_view m) (segments_view m) others → others ≡ fixups = λ others are.
    c.one_list_of_image_fixups.ensures bytes o others fixups (has_fixups bytes o m p others are) (has_fixups bytes o m p fixups c.fixups.ensures) in
    let parts = parts_view c.args.parts.now in
    let symbols = symbols_seen c.args.symbols.now in
    let shown = c.args.shown in
    let kinds = c.args.kinds in
    let made_by : Option PointerSource → List (List ℕ) → Option Fixups → (rebases binds weak chains : List (Result Fixup Fault)) → PointerRows =
    λ source libs table rebases binds weak chains.
    record {
      rebases = picked shown.rebases (map (row_for_rebase parts symbols) lists.rebases) ++ map (row_for_fixup parts symbols libs table source) rebases;
      binds = picked shown.binds (map (row_for_binding parts) lists.bindings) ++ map (row_for_fixup parts symbols libs table source) binds;
      weak = picked shown.weak (map (row_for_weak parts) lists.weak_binds) ++ map (row_for_fixup parts symbols libs table source) weak;
      chains = map (row_for_fixup parts symbols libs table source) chains;
    } in
    let made = made_by (source_if c.args.has_raw lists.source) in
    let source_held = source_option_view c.of.result in
    let libs = texts m.libs.items in
    let table = readable_table (chained_view m) in
    let table_held = fixups_table_view c.table_of.result in
    let rebases = kept_left c.of-of_rebases.result in
    let binds = kept_left c.of-of_binds.result in
    let none = kept_left c.none.result in
    let chains = kept_left c.of-of_chains.result in
    let rebases_kept = kept_fixups kinds.rebases fixups in
    let binds_kept = kept_fixups kinds.binds fixups in
    let chains_kept = kept_fixups kinds.chains fixups in
    let binds_are = c.of-of_binds.ensures ∙ ap (kept_fixups kinds.binds) (same _ c.fixups-2.ensures) in
    let chains_are = c.of-of_chains.ensures ∙ ap (kept_fixups kinds.chains) (same _ c.fixups-3.ensures) in (
      lists,
      has_lists bytes o m p lists c.opcode_rebases.ensures c.opcode_bindings.ensures c.weak_binds.ensures c.fixups.ensures refl,
      libs,
      has_libraries bytes o m p,
      chained_view m,
      has_chained_fixups bytes o m p,
      rows_are _ (made_by source_held (texts c.as_slice.result.now) table_held rebases binds none chains) c.rows_of.ensures
          c.rows_of-2.ensures c.rows_of-3.ensures
          c.rows_of-4.ensures
          ∙ ap (λ (s : Option PointerSource). made_by s (texts c.as_slice.result.now) table_held rebases binds none chains) c.of.ensures
          ∙ ap (λ (ls : List (List ℕ)). made ls table_held rebases binds none chains) (ap texts c.as_slice.ensures.value)
          ∙ ap (λ (t : Option Fixups). made libs t rebases binds none chains) c.table_of.ensures
          ∙ ap (λ (xs : List (Result Fixup Fault)). made libs table xs binds none chains) c.of-of_rebases.ensures
          ∙ ap (λ (xs : List (Result Fixup Fault)). made libs table rebases_kept xs none chains) binds_are
          ∙ ap (λ (xs : List (Result Fixup Fault)). made libs table rebases_kept binds_kept xs chains) c.none.ensures
          ∙ ap (λ (xs : List (Result Fixup Fault)). made libs table rebases_kept binds_kept [] xs) chains_are
          ∙ ap (λ (xs : List (Result PointerRow Fault)). record (made libs table rebases_kept binds_kept [] chains_kept) { weak = xs }) (append-nil _),
    )
