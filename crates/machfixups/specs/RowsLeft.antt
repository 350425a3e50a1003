-- What is left of the rows of a list, and of the lists of an image.
use Rattle.std.specs.Prelude.{ℕ, List, [], ◌++◌, map, Option, Result}
use Rattle.mach_base.specs.Fault.{Fault}
use Rattle.mach_base.specs.Text.{texts}
use Rattle.mach_dyld.specs.BindingsLeft.{opcode_bindings_left}
use Rattle.mach_dyld.specs.RebasesLeft.{opcode_rebases_left}
use Rattle.mach_dyld.specs.WeakBindsLeft.{weak_binds_left}
use Rattle.goblin_mach.specs.AllStretches.{SegmentStretches, parts_view}
use Rattle.machfixups.specs.KeptLeft.{kept_left}
use Rattle.machfixups.specs.Rows.{PointerRow, PointerRows, row_for_rebase, row_for_binding, row_for_weak, row_for_fixup, fixups_table_view}
use Rattle.machfixups.specs.StoredPointers.{source_option_view}
use Rattle.goblin_mach.specs.SymbolAtAddress.{SymbolBelow}
use Rattle.machfixups.specs.TargetSymbols.{symbols_seen}
use Rattle.machfixups.specs.declared.lists.ImageRows as image
use Rattle.machfixups.specs.declared.rows.Items as declared
use Rattle.machfixups.specs.declared.rows.Items.TheVariants as variants
use Rattle.machfixups.specs.declared.rows.Rows as over

-- those of the opcodes
abbrev pub rows_of_items : List SegmentStretches → (symbols : ℕ → Option SymbolBelow) → declared.Items → List (Result PointerRow Fault)
rows_of_items parts symbols variants.Hidden = []
rows_of_items parts symbols (variants.Rebases items) = map (row_for_rebase parts symbols) (opcode_rebases_left items)
rows_of_items parts symbols (variants.Binds items) = map (row_for_binding parts) (opcode_bindings_left items)
rows_of_items parts symbols (variants.Weak items) = map (row_for_weak parts) (weak_binds_left items)

-- those of the opcodes, then those of the chains
abbrev pub rows_left : {A : Type 0} → over.Rows A → List (Result PointerRow Fault)
rows_left rows =
    rows_of_items (parts_view rows.parts.now) (symbols_seen rows.symbols.now) rows.items
    ++ map (row_for_fixup (parts_view rows.parts.now) (symbols_seen rows.symbols.now) (texts rows.libs.now) (fixups_table_view rows.table)
    (source_option_view rows.source)) (kept_left rows.fixups)

-- what is left of each list of an image
abbrev pub image_rows_left : {A : Type 0} → image.ImageRows A → PointerRows
image_rows_left rows = record {
  rebases = rows_left rows.rebases;
  binds = rows_left rows.binds;
  weak = rows_left rows.weak;
  chains = rows_left rows.chains;
}
