use Rattle.std.proofs.Common.{◌≡◌, length}
use Rattle.std.specs.List.{list_any}
use Rattle.mach_parts.specs.Symbols.{table_in_bounds, symbols_of}
use Rattle.mach_parts.specs.SymbolViews.{symbols_left, table_of}
use Rattle.mach_audit.specs.States.{is_local_item}
use Rattle.mach_audit.proofs.state.has_local.Given as goal

abbrev pub invariant-symbols : goal.invariant-symbols
invariant-symbols l = list_any is_local_item (symbols_of (table_in_bounds (table_of l.table))) ≡ list_any is_local_item (symbols_left l.symbols)

abbrev pub decreases-symbols : goal.decreases-symbols
decreases-symbols l = length (symbols_left l.symbols)
