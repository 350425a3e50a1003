use Rattle.std.proofs.Common.{◌≡◌, ◌++◌, map}
use Rattle.mach_parts.specs.SymbolViews.{table_of}
use Rattle.machsyms.specs.Order.{key_view, keys_of_table}
use Rattle.machsyms.proofs.Keys.{keys_after}
use Rattle.machsyms.proofs.order.keys_of.Given as goal

-- the keys so far, and those of the symbols that are left
abbrev pub invariant-symbols : goal.invariant-symbols
invariant-symbols g l =
    map key_view l.keys.items ++ keys_after l.by (table_of l.table) l.index ≡ keys_of_table l.by (table_of l.table)
