use Rattle.std.proofs.Common.{◌∙◌, ◌∷◌, ◌+◌, ap, sym, arith}
use Rattle.goblin_mach_c.specs.SymbolRows.{symbol_row, symbol_rows_left, symbol_table_in}
use Rattle.goblin_mach_c.proofs.Filled.{items_next}
use Rattle.goblin_mach_c.proofs.symbols.SymbolRowsRows.next.Goals as goal

pub returns : goal.returns
returns c =
    let it = c.args.self.now in
    let left = c.if-self.false in
    items_next (symbol_row (symbol_table_in it.table)) it.next it.table.count (omega (arith, left))
    ∙ ap (λ row. row ∷ symbol_rows_left (record { table = it.table; next = it.next + 1 })) (sym c.row-row.ensures)
