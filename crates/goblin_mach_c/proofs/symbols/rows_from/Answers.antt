use Rattle.std.proofs.Common.{◌-◌, ◌∙◌, sym, ap}
use Rattle.mach_base.specs.Items.{items_from}
use Rattle.goblin_mach_c.specs.SymbolRows.{symbol_row, gm_table_view}
use Rattle.goblin_mach_c.proofs.Filled.{items_after}
use Rattle.goblin_mach_c.proofs.symbols.rows_from.Goals as goal

pub returns : goal.returns
returns c =
    let bytes = c.args.bytes.now in
    let image = c.args.image.now in
    ap (λ x. items_from (symbol_row (record { bytes = bytes; start = image.symbols_at; nsyms = image.symbols; strtab = image.names_at; ctx = x }))
    c.args.first (image.symbols - c.args.first))
    c.ctx_of.ensures ∙ sym (items_after (symbol_row (gm_table_view bytes image)) image.symbols c.args.first)
