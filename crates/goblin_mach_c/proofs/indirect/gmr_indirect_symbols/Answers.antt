use Rattle.std.proofs.Common.{◌∙◌, ap, sym, subst, drop, map}
use Rattle.mach_base.specs.declared.context.Ctx.{Ctx}
use Rattle.mach_base.specs.Items.{items_from}
use Rattle.mach_parts.specs.IndirectSymbols.{IndirectTable, indirect_symbol_at}
use Rattle.goblin_mach.specs.ImageSlots.{indirect_symbols_in, indirect_table_at}
use Rattle.goblin_mach_c.specs.Fill.{Fills}
use Rattle.goblin_mach_c.specs.CViews.{gm_ctx_view}
use Rattle.goblin_mach_c.specs.TableRows.{indirect_row}
use Rattle.goblin_mach_c.proofs.ItemRowsMade.{rows_of_items}
use Rattle.goblin_mach_c.proofs.indirect.gmr_indirect_symbols.Goals as goal

pub returns : goal.returns
returns c =
    let bytes = c.args.bytes.now in
    let ctx = gm_ctx_view c.args.image.now in
    let place = c.in-Some.command.indirectsymoff in
    let many = c.in-Some.command.nindirectsyms in
    let table : IndirectTable = record { bytes = bytes; start = place; count = many; le = ctx.le } in
    let same = c.new-table.ensures ∙ ap (λ (x : Ctx). record { bytes = bytes; start = place; count = many; le = x.le }) c.ctx_of-le.ensures in
    let rows = ap (λ p. map indirect_row (indirect_symbols_in (indirect_table_at ctx bytes p))) (sym c.in-Some.ensures)
    ∙ rows_of_items indirect_row (indirect_symbol_at table) 0 many in
    subst (λ l. Fills l c.args.out.now c.fill.new.out c.fill.result)
    (c.rows_from-rows.ensures
    ∙ ap (λ (t : IndirectTable). drop c.args.first (items_from (λ k. indirect_row (indirect_symbol_at t k)) 0 many)) same
    ∙ ap (drop c.args.first) (sym rows))
    c.fill.ensures.filled
