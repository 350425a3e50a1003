use Rattle.std.proofs.Common.{◌∙◌, ◌/◌, ap, sym, subst, drop, map}
use Rattle.mach_base.specs.declared.context.Ctx.{Ctx}
use Rattle.mach_base.specs.declared.context.Endian.{Endian}
use Rattle.mach_base.specs.Items.{items_from}
use Rattle.mach_load.specs.DataInCode.{data_in_code_item}
use Rattle.goblin_mach.specs.Tables.{data_in_code_there}
use Rattle.goblin_mach_c.specs.Fill.{Fills}
use Rattle.goblin_mach_c.specs.CViews.{gm_ctx_view}
use Rattle.goblin_mach_c.specs.TableRows.{data_in_code_row}
use Rattle.goblin_mach_c.proofs.ItemRowsMade.{rows_of_items}
use Rattle.goblin_mach_c.proofs.data_in_code.gmr_data_in_code.Goals as goal

pub returns : goal.returns
returns c =
    let bytes = c.args.bytes.now in
    let le = (gm_ctx_view c.args.image.now).le in
    let place = c.in-Some.command.dataoff in
    let many = c.in-Some.command.datasize / 8 in
    let same = ap (λ (x : Ctx). x.le) c.ctx_of.ensures in
    let rows = ap (λ p. map data_in_code_row (data_in_code_there le bytes p)) (sym c.in-Some.ensures)
    ∙ rows_of_items data_in_code_row (data_in_code_item le bytes place) 0 many in
    subst (λ l. Fills l c.args.out.now c.fill.new.out c.fill.result)
    (c.rows_from-rows.ensures
    ∙ ap (λ (x : Endian). drop c.args.first (items_from (λ k. data_in_code_row (data_in_code_item x bytes place k)) 0 many)) same
    ∙ ap (drop c.args.first) (sym rows))
    c.fill.ensures.filled
