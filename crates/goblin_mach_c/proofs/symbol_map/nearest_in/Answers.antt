use Rattle.std.proofs.Common.{◌∙◌, Some, ap, arith, map, sym}
use Rattle.std.proofs.lemmas.Option.{slice_get_within}
use Rattle.mach_base.proofs.ItemLists.{length-items_from}
use Rattle.mach_parts.specs.SymbolViews.{symbol_read, table_of}
use Rattle.mach_parts.specs.Symbols.{symbol_at, symbols_of}
use Rattle.goblin_mach.proofs.MappedNearest.{is_nearest, none_nearest, parts_of_item, unreadable}
use Rattle.goblin_mach_c.specs.SymbolMaps.{numbered_symbol}
use Rattle.goblin_mach_c.proofs.OrderedSymbols.{above_address, below_address, item_of_number, nearest_elsewhere, other_number}
use Rattle.goblin_mach_c.proofs.symbol_map.nearest_in.Goals as goal

pub returns-in_err-last-clause-nearest : goal.returns-in_err-last-clause-nearest
returns-in_err-last-clause-nearest c = λ all.
    let t = table_of c.args.table.now in
    rw c.from_residual.ensures (none_nearest c.args.section c.args.address (symbols_of t) (map (numbered_symbol t) c.args.order.now) all
    (rw c.in_err-last.was at (c.last_up_to.ensures all.in_order)))

pub returns-then-last-len-clause-nearest : goal.returns-then-last-len-clause-nearest
returns-then-last-len-clause-nearest c = λ all _ _ _ _.
    let t = table_of c.args.table.now in
    let last = c.in_ok-last.last in
    let is = rw c.in_ok-last.was at (c.last_up_to.ensures all.in_order) in
    let item = item_of_number t c.args.order.now c.args.section c.args.address last all is in
    omega (arith, slice_get_within (symbols_of t) last (symbol_at t last) item.0, length-items_from (symbol_at t) 0 t.nsyms, c.len.ensures, c.if-last-len.true)

pub returns-in_default-clause-nearest : goal.returns-in_default-clause-nearest
returns-in_default-clause-nearest c = λ all _ _ _ _.
    let t = table_of c.args.table.now in
    let last = c.in_ok-last.last in
    let is = rw c.in_ok-last.was at (c.last_up_to.ensures all.in_order) in
    let item = item_of_number t c.args.order.now c.args.section c.args.address last all is in
    unreadable last (symbol_at t last) _ (numbered_symbol t last) (sym c.get.ensures ∙ ap symbol_read c.in_default.is) item.1

pub returns-then-symbol-section-clause-nearest : goal.returns-then-symbol-section-clause-nearest
returns-then-symbol-section-clause-nearest c = λ all.
    let t = table_of c.args.table.now in
    let last = c.in_ok-last.last in
    let is = rw c.in_ok-last.was at (c.last_up_to.ensures all.in_order) in
    nearest_elsewhere t c.args.order.now c.args.section c.args.address last c.in-Ok.name.now c.in-Ok.symbol all is
    (sym c.get.ensures ∙ ap symbol_read c.in-Ok.is) (other_number c.args.section c.args.address c.in-Ok.symbol c.if-symbol-section.true)

pub returns-in_err-distance-clause-nearest : goal.returns-in_err-distance-clause-nearest
returns-in_err-distance-clause-nearest c = λ all.
    let t = table_of c.args.table.now in
    let last = c.in_ok-last.last in
    let is = rw c.in_ok-last.was at (c.last_up_to.ensures all.in_order) in
    rw c.from_residual-in_err-distance.ensures
    (nearest_elsewhere t c.args.order.now c.args.section c.args.address last c.in-Ok.name.now c.in-Ok.symbol all is
    (sym c.get.ensures ∙ ap symbol_read c.in-Ok.is)
    (above_address c.args.section c.args.address c.in-Ok.symbol (rw c.in_err-distance.was at c.checked_sub.ensures)))

pub returns-clause-nearest : goal.returns-clause-nearest
returns-clause-nearest c = λ all.
    let t = table_of c.args.table.now in
    let last = c.in_ok-last.last in
    let is = rw c.in_ok-last.was at (c.last_up_to.ensures all.in_order) in
    let read = sym c.get.ensures ∙ ap symbol_read c.in-Ok.is in
    let item = item_of_number t c.args.order.now c.args.section c.args.address last all is in
    let parts = parts_of_item last (symbol_at t last) c.in-Ok.name.now c.in-Ok.symbol (numbered_symbol t last) read item.1 in
    is_nearest c.args.section c.args.address (symbols_of t) (map (numbered_symbol t) c.args.order.now) all
    (record { index = last; name = c.in-Ok.name; symbol = c.in-Ok.symbol; distance = c.in_ok-distance.distance }) (numbered_symbol t last) is parts.1
    (item.0 ∙ ap Some read)
    (below_address c.args.section c.args.address c.in-Ok.symbol parts.0 c.if-symbol-section.false c.in_ok-distance.ensures.0) c.in_ok-distance.ensures.1
