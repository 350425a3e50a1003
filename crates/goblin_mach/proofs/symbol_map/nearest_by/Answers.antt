use Rattle.std.proofs.Common.{◌∙◌, Some, ap, sym}
use Rattle.mach_parts.specs.SymbolViews.{symbol_read, table_of}
use Rattle.mach_parts.specs.Symbols.{SymbolTable, symbol_at, symbols_of, table_in_bounds}
use Rattle.goblin_mach.proofs.MappedNearest.{is_nearest, item_of_last, none_nearest, other_section, parts_of_item, unreadable}
use Rattle.goblin_mach.proofs.NearestItems.{distance_is, not_below}
use Rattle.goblin_mach.proofs.symbol_map.nearest_by.Goals as goal

pub returns-in_err-last : goal.returns-in_err-last
returns-in_err-last c =
    rw c.from_residual.ensures (none_nearest c.args.section c.args.address _ c.args.symbols.now c.requires (rw c.in_err-last.was at c.last_up_to.ensures))

pub returns-in_default : goal.returns-in_default
returns-in_default c = λ k name s b.
    let t : SymbolTable = table_in_bounds (table_of c.args.table.now) in
    let last = c.in_ok-last.last in
    let item = item_of_last t c.args.symbols.now c.args.section c.args.address last c.requires (rw c.in_ok-last.was at c.last_up_to.ensures) in
    let read = ap (λ (table : SymbolTable). symbol_at table last.index) (sym c.in_bounds.ensures) ∙ (sym c.get.ensures ∙ ap symbol_read c.in_default.is) in
    unreadable last.index (symbol_at t last.index) _ last read item.1

pub returns-in_err-distance : goal.returns-in_err-distance
returns-in_err-distance c =
    let t : SymbolTable = table_in_bounds (table_of c.args.table.now) in
    let last = c.in_ok-last.last in
    let is = rw c.in_ok-last.was at c.last_up_to.ensures in
    let item = item_of_last t c.args.symbols.now c.args.section c.args.address last c.requires is in
    let read = ap (λ (table : SymbolTable). symbol_at table last.index) (sym c.in_bounds.ensures) ∙ (sym c.get.ensures ∙ ap symbol_read c.in-Ok.is) in
    let parts = parts_of_item last.index (symbol_at t last.index) c.in-Ok.name.now c.in-Ok.symbol last read item.1 in
    rw c.from_residual-in_err-distance.ensures
    (other_section c.args.section c.args.address (symbols_of t) c.args.symbols.now c.requires last c.in-Ok.symbol is parts.0 parts.1
    (not_below c.args.section c.args.address c.in-Ok.symbol c.distance_above.result c.distance_above.ensures c.in_err-distance.was))

pub returns : goal.returns
returns c =
    let t : SymbolTable = table_in_bounds (table_of c.args.table.now) in
    let last = c.in_ok-last.last in
    let is = rw c.in_ok-last.was at c.last_up_to.ensures in
    let item = item_of_last t c.args.symbols.now c.args.section c.args.address last c.requires is in
    let read = ap (λ (table : SymbolTable). symbol_at table last.index) (sym c.in_bounds.ensures) ∙ (sym c.get.ensures ∙ ap symbol_read c.in-Ok.is) in
    let parts = parts_of_item last.index (symbol_at t last.index) c.in-Ok.name.now c.in-Ok.symbol last read item.1 in
    let d = distance_is c.args.section c.args.address c.in-Ok.symbol c.distance_above.result c.in_ok-distance.distance c.distance_above.ensures
    c.in_ok-distance.was in
    is_nearest c.args.section c.args.address (symbols_of t) c.args.symbols.now c.requires
    (record { index = last.index; name = c.in-Ok.name; symbol = c.in-Ok.symbol; distance = c.in_ok-distance.distance }) last is parts.1
    (item.0 ∙ ap Some read) d.0 d.1
