use Rattle.std.proofs.Common.{◌∙◌, None, ap, refl, subst, sym}
use Rattle.mach_parts.specs.SymbolViews.{symbol_read, table_of}
use Rattle.mach_parts.specs.Symbols.{SymbolTable, symbols_of}
use Rattle.goblin_mach.specs.NearestSymbol.{IsNearest, IsNearestIn}
use Rattle.goblin_mach.specs.declared.macho.nearest.SymbolAt.{SymbolAt}
use Rattle.goblin_mach.proofs.NearestRecords.{nearest_named, nearest_none, symbols_named}
use Rattle.goblin_mach.proofs.macho.nearest.nearest.Goals as goal

pub returns-in_err-found : goal.returns-in_err-found
returns-in_err-found c =
    let t = table_of c.in_bounds-table.result in
    let none = nearest_none t c.args.section c.args.address (rw c.in_err-found.was at c.nearest_of.ensures) in
    rw c.from_residual.ensures (subst (λ (u : SymbolTable). IsNearestIn (symbols_of u) c.args.section c.args.address None) c.in_bounds-table.ensures none)

pub returns-in-Ok : goal.returns-in-Ok
returns-in-Ok c =
    let t = table_of c.in_bounds-table.result in
    let x = c.in_ok-found.found in
    let y : SymbolAt = record { index = x.index; name = c.in-Ok.name; symbol = x.symbol; distance = x.distance } in
    let is = rw c.in_ok-found.was at c.nearest_of.ensures in
    let read = sym c.get.ensures ∙ ap symbol_read c.in-Ok.is in
    subst (λ (u : SymbolTable). IsNearest (symbols_of u) c.args.section c.args.address y) c.in_bounds-table.ensures
    (nearest_named t c.args.section c.args.address x y c.in-Ok.field-0-1 is read refl refl refl)

pub returns-in-Err : goal.returns-in-Err
returns-in-Err c =
    let t = table_of c.in_bounds-table.result in
    let found = c.nearest_of-in-Err.result in
    subst (λ (u : SymbolTable). IsNearestIn (symbols_of u) c.args.section c.args.address found) c.in_bounds-table.ensures
    (subst (λ items. IsNearestIn items c.args.section c.args.address found) (symbols_named t) c.nearest_of-in-Err.ensures)
