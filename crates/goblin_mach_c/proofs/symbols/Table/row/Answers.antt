use Rattle.std.proofs.Common.{◌≡◌, ◌∙◌, ℕ, List, Result, Ok, length, ap, subst, sym}
use Rattle.mach_base.specs.Fault.{Fault}
use Rattle.mach_parts.specs.Symbols.{symbol_at}
use Rattle.mach_parts.specs.declared.symbols.nlist.Nlist.{Nlist}
use Rattle.goblin_mach_c.specs.SymbolRows.{SaysSymbol, symbol_row, symbol_table_in}
use Rattle.goblin_mach_c.proofs.SymbolTexts.{named_at, row_says}
use Rattle.goblin_mach_c.proofs.symbols.Table.row.Goals as goal

pub returns-in-Ok : goal.returns-in-Ok
returns-in-Ok c =
    let t = symbol_table_in c.args.self.now in
    let k = c.args.index in
    let read : symbol_at t k ≡ Ok (c.in-Ok.name.now, c.in-Ok.symbol) = ap (λ x. symbol_at x k) (sym c.at-symbols.ensures) ∙ sym c.in-Ok.ensures in
    let says = subst (λ (found : Result (List ℕ × Nlist) Fault). SaysSymbol t.strtab found (symbol_row t k)) read (row_says t k) in
    ap (named_at c.in-Ok.symbol (length c.in-Ok.name.now)) c.saturating_add.ensures ∙ sym says
