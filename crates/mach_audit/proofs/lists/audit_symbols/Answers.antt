use Rattle.std.proofs.Common.{◌<◌, ◌∙◌, ◌^◌, ap, arith, length}
use Rattle.mach_parts.specs.Symbols.{SymbolTable, symbols_of}
use Rattle.mach_parts.specs.SymbolViews.{table_of}
use Rattle.mach_audit.proofs.Begins.{count_past, table_broken}
use Rattle.mach_audit.proofs.lists.audit_symbols.Goals as goal

pub returns-in_ok-in_bounds-in-Some-clause-reported : goal.returns-in_ok-in_bounds-in-Some-clause-reported
returns-in_ok-in_bounds-in-Some-clause-reported g c =
    let t = table_of c.in-Some.table in
    let fewer = ap (λ (x : SymbolTable). x.nsyms) c.in_bounds-in_bounds.ensures in
    let items = c.iter.ensures.items ∙ ap symbols_of c.in_bounds-in_bounds.ensures in
    rw c.in-Some.is (record {
      in_bounds = rw items at c.in_ok-in_bounds-in-Some.ensures.reported;
      past = omega (arith, count_past t, c.saturating_sub-past.ensures, c.saturating_sub-past.type_inv, c.len.ensures, c.len-in-Some.ensures, fewer);
    })

pub returns-in_ok-in_bounds-in-Some-clause-broken : goal.returns-in_ok-in_bounds-in-Some-clause-broken
returns-in_ok-in_bounds-in-Some-clause-broken g c = λ past ok.
    let t = table_of c.in-Some.table in
    let fewer = ap (λ (x : SymbolTable). x.nsyms) c.in_bounds-in_bounds.ensures in
    let few : length t.bytes < 2 ^ 64 = omega (arith, c.in_bounds-in_bounds.type_inv, ap (λ (x : SymbolTable). length x.bytes) c.in_bounds-in_bounds.ensures) in
    table_broken c.symbols_past_the_end.ensures t few (omega (arith, past, c.saturating_sub-past.ensures, c.len.ensures, c.len-in-Some.ensures, fewer))
    (rw c.in-Some.is at ok)
