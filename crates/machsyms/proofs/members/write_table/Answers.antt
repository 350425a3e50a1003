use Rattle.std.proofs.Common.{ℕ, List, Result, ◌-◌, ◌∙◌, ap, map, subst}
use Rattle.std.specs.Prelude.{codes}
use Rattle.std.specs.List.{filter}
use Rattle.mach_base.specs.Fault.{Fault}
use Rattle.mach_parts.specs.Symbols.{SymbolTable, table_in_bounds}
use Rattle.mach_parts.specs.SymbolViews.{table_of}
use Rattle.mach_cli.specs.JsonArrays.{NamedRows, WritesMember}
use Rattle.machsyms.specs.Request.{takes}
use Rattle.machsyms.specs.JsonSymbols.{symbol_members, symbol_reported, WritesSymbolMembers}
use Rattle.machsyms.specs.Order.{gone_over}
use Rattle.machsyms.proofs.Written.{list_and_past, ok_more}
use Rattle.machsyms.proofs.members.write_table.Goals as goal

pub returns : goal.returns
returns g c =
    let t = table_of c.args.table.now in
    let a = c.args.request.now in
    let left = c.args.left in
    let list = gone_over a.sorting c.args.keys.now in
    let reported = c.in_ok-reported.reported in
    let old = g.O.Write.contents c.args.out.now in
    let middle = g.O.Write.contents c.print_member.new.out in
    let new = g.O.Write.contents c.print_end_past.new.out in
    let past = ap (λ (n : ℕ). n - c.len-2.result) c.len.ensures
    ∙ ap (λ (n : ℕ). t.nsyms - n) (c.len-2.ensures ∙ ap (λ (x : SymbolTable). x.nsyms) c.in_bounds-in_bounds.ensures) in
    let rows = ap (map symbol_reported) (c.of-symbols.ensures ∙ ap (λ (x : SymbolTable). filter (takes a) (list x)) c.in_bounds-in_bounds.ensures) in
    let member = subst (λ (xs : List (Result (List ℕ) Fault)). WritesMember (codes "symbols") left xs old middle reported) rows c.in_ok-reported.ensures in
    let named : NamedRows = record { name = codes "symbols"; rows = map symbol_reported (filter (takes a) (list (table_in_bounds t))) } in
    ok_more _ _ c.print_end_past.result (λ outcome end.
    subst (λ (n : ℕ). WritesSymbolMembers left (symbol_members a (list (table_in_bounds t))) n outcome.whole outcome.left old new) past
    (list_and_past left named (c.len.result - c.len-2.result) reported outcome.whole outcome.left old middle new member end)) c.print_end_past.ensures
