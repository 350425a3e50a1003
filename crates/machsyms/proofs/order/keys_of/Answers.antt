use Rattle.std.proofs.Common.{◌∙◌, ◌<◌, ℕ, ap, subst}
use Rattle.mach_parts.specs.SymbolViews.{table_of}
use Rattle.machsyms.specs.Order.{symbol_key_of}
use Rattle.machsyms.proofs.Keys.{keys_none, keys_more}
use Rattle.machsyms.proofs.order.keys_of.Goals as goal

pub symbols-init : goal.symbols-init
symbols-init g c = keys_none c.args.by (table_of c.args.table.now) _ c.new-keys.ensures.items

pub symbols-preserved : goal.symbols-preserved
symbols-preserved g c =
    let index = c.symbols.index in
    keys_more c.args.by (table_of c.args.table.now) c.symbols.keys.items c.push.new.self.items c.key_of.result index
    (subst (λ (n : ℕ). index < n) c.len-index-end.ensures c.symbols-test.true) c.in_ok-push.ensures.items
    (c.key_of.ensures ∙ ap (symbol_key_of c.args.by index) c.get.ensures)
    ∙ c.symbols.invariant
