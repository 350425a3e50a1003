use Rattle.std.proofs.Common.{rules}
use Rattle.std.proofs.lemmas.Fn.{always_returns_same}
use Rattle.mach_parts.specs.SymbolViews.{table_of}
use Rattle.goblin_mach_c.specs.SymbolMaps.{numbered_symbol}
use Rattle.goblin_mach_c.proofs.OrderedSymbols.{sorted_order}
use Rattle.goblin_mach_c.proofs.symbol_map.sort_numbers.Goals as goal

pub returns-clause-order : goal.returns-clause-order
returns-clause-order c =
    let t = table_of c.args.table.now in
    sorted_order t c.args.numbers.now c.sort_unstable_by_key.new.self c.requires c.sort_unstable_by_key.ensures.permutation
    (c.sort_unstable_by_key.ensures.sorted (λ k. let m = numbered_symbol t k in (m.section, m.value, m.index))
    (always_returns_same _ _ _ (λ a r f k. search rules)))
