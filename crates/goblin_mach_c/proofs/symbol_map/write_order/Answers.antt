use Rattle.std.proofs.Common.{List, ap, arith, length, ℕ}
use Rattle.std.proofs.lemmas.List.{length-drop}
use Rattle.mach_parts.specs.SymbolViews.{symbols_left}
use Rattle.goblin_mach_c.specs.SymbolMaps.{defined_from}
use Rattle.goblin_mach_c.proofs.OrderedSymbols.{few_defined}
use Rattle.goblin_mach_c.proofs.symbol_map.write_order.Goals as goal

pub count_rows-requires : goal.count_rows-requires
count_rows-requires c =
    let items = symbols_left c.iter.result in
    let few = few_defined 0 items in
    let rest = ap (λ (numbers : List ℕ). length numbers) c.fill-written.ensures.rest in
    omega (arith, few, rest, length-drop c.fill-written.result (defined_from 0 items), c.iter.ensures.bounded)

pub overflow_add-count : goal.overflow_add-count
overflow_add-count c =
    let items = symbols_left c.iter.result in
    let few = few_defined 0 items in
    let rest = ap (λ (numbers : List ℕ). length numbers) c.fill-written.ensures.rest in
    omega (
      arith,
      few,
      rest,
      length-drop c.fill-written.result (defined_from 0 items),
      c.iter.ensures.bounded,
      c.count_rows.ensures,
      c.fill-written.ensures.filled.count,
    )
