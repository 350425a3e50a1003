use Rattle.std.proofs.Common.{rules, ◌<◌, Some, length, map, subst, arith}
use Rattle.std.proofs.lemmas.List.{get_or-map, length-map}
use Rattle.std.proofs.lemmas.List.Sorted.{IsPartitionPoint-from_clause}
use Rattle.mach_parts.specs.SymbolViews.{table_of}
use Rattle.goblin_mach.specs.MappedSymbols.{is_up_to, IsLastUpTo}
use Rattle.goblin_mach.specs.declared.symbol_map.MappedSymbol.{MappedSymbol}
use Rattle.goblin_mach.proofs.MappedNearest.{last_before, none_before}
use Rattle.goblin_mach_c.specs.SymbolMaps.{numbered_symbol}
use Rattle.goblin_mach_c.proofs.OrderedSymbols.{is_partitioned, point_of_map}
use Rattle.goblin_mach_c.proofs.symbol_map.last_up_to.Goals as goal

pub returns-in_err-last : goal.returns-in_err-last
returns-in_err-last c = λ up.
    let t = table_of c.args.table.now in
    let n = c.args.section in
    let a = c.args.address in
    let order = c.args.order.now in
    let passed = c.partition_point-passed.result in
    let point = IsPartitionPoint-from_clause (λ k. is_up_to n a (numbered_symbol t k)) order passed c.partition_point-passed.ensures.partitioned
    (is_partitioned t n a order up) (λ a r f k. search rules) in
    rw c.from_residual.ensures (none_before n a (map (numbered_symbol t) order) passed (rw c.in_err-last.was at c.checked_sub.ensures)
    (point_of_map t n a order passed c.partition_point-passed.ensures.bound point))

pub returns : goal.returns
returns c = λ up.
    let t = table_of c.args.table.now in
    let n = c.args.section in
    let a = c.args.address in
    let order = c.args.order.now in
    let passed = c.partition_point-passed.result in
    let last = c.in_ok-last.last in
    let point = IsPartitionPoint-from_clause (λ k. is_up_to n a (numbered_symbol t k)) order passed c.partition_point-passed.ensures.partitioned
    (is_partitioned t n a order up) (λ a r f k. search rules) in
    let within : last < length order = omega (arith, c.in_ok-last.ensures.0, c.in_ok-last.ensures.1, c.partition_point-passed.ensures.bound) in
    subst (λ (m : MappedSymbol). IsLastUpTo (map (numbered_symbol t) order) n a (Some m))
    (get_or-map (numbered_symbol t) order last 0 (numbered_symbol t 0) within)
    (last_before n a (map (numbered_symbol t) order) passed last (numbered_symbol t 0) up
    (point_of_map t n a order passed c.partition_point-passed.ensures.bound point)
    (omega (arith, length-map order (numbered_symbol t), c.partition_point-passed.ensures.bound)) c.in_ok-last.ensures.0 c.in_ok-last.ensures.1)
