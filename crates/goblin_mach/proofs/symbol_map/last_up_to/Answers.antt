use Rattle.std.proofs.Common.{rules}
use Rattle.std.proofs.lemmas.List.Sorted.{IsPartitionPoint-from_clause}
use Rattle.goblin_mach.specs.MappedSymbols.{is_up_to}
use Rattle.goblin_mach.proofs.MappedNearest.{last_before, none_before, up_to_is_partitioned}
use Rattle.goblin_mach.proofs.symbol_map.last_up_to.Goals as goal

pub returns-in_err-last : goal.returns-in_err-last
returns-in_err-last c =
    let n = c.args.section in
    let a = c.args.address in
    let symbols = c.args.symbols.now in
    let point = IsPartitionPoint-from_clause (is_up_to n a) symbols c.partition_point-passed.result c.partition_point-passed.ensures.partitioned
    (up_to_is_partitioned n a symbols c.requires) (λ a r f k. search rules) in
    rw c.from_residual.ensures (none_before n a symbols c.partition_point-passed.result (rw c.in_err-last.was at c.checked_sub.ensures) point)

pub returns : goal.returns
returns c =
    let n = c.args.section in
    let a = c.args.address in
    let symbols = c.args.symbols.now in
    let point = IsPartitionPoint-from_clause (is_up_to n a) symbols c.partition_point-passed.result c.partition_point-passed.ensures.partitioned
    (up_to_is_partitioned n a symbols c.requires) (λ a r f k. search rules) in
    last_before n a symbols c.partition_point-passed.result c.in_ok-last.last _ c.requires point c.partition_point-passed.ensures.bound
    c.in_ok-last.ensures.0 c.in_ok-last.ensures.1
