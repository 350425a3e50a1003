use Rattle.std.proofs.Common.{arith, rules}
use Rattle.std.specs.Prelude.{nat_le}
use Rattle.std.proofs.lemmas.List.Sorted.{IsPartitionPoint-from_clause, IsPartitionedBy-leb}
use Rattle.goblin_mach.proofs.AddressMaps.{last_below, none_below}
use Rattle.goblin_mach.proofs.addresses.map.start_below.Goals as goal

pub returns-in_err-last : goal.returns-in_err-last
returns-in_err-last c =
    let at = IsPartitionPoint-from_clause (λ start. nat_le start c.args.address) c.args.starts.now c.partition_point-passed.result
    c.partition_point-passed.ensures.partitioned (IsPartitionedBy-leb (λ start. start) c.args.starts.now c.args.address c.requires)
    (λ a r f k. search rules) in
    let none = rw c.in_err-last.was at c.checked_sub.ensures in
    rw c.from_residual.ensures (none_below c.args.starts.now c.args.address c.partition_point-passed.result c.requires at (omega (arith, none)))

pub returns : goal.returns
returns c =
    let at = IsPartitionPoint-from_clause (λ start. nat_le start c.args.address) c.args.starts.now c.partition_point-passed.result
    c.partition_point-passed.ensures.partitioned (IsPartitionedBy-leb (λ start. start) c.args.starts.now c.args.address c.requires)
    (λ a r f k. search rules) in
    last_below c.args.starts.now c.args.address c.partition_point-passed.result c.requires at c.in_ok-last.last 0
    c.partition_point-passed.ensures.bound c.in_ok-last.ensures.0 c.in_ok-last.ensures.1
