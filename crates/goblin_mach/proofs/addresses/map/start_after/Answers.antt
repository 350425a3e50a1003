use Rattle.std.proofs.Common.{rules, sym}
use Rattle.std.specs.Prelude.{nat_le}
use Rattle.std.proofs.lemmas.List.Sorted.{IsPartitionPoint-from_clause, IsPartitionedBy-leb}
use Rattle.goblin_mach.proofs.AddressMaps.{first_after}
use Rattle.goblin_mach.proofs.addresses.map.start_after.Goals as goal

pub returns : goal.returns
returns c =
    let at = IsPartitionPoint-from_clause (λ start. nat_le start c.args.address) c.args.starts.now c.partition_point-passed.result
    c.partition_point-passed.ensures.partitioned (IsPartitionedBy-leb (λ start. start) c.args.starts.now c.args.address c.requires)
    (λ a r f k. search rules) in
    first_after c.args.starts.now c.args.address c.partition_point-passed.result c.requires at c.item_at.result (sym c.item_at.ensures)
