use Rattle.std.proofs.Common.{◌≡◌, true, false, rules}
use Rattle.std.proofs.lemmas.List.Sorted.{IsPartitionPoint-from_clause, IsPartitionedBy-leb}
use Rattle.std.specs.Prelude.{nat_le}
use Rattle.std.specs.List.Sorted.{IsPartitionPoint}
use Rattle.goblin_mach.specs.declared.addresses.stretches.Change.{Change}
use Rattle.goblin_mach.proofs.Changes.{point_up_to, point_reports}
use Rattle.goblin_mach.proofs.addresses.stretches.passed_at.Goals as goal

point : (c : goal.After-partition_point) → IsPartitionPoint (λ (x : Change). nat_le x.start c.args.address ≡ true) (λ x. nat_le x.start c.args.address ≡ false)
    c.args.changes.now c.partition_point.result
point c = IsPartitionPoint-from_clause (λ (x : Change). nat_le x.start c.args.address) c.args.changes.now c.partition_point.result
    c.partition_point.ensures.partitioned (IsPartitionedBy-leb (λ (x : Change). x.start) c.args.changes.now c.args.address c.requires) (λ a r f k. search rules)

pub returns-clause-up_to : goal.returns-clause-up_to
returns-clause-up_to c = point_up_to c.args.changes.now c.partition_point.result c.args.address (point c)

pub returns-clause-reported : goal.returns-clause-reported
returns-clause-reported c = point_reports c.args.changes.now c.partition_point.result c.args.address (point c)
