use Rattle.std.proofs.Common.{◌≡◌, ◌^◌, ◌<◌, ◌≤◌, length, take}
use Rattle.mach_base.specs.Leb128.{groups_value}
use Rattle.mach_base.specs.FrontGroups.{GoOn}
use Rattle.mach_base.proofs.leb128.front_groups.Given as goal

abbrev pub invariant-groups : goal.invariant-groups
invariant-groups l = record {
  inside : l.index ≤ length l.bytes;
  weight : l.weight ≡ 128 ^ l.index;
  value : l.value ≡ groups_value (take l.index l.bytes);
  small : l.value < l.weight;
  on : GoOn l.bytes l.index;
}
