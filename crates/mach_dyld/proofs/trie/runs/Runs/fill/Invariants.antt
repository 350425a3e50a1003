use Rattle.std.proofs.Common.{◌≡◌, ◌-◌, length}
use Rattle.mach_dyld.specs.Nowhere.{AreBarren}
use Rattle.mach_dyld.specs.Tails.{IsTail}
use Rattle.mach_dyld.proofs.trie.runs.Runs.fill.Given as goal

abbrev pub invariant-loop-done : goal.invariant-loop-done
invariant-loop-done g l = record {
  tail : IsTail l.source (length l.source.bytes.now - l.done) l.tail;
  room : length l.self ≡ length l.source.bytes.now;
  barren : AreBarren l.source l.self;
}
