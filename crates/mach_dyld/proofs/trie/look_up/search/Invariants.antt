use Rattle.std.proofs.Common.{◌+◌, ◌*◌, length, reverse}
use Rattle.mach_dyld.specs.Nowhere.{AreBarren, HaveRoom}
use Rattle.mach_dyld.proofs.LookUpTurns.{Holds}
use Rattle.mach_dyld.proofs.TrieNames.{unmarked}
use Rattle.mach_dyld.proofs.trie.look_up.search.Given as goal

abbrev pub invariant-turns : goal.invariant-turns
invariant-turns g l = Holds l.source l.root l.name l.top
    (reverse l.choices.items) l.marks l.fn.steps l.steps × AreBarren l.source l.barren × HaveRoom l.source l.barren

abbrev pub decreases-turns : goal.decreases-turns
decreases-turns g l = 2 * unmarked l.marks + length l.choices.items
