use Rattle.std.proofs.Common.{◌≡◌, ◌+◌}
use Rattle.mach_dyld.specs.Views.{branches_of, IsReadable}
use Rattle.mach_dyld.specs.Views.{source_trie}
use Rattle.mach_dyld.specs.LookUpState.{Settles}
use Rattle.mach_dyld.proofs.trie.look_up.settle.Given as goal

abbrev pub invariant-loop : goal.invariant-loop
invariant-loop g l = (l.left.left + l.counter ≡ l.fn.branches.left) × IsReadable l.source.bytes.now l.source.from l.left
    × Settles (source_trie l.source) l.rest (branches_of l.source.bytes.now l.source.from l.fn.branches) (branches_of l.source.bytes.now l.source.from l.left)
