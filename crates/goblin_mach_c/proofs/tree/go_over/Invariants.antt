use Rattle.std.proofs.Common.{[], ℕ, List}
use Rattle.mach_dyld.specs.Trie.{Entry}
use Rattle.mach_dyld.specs.TrieRange.{TrieRange}
use Rattle.mach_dyld.specs.Walks.{HasGiven, work_left}
use Rattle.goblin_mach_c.proofs.tree.go_over.Given as goal

abbrev pub invariant-exports : goal.invariant-exports
invariant-exports l = (t : TrieRange) (libs : List (List ℕ)) → HasGiven t libs [] l.fn.walk → (found : List Entry) × HasGiven t libs found l.walk

abbrev pub decreases-exports : goal.decreases-exports
decreases-exports l = work_left l.walk
