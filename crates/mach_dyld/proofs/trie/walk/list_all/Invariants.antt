use Rattle.mach_dyld.proofs.TrieNames.{◌≡◌, ◌+◌, ℕ, entries, HasFound, work_ahead}
use Rattle.mach_dyld.proofs.trie.walk.list_all.Given as goal

abbrev pub invariant-exports : goal.invariant-exports
invariant-exports g l = record {
  visited : ℕ;
  found : HasFound (entries l.found.items) visited l.walk;
  count : l.steps ≡ l.fn.steps + visited;
  source : l.walk.source ≡ l.source;
}

abbrev pub decreases-exports : goal.decreases-exports
decreases-exports g l = work_ahead l.walk
