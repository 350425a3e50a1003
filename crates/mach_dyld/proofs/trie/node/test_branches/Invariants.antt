use Rattle.mach_dyld.proofs.TrieNames.{◌≡◌, ◌-◌, List, Branch, branches_at}
use Rattle.mach_dyld.proofs.BranchSteps.{with_front}
use Rattle.mach_dyld.proofs.trie.node.test_branches.Given as goal

abbrev pub invariant-loop : goal.invariant-loop
invariant-loop l = (front : List Branch)
    × (with_front front (branches_at l.bytes l.from (l.count - l.counter) l.place) ≡ branches_at l.bytes l.from l.count l.first)
