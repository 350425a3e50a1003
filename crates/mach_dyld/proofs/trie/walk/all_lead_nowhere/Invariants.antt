use Rattle.mach_dyld.proofs.TrieNames.{◌≡◌, ◌-◌, List, Branch, Ok, branches_at, branches_of}
use Rattle.mach_dyld.specs.Nowhere.{lead_nowhere}
use Rattle.mach_dyld.proofs.trie.walk.all_lead_nowhere.Given as goal

-- the branches that are left lead nowhere if all of them do
abbrev pub invariant-loop : goal.invariant-loop
invariant-loop l = (bs : List Branch)
    × (branches_at l.source.bytes.now l.source.from (l.fn.branches.left - l.counter) l.place ≡ Ok bs)
    × (lead_nowhere l.source.upto bs ≡ lead_nowhere l.source.upto (branches_of l.source.bytes.now l.source.from l.fn.branches))
