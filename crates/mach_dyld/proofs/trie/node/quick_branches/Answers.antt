use Rattle.mach_dyld.proofs.TrieNames.{branch_of}
use Rattle.mach_dyld.proofs.BranchSteps.{first_bad, rest_bad, all_good}
use Rattle.mach_dyld.proofs.trie.node.quick_branches.Goals as goal

pub returns-in_default-clause-value : goal.returns-in_default-clause-value
returns-in_default-clause-value c = first_bad _ _ _ _ c.requires c.in_default.ensures

pub returns-then-quick_test-clause-value : goal.returns-then-quick_test-clause-value
returns-then-quick_test-clause-value c =
    all_good _ _ _ _ (branch_of c.in-Some.first) _ _ c.requires c.in-Some.ensures (c.quick_test.ensures.yes c.if-quick_test.true)

pub returns-then-quick_test-clause-readable : goal.returns-then-quick_test-clause-readable
returns-then-quick_test-clause-readable c = c.quick_test.ensures.yes c.if-quick_test.true

pub returns-else-quick_test-clause-value : goal.returns-else-quick_test-clause-value
returns-else-quick_test-clause-value c =
    rest_bad _ _ _ _ (branch_of c.in-Some.first) _ c.requires c.in-Some.ensures (c.quick_test.ensures.no c.if-quick_test.false)
