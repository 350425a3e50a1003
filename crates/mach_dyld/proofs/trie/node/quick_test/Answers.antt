use Rattle.mach_dyld.proofs.TrieNames.{◌≡◌, refl, ◌-◌, ◌++◌, ◌∷◌, [], arith, branches_at, branch_of}
use Rattle.mach_dyld.proofs.BranchSteps.{goes_on, ends, is_done, begins, the_fault}
use Rattle.mach_dyld.proofs.trie.node.quick_test.Goals as goal

pub loop-init : goal.loop-init
loop-init c = let all : c.args.count - 0 ≡ c.args.count = omega arith in
    ([], rw all (begins (branches_at c.args.bytes.now c.args.from c.args.count c.args.first)))

pub loop-preserved : goal.loop-preserved
loop-preserved c =
    let b = branch_of c.in-Some.field-0-0 in
    (c.loop.invariant.0 ++ b ∷ [], goes_on _ _ _ _ _ _ _ c.loop.invariant.1 b c.in-Some.after c.loop-test.true c.in-Some.ensures)

pub returns-in-None-clause-no : goal.returns-in-None-clause-no
returns-in-None-clause-no c =
    let f = the_fault _ c.in-None.ensures in
    λ _. rw (ends _ _ _ _ _ _ _ c.loop.invariant.1 f.0 c.loop-test.true f.1) refl

pub returns-clause-yes : goal.returns-clause-yes
returns-clause-yes c =
    let done = is_done _ _ _ _ _ _ _ c.loop.invariant.1 c.loop-test.false in
    λ _. rw done refl
