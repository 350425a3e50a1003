use Rattle.mach_dyld.proofs.TrieNames.{◌≡◌, refl, ◌-◌, ◌++◌, ◌∷◌, [], arith, err_from_is_err_and, fault_of, branches_at, branch_of}
use Rattle.mach_dyld.proofs.BranchSteps.{goes_on, ends, is_done, begins}
use Rattle.mach_dyld.proofs.trie.node.test_branches.Goals as goal

pub loop-init : goal.loop-init
loop-init c = let all : c.args.count - 0 ≡ c.args.count = omega arith in
    ([], rw all (begins (branches_at c.args.bytes.now c.args.from c.args.count c.args.first)))

pub returns-in_err-after : goal.returns-in_err-after
returns-in_err-after c =
    let p = err_from_is_err_and c.from_residual.result c.from_residual.ensures.1 in
    rw (p.1, p.2) (ends _ _ _ _ _ _ _ c.loop.invariant.1 (fault_of c.in_err-after.field-0.0) c.loop-test.true c.in_err-after.ensures)

pub loop-preserved : goal.loop-preserved
loop-preserved c =
    let b = branch_of c.in_ok-after.field-0-0 in
    (c.loop.invariant.0 ++ b ∷ [], goes_on _ _ _ _ _ _ _ c.loop.invariant.1 b c.in_ok-after.after c.loop-test.true c.in_ok-after.ensures)

pub returns : goal.returns
returns c =
    let done = is_done _ _ _ _ _ _ _ c.loop.invariant.1 c.loop-test.false in
    rw done refl
