use Rattle.std.proofs.Common.{◌≡◌, ◌-◌, ◌++◌, ◌∷◌, [], subst, sym, arith}
use Rattle.mach_dyld.specs.Trie.{Branch}
use Rattle.mach_dyld.specs.Nodes.{branches_at}
use Rattle.mach_dyld.specs.LookUpState.{Goes}
use Rattle.mach_dyld.specs.Views.{branch_of, source_trie}
use Rattle.mach_dyld.proofs.BranchSteps as step
use Rattle.mach_dyld.proofs.LookUpWays.{begins, stays, takes}
use Rattle.mach_dyld.proofs.trie.look_up.quick_way.Goals as goal
use Rattle.mach_dyld.proofs.trie.look_up.quick_way.Goals.{then-leads+in-Nowhere, then-leads+in_default, else-leads}

pub loop-init : goal.loop-init
loop-init c =
    let all : c.args.count - 0 ≡ c.args.count = omega arith in (
      [],
      rw all (step.begins (branches_at c.args.source.now.bytes.now c.args.source.now.from c.args.count c.args.first)),
      begins (source_trie c.args.source.now) c.args.rest.now,
    )

pub loop-preserved : goal.loop-preserved
loop-preserved c =
    let front = c.loop.invariant.0 in
    let b : Branch = branch_of c.in_ok-branch.branch in
    let goes = c.loop.invariant.2 in (
      front ++ b ∷ [],
      step.goes_on _ _ _ _ _ _ _ c.loop.invariant.1 b c.in_ok-branch.after c.loop-test.true c.in_ok-branch.ensures,
      elim c.if-leads.branch [
        | then-leads+in-Nowhere w ↦ subst (Goes (source_trie c.args.source.now) c.args.rest.now (front ++ b ∷ [])) (sym w.way'-is)
            (takes (source_trie c.args.source.now) c.args.rest.now front b
            (subst (Goes (source_trie c.args.source.now) c.args.rest.now front) w.in-Nowhere.is goes)
            (c.leads.ensures.yes w.if-leads.true))
        | then-leads+in_default w ↦ subst (Goes (source_trie c.args.source.now) c.args.rest.now (front ++ b ∷ [])) (sym w.way'-is) tt
        | else-leads w ↦ subst (Goes (source_trie c.args.source.now) c.args.rest.now (front ++ b ∷ [])) (sym w.way'-is)
            (stays (source_trie c.args.source.now) c.args.rest.now front b c.loop.way goes (c.leads.ensures.no w.if-leads.false))
      ],
    )

pub returns : goal.returns
returns c = (c.loop.invariant.0, step.is_done _ _ _ _ _ _ _ c.loop.invariant.1 c.loop-test.false, c.loop.invariant.2)
