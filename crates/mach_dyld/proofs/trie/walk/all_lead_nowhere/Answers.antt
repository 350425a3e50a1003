use Rattle.mach_dyld.proofs.TrieNames.{◌≡◌, ◌-◌, ◌+◌, ◌∙◌, ℕ, Ok, refl, sym, ap, subst, arith, branches_at, branches_of, branch_of}
use Rattle.mach_dyld.specs.Nowhere.{lead_nowhere}
use Rattle.mach_dyld.proofs.BranchAgain.{first_branch, next_left, no_branch, is_ok}
use Rattle.mach_dyld.proofs.Nowhere.{first_nowhere, first_leads}
use Rattle.mach_dyld.proofs.trie.walk.all_lead_nowhere.Goals as goal

pub loop-init : goal.loop-init
loop-init c =
    let all : c.args.branches.left - 0 ≡ c.args.branches.left = omega arith in
    (branches_of c.args.source.now.bytes.now c.args.source.now.from c.args.branches, rw all c.requires, refl)

pub read_again-after-requires : goal.read_again-after-requires
read_again-after-requires c =
    let s = c.args.source.now in
    is_ok (first_branch s.bytes.now s.from (c.args.branches.left - c.loop.counter) c.loop.place c.loop.invariant.0 (omega arith) c.loop.invariant.1).1

pub loop-preserved : goal.loop-preserved
loop-preserved c =
    let s = c.args.source.now in
    let left : ℕ = c.args.branches.left - c.loop.counter in
    let next = next_left s.bytes.now s.from left c.loop.place c.loop.invariant.0 (branch_of c.read_again-after.result.0) c.read_again-after.result.1
    (omega arith) c.loop.invariant.1 c.read_again-after.ensures in
    let less : left - 1 ≡ c.args.branches.left - (c.loop.counter + 1) = omega arith in (
      next.0,
      subst (λ (n : ℕ). branches_at s.bytes.now s.from n c.read_again-after.result.1 ≡ Ok next.0) less next.2,
      first_nowhere s.upto (branch_of c.read_again-after.result.0) c.loop.invariant.0 next.0 next.1 c.if-branch-source.false ∙ c.loop.invariant.2,
    )

pub returns-then-branch-source : goal.returns-then-branch-source
returns-then-branch-source c =
    let s = c.args.source.now in
    let left : ℕ = c.args.branches.left - c.loop.counter in
    let next = next_left s.bytes.now s.from left c.loop.place c.loop.invariant.0 (branch_of c.read_again-after.result.0) c.read_again-after.result.1
    (omega arith) c.loop.invariant.1 c.read_again-after.ensures in
    sym (first_leads s.upto (branch_of c.read_again-after.result.0) c.loop.invariant.0 next.0 next.1 c.if-branch-source.true) ∙ c.loop.invariant.2

pub returns : goal.returns
returns c =
    let s = c.args.source.now in
    let none = no_branch s.bytes.now s.from (c.args.branches.left - c.loop.counter) c.loop.place c.loop.invariant.0 (omega arith) c.loop.invariant.1 in
    sym (ap (lead_nowhere s.upto) none) ∙ c.loop.invariant.2
