use Rattle.mach_dyld.proofs.TrieNames.{◌≡◌, ◌<◌, refl, sym, arith, inl, inr, length, IsBetween}
use Rattle.std.proofs.Math.Logic.{∥∥₁_elim}
use Rattle.std.proofs.Math.Bridge.{le_prop}
use Rattle.std.proofs.Props.{props}
use Rattle.mach_dyld.proofs.WalkTurns as turn
use Rattle.mach_dyld.proofs.WalkTurns.{popped, emptied}
use Rattle.mach_dyld.proofs.BranchAgain.{is_ok}
use Rattle.mach_dyld.proofs.trie.walk.Walker.go_on.Goals as goal
use Rattle.mach_dyld.proofs.trie.walk.Walker.go_on.Goals.{then-self-eq0+in-Some, else-self-eq0}

pub returns-in-None-clause-found : goal.returns-in-None-clause-found
returns-in-None-clause-found g c = λ found n at.
    let zero : length c.args.self.now.stack.items ≡ 0 = omega (arith, c.args.self.now.stack.ok.0, c.in-None.ensures.cases.0) in
    inr (refl, turn.all_listed (turn.moved refl refl (sym (emptied c.args.self.now.stack.items zero)) at.1) (omega arith))

pub read_again-after-requires : goal.read_again-after-requires
read_again-after-requires g c = ∥∥₁_elim c.requires.between (search props) (λ r. elim c.if-self-eq0.branch [
  | then-self-eq0+in-Some w ↦ (
      let pop = popped c.args.self.now.stack.items w.pop.new.self.items w.in-Some.below w.in-Some.ensures.items in
      let k = turn.closed (turn.moved refl refl (sym pop) r.2.1) (omega arith) in
      rw w.self-is (is_ok (turn.is_readable k.0 k.1).1))
  | else-self-eq0 w ↦ rw w.self-is (is_ok (turn.is_readable r.2.1 (omega arith)).1)
])

pub overflow_sub-self : goal.overflow_sub-self
overflow_sub-self g c = ∥∥₁_elim c.requires.between le_prop (λ r. elim c.if-self-eq0.branch [
  | then-self-eq0+in-Some w ↦ (
      let pop = popped c.args.self.now.stack.items w.pop.new.self.items w.in-Some.below w.in-Some.ensures.items in
      let k = turn.closed (turn.moved refl refl (sym pop) r.2.1) (omega arith) in
      rw w.self-is (omega arith))
  | else-self-eq0 w ↦ rw w.self-is (omega arith)
])

pub returns-clause-found : goal.returns-clause-found
returns-clause-found g c = λ found n at.
    let k : IsBetween found n c.if-self-eq0.self × (0 < c.if-self-eq0.self.top.left) = elim c.if-self-eq0.branch [
      | then-self-eq0+in-Some w ↦ (
          let pop = popped c.args.self.now.stack.items w.pop.new.self.items w.in-Some.below w.in-Some.ensures.items in
          let k = turn.closed (turn.moved refl refl (sym pop) at.1) (omega arith) in
          rw w.self-is ((at.0, k.0, at.2, at.3), k.1))
      | else-self-eq0 w ↦ rw w.self-is (at, omega arith)
    ] in
    inl (k.0.0, turn.goes_on k.0.1 k.1 c.read_again-after.ensures, k.0.2, k.0.3)
