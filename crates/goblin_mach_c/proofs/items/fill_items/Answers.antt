use Rattle.std.proofs.Common.{◌∙◌, inl, refl, sym, length-set, arith}
use Rattle.goblin_mach_c.proofs.Said.{all_said, none_said, rest_said, said_more}
use Rattle.goblin_mach_c.proofs.items.fill_items.Goals as goal

pub loop-k-preserved : goal.loop-k-preserved
loop-k-preserved g c =
    let inside = c.loop-k-test.true in
    let end = c.loop-k.auto.k-end in
    let long = c.loop-k.invariant.1 in (
      λ x over. (
          let before = c.loop-k.invariant.0 x over in
          let first = c.in-Some.ensures.says x before.1 in (
            said_more _ _ _ _ _ _ first.0 c.in-Some.row _ before.0 first.1 first.2 (omega (arith, inside, end, long)),
            c.in-Some.ensures.over x before.1,
          )),
      length-set c.loop-k.out c.loop-k.k c.in-Some.row ∙ long,
    )

pub returns-in_default-clause-filled : goal.returns-in_default-clause-filled
returns-in_default-clause-filled g c = λ x over.
    let inside = c.loop-k-test.true in
    let before = c.loop-k.invariant.0 x over in
    all_said _ _ _ _ _ _ before.0 (omega (arith, inside)) (inl (c.in_default.ensures.says x before.1).0)

pub returns-in_default-clause-rest : goal.returns-in_default-clause-rest
returns-in_default-clause-rest g c = λ x over.
    let before = c.loop-k.invariant.0 x over in
    let none = c.in_default.ensures.says x before.1 in
    none.1 ∙ sym none.0 ∙ rest_said _ _ _ _ _ _ before.0

pub returns-in_default-clause-over : goal.returns-in_default-clause-over
returns-in_default-clause-over g c = λ x over. c.in_default.ensures.over x (c.loop-k.invariant.0 x over).1

pub loop-k-init : goal.loop-k-init
loop-k-init g c = (λ x over. (none_said _ _ _, over), refl)
