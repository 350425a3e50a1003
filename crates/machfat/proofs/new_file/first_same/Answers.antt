use Rattle.std.proofs.Common.{◌≡◌, ◌+◌, suc, drop, drop-cons, sym, subst, ◌∙◌, arith}
use Rattle.std.proofs.lemmas.List.{drop_all}
use Rattle.machfat.specs.Same.{AreOther}
use Rattle.machfat.proofs.new_file.first_same.Goals as goal

pub paths-init : goal.paths-init
paths-init g c = λ all. all

pub paths-preserved : goal.paths-preserved
paths-preserved g c = λ rest.
    let paths = c.args.paths.now in
    let other = c.args.other.now in
    let i = c.paths.path-index in
    let next : i + 1 ≡ suc i = omega arith in
    let found = c.is_same_file.ensures in
    c.paths.invariant (subst (λ xs. AreOther xs other) (sym (drop-cons paths i _ c.paths-test.true))
    ((found.0, found.1, sym found.2 ∙ c.if-is_same_file.false), subst (λ n. AreOther (drop n paths) other) next rest))

pub returns : goal.returns
returns g c =
    c.paths.invariant (subst (λ xs. AreOther xs c.args.other.now)
    (sym (drop_all c.paths.path-index c.args.paths.now c.paths-test.false)) tt)
