use Rattle.std.proofs.Common.{◌≡◌, ◌∙◌, ◌-◌, ap, arith, get_or}
use Rattle.mach_cli.proofs.ShortNames.{last_from}
use Rattle.mach_cli.proofs.origins.last_component.Goals as goal

pub returns-in-Some : goal.returns-in-Some
returns-in-Some c =
    let path = c.args.path.now in
    let cut = c.in-Some.ensures.cases in
    let slash = cut.2.1 in
    let place : cut.1 - 1 ≡ cut.0 = omega (arith, slash.ends) in
    cut.4
    ∙ last_from path cut.1 (omega (arith, cut.7)) cut.2.0 (λ some. ap (λ k. get_or path k 0) place ∙ slash.byte (omega arith))

pub returns-in-None : goal.returns-in-None
returns-in-None c = last_from c.args.path.now 0 (omega arith) c.in-None.ensures.cases (λ none. omega (arith, none))
