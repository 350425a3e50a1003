use Rattle.std.proofs.Common.{◌≡◌, ◌∙◌, rules}
use Rattle.mach_cli.specs.Fields.{spaces}
use Rattle.mach_cli.proofs.Padding.{first_spaces}
use Rattle.mach_cli.proofs.spaces.print_spaces.Goals as goal

pub returns-in-Some : goal.returns-in-Some
returns-in-Some g c =
    let (cut, long, within) = c.in-Some.ensures.cases in
    let text : c.in-Some.blanks.now ≡ spaces c.args.count = cut ∙ first_spaces c.args.count 64 within in
    rw (← text) (search rules)
