use Rattle.std.proofs.Common.{◌∙◌}
use Rattle.std.proofs.Output.{has_written_of_eq}
use Rattle.mach_cli.proofs.Padding.{first_spaces}
use Rattle.mach_cli.proofs.spaces.SpacesDisplay.fmt.Goals as goal

pub returns-in-Some-clause-writes : goal.returns-in-Some-clause-writes
returns-in-Some-clause-writes g c plain ok =
    let (cut, long, within) = c.in-Some.ensures.cases in
    has_written_of_eq _ _ _ _ _ (cut ∙ first_spaces c.args.self.now.0 64 within) (c.write_str.ensures.writes plain ok)
