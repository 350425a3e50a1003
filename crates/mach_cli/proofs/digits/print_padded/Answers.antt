use Rattle.std.proofs.Common.{arith}
use Rattle.std.proofs.lemmas.Grind.{common_steps}
use Rattle.mach_cli.proofs.Padding.{padded_after}
use Rattle.mach_cli.proofs.digits.print_padded.Goals as goal

pub returns : goal.returns
returns g c = rw (padded_after c.args.width c.args.digits.now) (grind (arith, common_steps))
