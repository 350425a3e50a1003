use Rattle.mach_cli.proofs.Joined.{value_found}
use Rattle.mach_cli.proofs.call.value_after.Goals as goal

pub returns-then-has : goal.returns-then-has
returns-then-has c = rw c.if-has.true (value_found c.args.option.now c.args.word.now c.strip_prefix.result c.strip_prefix.ensures.cases)
