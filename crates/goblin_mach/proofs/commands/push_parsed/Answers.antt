use Rattle.mach_load.specs.Command.{command_at}
use Rattle.goblin_mach.proofs.Exits.{exit_fails}
use Rattle.goblin_mach.proofs.commands.push_parsed.Goals as goal

pub returns-clause-pushed : goal.returns-clause-pushed
returns-clause-pushed g c = record {
  command = c.in_ok-parse.field-0;
  items = c.in_ok-push.ensures.items;
  there = c.in_ok-parse.ensures.found;
  moved = c.in_ok-parse.ensures.moved;
}

pub returns-in_err-parse-clause-refused : goal.returns-in_err-parse-clause-refused
returns-in_err-parse-clause-refused g c =
    exit_fails _ _ c.from_residual.ensures.1 (command_at c.args.le c.args.bytes.now c.args.offset.now) c.in_err-parse.ensures.found
