use Rattle.mach_load.specs.Commands.{row_of}
use Rattle.mach_load.proofs.FrontRecords.{command_refused}
use Rattle.mach_load.proofs.variant.CommandVariant.quick.Goals as goal

pub returns-in-Some-clause-err : goal.returns-in-Some-clause-err
returns-in-Some-clause-err c =
    command_refused c.args.le c.args.rest.now c.requires.some c.in-Some.size (row_of c.args.header.cmd) c.in-Some.ensures.some.0 c.in-Some.ensures.some.1
