use Rattle.std.proofs.Common.{◌+◌, ap}
use Rattle.mach_load.specs.Variants.{command_of}
use Rattle.mach_records.specs.LoadCommandHeader.{header_values}
use Rattle.mach_load.proofs.CommandSizes.{cmdsize_is}
use Rattle.mach_load.proofs.load_command.LoadCommand.parse.Goals as goal

pub returns-clause-moved : goal.returns-clause-moved
returns-clause-moved c =
    let header = c.in_ok-header.header in
    let command = command_of (record { offset = c.args.offset.now; command = c.in_ok-command.command }) in
    ap (λ n. c.args.offset.now + n)
    (cmdsize_is c.args.le c.args.bytes.now c.args.offset.now header.cmd (header_values header) command c.in_ok-header.ensures c.in_ok-command.ensures)
