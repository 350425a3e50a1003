use Rattle.std.proofs.Common.{◌≡◌, ◌++◌, [], length, map, take, drop}
use Rattle.mach_load.specs.Variants.{command_of}
use Rattle.mach_layout.specs.Commands.{commands_again}
use Rattle.mach_layout.proofs.Firsts.{AreFirsts}
use Rattle.mach_layout.proofs.commands.firsts.report_again.Given as goal

abbrev pub invariant-loop-command : goal.invariant-loop-command
invariant-loop-command g l =
    let before = map command_of (take l.command-index l.commands) in
    record {
      reported : l.faults.items ++ commands_again before (map command_of (drop l.command-index l.commands))
          ≡ l.fn.faults.items ++ commands_again [] (map command_of l.commands);
      firsts : AreFirsts l.firsts before;
      len : length l.firsts ≡ 25;
    }
