use Rattle.std.proofs.Common.{◌∙◌, map, take, sym, ap}
use Rattle.mach_load.specs.Variants.{command_of}
use Rattle.goblin_mach.specs.Readings.{read_of, last_of}
use Rattle.goblin_mach.proofs.CommandReadings.{taken-next, last_kept}
use Rattle.goblin_mach.proofs.fixups.last_readable.Goals as goal

pub loop-command-preserved : goal.loop-command-preserved
loop-command-preserved g c =
    let reading = g.S.Subject.reading c.args.subject.now in
    let cs = take c.loop-command.command-index (map command_of c.args.commands.now) in
    last_kept reading cs _ _ _ c.loop-command.invariant c.put_readable.ensures
    ∙ sym (ap (λ ds. last_of (read_of reading ds)) (taken-next c.args.commands.now c.loop-command.command-index _ c.loop-command-test.true))
