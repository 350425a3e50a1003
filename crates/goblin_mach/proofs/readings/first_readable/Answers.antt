use Rattle.std.proofs.Common.{◌∙◌, Some, sym, ap}
use Rattle.goblin_mach.specs.Readings.{first_of}
use Rattle.goblin_mach.proofs.CommandReadings.{stepped}
use Rattle.goblin_mach.proofs.readings.first_readable.Goals as goal

pub loop-command-preserved-in_default : goal.loop-command-preserved-in_default
loop-command-preserved-in_default g c =
    sym (ap first_of (stepped g.S.Subject.seen (g.S.Subject.reading c.args.subject.now) c.args.commands.now c.loop-command.command-index _
    c.loop-command-test.true c.read.result _ c.read.ensures c.in_default.is)) ∙ c.loop-command.invariant

pub loop-command-preserved : goal.loop-command-preserved
loop-command-preserved g c =
    sym (ap first_of (stepped g.S.Subject.seen (g.S.Subject.reading c.args.subject.now) c.args.commands.now c.loop-command.command-index _
    c.loop-command-test.true c.read.result _ c.read.ensures (c.in-Some.is ∙ ap Some c.in_default-found.is))) ∙ c.loop-command.invariant

pub returns-in-loop-command : goal.returns-in-loop-command
returns-in-loop-command g c =
    sym (ap first_of (stepped g.S.Subject.seen (g.S.Subject.reading c.args.subject.now) c.args.commands.now c.loop-command.command-index _
    c.loop-command-test.true c.read.result _ c.read.ensures (c.in-Some.is ∙ ap Some c.in-Ok.is))) ∙ c.loop-command.invariant
