use Rattle.std.proofs.Common.{◌∙◌, Some, sym, ap, map, refl}
use Rattle.mach_load.specs.Variants.{command_of}
use Rattle.goblin_mach.specs.Readings.{IsUnread}
use Rattle.goblin_mach.proofs.CommandReadings.{stepped, all_stepped, missed, first_or, first_kept, first_met}
use Rattle.goblin_mach.proofs.Exits.{exit_reported}
use Rattle.goblin_mach.proofs.readings.first_read.Goals as goal

pub loop-command-preserved-in_default : goal.loop-command-preserved-in_default
loop-command-preserved-in_default g c =
    record {
      found =
          sym (ap (first_or _) (stepped g.S.Subject.seen (g.S.Subject.reading c.args.subject.now) c.args.commands.now c.loop-command.command-index _
          c.loop-command-test.true c.read.result _ c.read.ensures c.in_default.is)) ∙ c.loop-command.invariant.found;
      all =
          λ rest. c.loop-command.invariant.all (all_stepped g.S.Subject.seen (g.S.Subject.reading c.args.subject.now) c.args.commands.now
          c.loop-command.command-index _ c.loop-command-test.true c.read.result _ c.read.ensures c.in_default.is tt rest);
    }

pub returns-in_err-value-clause-refused : goal.returns-in_err-value-clause-refused
returns-in_err-value-clause-refused g c =
    let reading = g.S.Subject.reading c.args.subject.now in
    exit_reported (IsUnread reading (map command_of c.args.commands.now)) _ _ c.from_residual.ensures.1
    (missed g.S.Subject.seen reading c.args.commands.now c.loop-command.command-index _ c.loop-command-test.true c.read.result _ c.read.ensures
    (c.in-Some.is ∙ ap Some c.in_err-value.was) _ refl)

pub loop-command-preserved-then-is_some : goal.loop-command-preserved-then-is_some
loop-command-preserved-then-is_some g c =
    record {
      found =
          sym (first_kept g.S.Subject.seen c.loop-command.first _ _ (sym c.is_some.ensures ∙ c.if-is_some.true))
          ∙ sym (ap (first_or _) (stepped g.S.Subject.seen (g.S.Subject.reading c.args.subject.now) c.args.commands.now c.loop-command.command-index _
          c.loop-command-test.true c.read.result _ c.read.ensures (c.in-Some.is ∙ ap Some c.in_ok-value.was))) ∙ c.loop-command.invariant.found;
      all =
          λ rest. c.loop-command.invariant.all (all_stepped g.S.Subject.seen (g.S.Subject.reading c.args.subject.now) c.args.commands.now
          c.loop-command.command-index _ c.loop-command-test.true c.read.result _ c.read.ensures (c.in-Some.is ∙ ap Some c.in_ok-value.was) refl rest);
    }

pub loop-command-preserved : goal.loop-command-preserved
loop-command-preserved g c =
    record {
      found =
          sym (first_met g.S.Subject.seen c.loop-command.first _ _ (sym c.is_some.ensures ∙ c.if-is_some.false))
          ∙ sym (ap (first_or _) (stepped g.S.Subject.seen (g.S.Subject.reading c.args.subject.now) c.args.commands.now c.loop-command.command-index _
          c.loop-command-test.true c.read.result _ c.read.ensures (c.in-Some.is ∙ ap Some c.in_ok-value.was))) ∙ c.loop-command.invariant.found;
      all =
          λ rest. c.loop-command.invariant.all (all_stepped g.S.Subject.seen (g.S.Subject.reading c.args.subject.now) c.args.commands.now
          c.loop-command.command-index _ c.loop-command-test.true c.read.result _ c.read.ensures (c.in-Some.is ∙ ap Some c.in_ok-value.was) refl rest);
    }
