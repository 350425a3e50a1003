use Rattle.std.proofs.Common.{List, map, sym, subst, take}
use Rattle.mach_load.specs.Command.{Command}
use Rattle.mach_load.specs.Variants.{command_of}
use Rattle.goblin_mach.specs.Image.{AllReadable, IsUnreadable}
use Rattle.goblin_mach.specs.OpenImage.{AreFields, AreTaken}
use Rattle.goblin_mach.specs.Readings.{read_of}
use Rattle.goblin_mach.specs.Subjects.{segment_by, libs_in}
use Rattle.goblin_mach.proofs.Exits.{exit_in}
use Rattle.goblin_mach.proofs.FieldsTaken.{none_unreadable, readable_more, unreadable_among}
use Rattle.goblin_mach.proofs.CommandReadings.{among_here, taken-next, taken-all}
use Rattle.goblin_mach.proofs.fields.Fields.read.Goals as goal

pub loop-command-init : goal.loop-command-init
loop-command-init g c = record {
  found = c.in_ok-fields.ensures.found c.args.ctx c.args.bytes.now (segment_by c.args.ctx c.args.bytes.now);
  all = none_unreadable c.args.ctx c.args.bytes.now;
  names = c.new-names.ensures;
}

pub loop-command-preserved : goal.loop-command-preserved
loop-command-preserved g c =
    let bytes = c.args.bytes.now in
    let reading = segment_by c.args.ctx bytes in
    let cs = take c.loop-command.command-index (map command_of c.args.commands.now) in
    let next = sym (taken-next c.args.commands.now c.loop-command.command-index _ c.loop-command-test.true) in
    record {
      found =
          subst (λ (ds : List Command). AreTaken c.args.ctx bytes reading ds c.take.new.self) next
          (c.in_ok-take.ensures.found cs c.loop-command.invariant.found);
      all = subst (AllReadable c.args.ctx bytes) next (readable_more c.args.ctx bytes cs _ c.loop-command.invariant.all c.in_ok-take.ensures.all);
      names = c.take.ensures.bytes;
    }

pub returns-in_err-take-clause-refused : goal.returns-in_err-take-clause-refused
returns-in_err-take-clause-refused g c =
    let bytes = c.args.bytes.now in
    let cs = map command_of c.args.commands.now in
    let here = among_here c.args.commands.now c.loop-command.command-index _ c.loop-command-test.true in
    exit_in _ (IsUnreadable c.args.ctx bytes cs) _ _ c.from_residual-in_err-take.ensures.1 (λ f u. unreadable_among c.args.ctx bytes _ cs f here u)
    c.in_err-take.ensures.refused

pub returns-clause-found : goal.returns-clause-found
returns-clause-found g c =
    let bytes = c.args.bytes.now in
    let reading = segment_by c.args.ctx bytes in
    let cs = take c.loop-command.command-index (map command_of c.args.commands.now) in
    subst (λ (ds : List Command). AreFields c.args.ctx bytes (read_of reading ds) (libs_in bytes ds) ds c.put_name.new.self)
    (taken-all c.args.commands.now c.loop-command.command-index c.loop-command-test.false)
    (c.in_ok-put_name.ensures.found c.args.ctx bytes reading cs c.loop-command.invariant.found)

pub returns-clause-all : goal.returns-clause-all
returns-clause-all g c =
    subst (AllReadable c.args.ctx c.args.bytes.now) (taken-all c.args.commands.now c.loop-command.command-index c.loop-command-test.false)
    c.loop-command.invariant.all
