use Rattle.std.proofs.Common.{List, map, sym, subst, take}
use Rattle.mach_load.specs.Command.{Command}
use Rattle.mach_load.specs.Variants.{command_of}
use Rattle.goblin_mach.specs.OpenImage.{AreFields, AreTaken}
use Rattle.goblin_mach.specs.Readings.{read_of}
use Rattle.goblin_mach.specs.Subjects.{lossy_segment_by, libs_in}
use Rattle.goblin_mach.proofs.CommandReadings.{taken-next, taken-all}
use Rattle.goblin_mach.proofs.fields.Fields.read_lossy.Goals as goal

pub loop-command-init : goal.loop-command-init
loop-command-init g c = record {
  found = c.in_ok-fields.ensures.found c.args.ctx c.args.bytes.now (lossy_segment_by c.args.ctx c.args.bytes.now);
  names = c.new-names.ensures;
}

pub loop-command-preserved : goal.loop-command-preserved
loop-command-preserved g c =
    let reading = lossy_segment_by c.args.ctx c.args.bytes.now in
    let cs = take c.loop-command.command-index (map command_of c.args.commands.now) in
    record {
      found =
          subst (λ (ds : List Command). AreTaken c.args.ctx c.args.bytes.now reading ds c.take_readable.new.self)
          (sym (taken-next c.args.commands.now c.loop-command.command-index _ c.loop-command-test.true))
          (c.in_ok-take_readable.ensures.found cs c.loop-command.invariant.found);
      names = c.take_readable.ensures.bytes;
    }

pub returns-clause-found : goal.returns-clause-found
returns-clause-found g c =
    let bytes = c.args.bytes.now in
    let reading = lossy_segment_by c.args.ctx bytes in
    let cs = take c.loop-command.command-index (map command_of c.args.commands.now) in
    subst (λ (ds : List Command). AreFields c.args.ctx bytes (read_of reading ds) (libs_in bytes ds) ds c.put_name.new.self)
    (taken-all c.args.commands.now c.loop-command.command-index c.loop-command-test.false)
    (c.in_ok-put_name.ensures.found c.args.ctx bytes reading cs c.loop-command.invariant.found)
