use Rattle.std.proofs.Common.{List, subst}
use Rattle.mach_load.specs.Command.{Command}
use Rattle.goblin_mach.specs.Image.{LossyFault, LossyOpensAs}
use Rattle.goblin_mach.specs.Readings.{read_of}
use Rattle.goblin_mach.specs.Subjects.{lossy_segment_by}
use Rattle.goblin_mach.proofs.Exits.{exit_in}
use Rattle.goblin_mach.proofs.OpeningImages.{same_commands, made_fields}
use Rattle.goblin_mach.proofs.macho.MachO.open_lossy.Goals as goal

pub returns-in_err-opened-clause-refused : goal.returns-in_err-opened-clause-refused
returns-in_err-opened-clause-refused g c =
    exit_in _ (LossyFault c.args.bytes.now c.args.offset) _ _ c.from_residual-in_err-opened.ensures.1 (λ f fault. fault) c.in_err-opened.ensures.refused

pub returns-clause-opened : goal.returns-clause-opened
returns-clause-opened g c =
    let bytes = c.args.bytes.now in
    let o = c.args.offset in
    let x = c.in_ok-opened.opened in
    let was = c.in_ok-opened.ensures in
    let read = rw c.deref.ensures.value at c.in_ok-fields.ensures in
    let same = same_commands bytes o x c.in_ok-fields.fields c.of.result c.of.ensures in
    record {
      ctx = x.ctx;
      opens = subst (λ (cs : List Command). LossyOpensAs bytes o x.ctx cs) same was.opened;
      fields = made_fields bytes o x c.in_ok-fields.fields c.of.result c.of.ensures (read_of (lossy_segment_by x.ctx bytes)) was.header was.entry read.found;
    }
