use Rattle.std.proofs.Common.{List, arith, subst}
use Rattle.mach_load.specs.Command.{Command}
use Rattle.goblin_mach.specs.Image.{AllReadable, ImageFault, HasFront, LossyOpensAs, of_lossy, unreadable}
use Rattle.goblin_mach.specs.OpenImage.{commands_of}
use Rattle.goblin_mach.specs.Readings.{read_of}
use Rattle.goblin_mach.specs.Subjects.{segment_by}
use Rattle.goblin_mach.proofs.Exits.{exit_in}
use Rattle.goblin_mach.proofs.OpeningImages.{same_commands, made_fields}
use Rattle.goblin_mach.proofs.macho.MachO.open.Goals as goal

pub returns-in_err-opened-clause-refused : goal.returns-in_err-opened-clause-refused
returns-in_err-opened-clause-refused g c =
    exit_in _ (ImageFault c.args.bytes.now c.args.offset) _ _ c.from_residual-in_err-opened.ensures.1 of_lossy c.in_err-opened.ensures.refused

pub returns-in_err-fields-clause-refused : goal.returns-in_err-fields-clause-refused
returns-in_err-fields-clause-refused g c =
    let opens = c.in_ok-opened.ensures.opened in
    let x = c.in_ok-opened.opened in
    let front : HasFront c.args.bytes.now c.args.offset x.ctx (commands_of x) =
    record { header = opens.header; counts = opens.counts; chain = opens.chain.chain; count = omega (arith, opens.chain.count) } in
    let unread = rw c.deref.ensures.value at c.in_err-fields.ensures.refused in
    exit_in _ (ImageFault c.args.bytes.now c.args.offset) _ _ c.from_residual-in_err-fields.ensures.1 (λ f u. unreadable x.ctx _ f front u) unread

pub returns-clause-opened : goal.returns-clause-opened
returns-clause-opened g c =
    let bytes = c.args.bytes.now in
    let o = c.args.offset in
    let x = c.in_ok-opened.opened in
    let was = c.in_ok-opened.ensures in
    let read = rw c.deref.ensures.value at c.in_ok-fields.ensures in
    let same = same_commands bytes o x c.in_ok-fields.fields c.of.result c.of.ensures in
    record {
      ctx = x.ctx;
      opens = record {
        lossy = subst (λ (cs : List Command). LossyOpensAs bytes o x.ctx cs) same was.opened;
        readable = subst (λ (cs : List Command). AllReadable x.ctx bytes cs) same read.all;
      };
      fields = made_fields bytes o x c.in_ok-fields.fields c.of.result c.of.ensures (read_of (segment_by x.ctx bytes)) was.header was.entry read.found;
    }
