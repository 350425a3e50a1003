use Rattle.std.proofs.Common.{◌∙◌, ap, arith}
use Rattle.mach_fat_writer.specs.Changes.{others_among}
use Rattle.mach_fat_writer.specs.Unfit.{if_fit}
use Rattle.mach_fat_writer.proofs.Replaced.{others_are}
use Rattle.mach_fat_writer.proofs.changed.others_in.Goals as goal

pub returns : goal.returns
returns g c =
    let entries = c.in_ok-entries.entries.items in
    ap (if_fit (others_among c.args.index)) c.in_ok-entries.ensures
    ∙ others_are c.args.index entries c.remove.new.self.items (omega (arith, c.if-index-len.false, c.len.ensures)) c.remove.ensures.items
