use Rattle.std.proofs.Common.{◌∙◌, ap}
use Rattle.mach_load.specs.Variants.{command_of}
use Rattle.goblin_mach_c.specs.PartRows.{attributes_number}
use Rattle.goblin_mach_c.proofs.LibraryRows.{row_there}
use Rattle.goblin_mach_c.proofs.libraries.LibrariesPick.pick.Goals as goal

pub returns-in-Ok : goal.returns-in-Ok
returns-in-Ok c =
    row_there c.args.self.now.le c.args.self.now.bytes.now (command_of c.args.command.now) c.in_ok-kind.kind c.in_ok-kind.dylib c.in-Ok.name.now _ _ _
    c.in_ok-kind.ensures c.saturating_add-place.ensures c.in-Ok.ensures.text c.kind_number.ensures
    (c.attributes_number.ensures ∙ ap attributes_number c.of.ensures)
