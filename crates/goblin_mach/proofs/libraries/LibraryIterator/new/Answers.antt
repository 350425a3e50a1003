use Rattle.std.proofs.Common.{List, map, ap, arith, ◌∙◌}
use Rattle.std.proofs.lemmas.List.{length-map}
use Rattle.std.specs.Slice.Iter.{iter_rest}
use Rattle.mach_load.specs.Variants.{command_of}
use Rattle.mach_load.specs.declared.load_command.LoadCommand.{LoadCommand}
use Rattle.goblin_mach.specs.Libraries.{libraries_in}
use Rattle.goblin_mach.proofs.LibrariesRead.{counted_commands}
use Rattle.goblin_mach.proofs.libraries.LibraryIterator.new.Goals as goal

pub returns : goal.returns
returns c =
    let bytes = c.args.bytes.now in
    let rest = iter_rest c.iter.result in
    let few = c.iter.ensures.bound in
    counted_commands c.args.le bytes (map command_of rest) (omega (arith, few, length-map rest command_of))
    ∙ ap (λ (xs : List LoadCommand). libraries_in c.args.le bytes (map command_of xs)) c.iter.ensures.rest
