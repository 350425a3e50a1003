use Rattle.std.proofs.Common.{◌≡◌, ◌++◌, List}
use Rattle.std.specs.Io.KnownBytes.{Appends}
use Rattle.std.specs.List.{flat_map}
use Rattle.mach_signature.specs.Chosen.{SlotDirectory, directories_of}
use Rattle.mach_signature.specs.ChosenViews.{directories_left}
use Rattle.mach_signature.specs.FaultViews.{signed_view}
use Rattle.mach_signature.specs.SignViews.{signature_view}
use Rattle.machsign.specs.Blocks.{slot_directory_lines}
use Rattle.machsign.proofs.print.print_each_directory.Given as goal

abbrev pub invariant-directories : goal.invariant-directories
invariant-directories g l =
    (done : List SlotDirectory) × (directories_of (signature_view l.signed.signature) ≡ done ++ directories_left l.found-iterator)
    × Appends (g.O.Write.contents l.fn.out) (g.O.Write.contents l.out) (flat_map (slot_directory_lines (signed_view l.signed)) done)
