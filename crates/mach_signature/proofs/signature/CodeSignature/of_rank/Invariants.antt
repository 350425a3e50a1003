use Rattle.std.proofs.Common.{◌≡◌, ◌++◌, length}
use Rattle.std.specs.Prelude.{option_to_list}
use Rattle.std.specs.Option.{option_map}
use Rattle.mach_signature.specs.Chosen.{filter_rank, readable_directories, directories_of}
use Rattle.mach_signature.specs.ChosenViews.{directories_left}
use Rattle.mach_signature.specs.DirectoryViews.{directory_view}
use Rattle.mach_signature.specs.SignViews.{signature_view}
use Rattle.mach_signature.proofs.signature.CodeSignature.of_rank.Given as goal

abbrev pub invariant-directories : goal.invariant-directories
invariant-directories l =
    filter_rank l.rank (readable_directories (directories_of (signature_view l.self)))
    ≡ option_to_list (option_map directory_view l.found) ++ filter_rank l.rank (readable_directories (directories_left l.left))

abbrev pub decreases-directories : goal.decreases-directories
decreases-directories l = length (directories_left l.left)
