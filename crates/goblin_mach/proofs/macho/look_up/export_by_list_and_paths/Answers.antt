use Rattle.goblin_mach.proofs.NamedExports.{first_of_exports, missing_export, listed_export}
use Rattle.goblin_mach.proofs.macho.look_up.export_by_list_and_paths.Goals as goal

pub returns : goal.returns
returns c = record { first = first_of_exports; missing = missing_export; listed = listed_export }
