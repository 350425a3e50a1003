-- The header of a load command (`mach-o/loader.h`): its fields, their values, and the line that prints it.
use Rattle.std.specs.Prelude.{ℕ, List, [], ◌∷◌, ◌++◌, codes}
use Rattle.std.specs.Fmt.{decimal}
use Rattle.mach_base.specs.Record.{Field, num, Value, number_is}
use Rattle.mach_records.specs.CommandName.{port_name}
use Rattle.mach_records.specs.declared.load_command_header.LoadCommandHeader.{LoadCommandHeader}

-- struct load_command
abbrev pub header_fields : List Field
header_fields = num 4 ∷ num 4 ∷ []

abbrev pub header_values : LoadCommandHeader → List Value
header_values h = number_is h.cmd ∷ number_is h.cmdsize ∷ []

-- the line that `Display` writes
abbrev pub header_text : LoadCommandHeader → List ℕ
header_text h = codes "LoadCommandHeader: " ++ port_name h.cmd ++ codes " size: " ++ decimal h.cmdsize
