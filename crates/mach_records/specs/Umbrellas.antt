-- Umbrella frameworks and libraries, and their parts (`mach-o/loader.h`).
-- For each record: its fields in order, and their values.
use Rattle.std.specs.Prelude.{List, [], ◌∷◌}
use Rattle.mach_base.specs.Record.{Field, num, Value, number_is}
use Rattle.mach_records.specs.declared.umbrellas.SubFrameworkCommand.{SubFrameworkCommand}
use Rattle.mach_records.specs.declared.umbrellas.SubClientCommand.{SubClientCommand}
use Rattle.mach_records.specs.declared.umbrellas.SubUmbrellaCommand.{SubUmbrellaCommand}
use Rattle.mach_records.specs.declared.umbrellas.SubLibraryCommand.{SubLibraryCommand}

-- struct sub_framework_command
abbrev pub sub_framework_command_fields : List Field
sub_framework_command_fields = num 4 ∷ num 4 ∷ num 4 ∷ []

abbrev pub sub_framework_command_values : SubFrameworkCommand → List Value
sub_framework_command_values r = number_is r.cmd ∷ number_is r.cmdsize ∷ number_is r.umbrella ∷ []

-- struct sub_client_command
abbrev pub sub_client_command_fields : List Field
sub_client_command_fields = num 4 ∷ num 4 ∷ num 4 ∷ []

abbrev pub sub_client_command_values : SubClientCommand → List Value
sub_client_command_values r = number_is r.cmd ∷ number_is r.cmdsize ∷ number_is r.client ∷ []

-- struct sub_umbrella_command
abbrev pub sub_umbrella_command_fields : List Field
sub_umbrella_command_fields = num 4 ∷ num 4 ∷ num 4 ∷ []

abbrev pub sub_umbrella_command_values : SubUmbrellaCommand → List Value
sub_umbrella_command_values r =
    number_is r.cmd ∷ number_is r.cmdsize ∷ number_is r.sub_umbrella ∷ []

-- struct sub_library_command
abbrev pub sub_library_command_fields : List Field
sub_library_command_fields = num 4 ∷ num 4 ∷ num 4 ∷ []

abbrev pub sub_library_command_values : SubLibraryCommand → List Value
sub_library_command_values r = number_is r.cmd ∷ number_is r.cmdsize ∷ number_is r.sub_library ∷ []
