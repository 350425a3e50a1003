-- Libraries that an image is or uses (`mach-o/loader.h`).
-- For each record: its fields in order, and their values.
use Rattle.std.specs.Prelude.{List, [], ◌∷◌}
use Rattle.mach_base.specs.Record.{Field, num, Value, number_is}
use Rattle.mach_records.specs.declared.libraries.Dylib.{Dylib}
use Rattle.mach_records.specs.declared.libraries.DylibCommand.{DylibCommand}
use Rattle.mach_records.specs.declared.libraries.PreboundDylibCommand.{PreboundDylibCommand}
use Rattle.mach_records.specs.declared.libraries.DylinkerCommand.{DylinkerCommand}
use Rattle.mach_records.specs.declared.libraries.RpathCommand.{RpathCommand}
use Rattle.mach_records.specs.declared.libraries.Fvmlib.{Fvmlib}
use Rattle.mach_records.specs.declared.libraries.FvmlibCommand.{FvmlibCommand}
use Rattle.mach_records.specs.declared.libraries.FvmfileCommand.{FvmfileCommand}

-- struct dylib
abbrev pub dylib_fields : List Field
dylib_fields = num 4 ∷ num 4 ∷ num 4 ∷ num 4 ∷ []

abbrev pub dylib_values : Dylib → List Value
dylib_values r =
    number_is r.name ∷ number_is r.timestamp ∷ number_is r.current_version
    ∷ number_is r.compatibility_version ∷ []

-- struct dylib_command
abbrev pub dylib_command_fields : List Field
dylib_command_fields = num 4 ∷ num 4 ∷ dylib_fields

abbrev pub dylib_command_values : DylibCommand → List Value
dylib_command_values r = number_is r.cmd ∷ number_is r.cmdsize ∷ dylib_values r.dylib

-- struct prebound_dylib_command
abbrev pub prebound_dylib_command_fields : List Field
prebound_dylib_command_fields = num 4 ∷ num 4 ∷ num 4 ∷ num 4 ∷ num 4 ∷ []

abbrev pub prebound_dylib_command_values : PreboundDylibCommand → List Value
prebound_dylib_command_values r =
    number_is r.cmd ∷ number_is r.cmdsize ∷ number_is r.name ∷ number_is r.nmodules
    ∷ number_is r.linked_modules ∷ []

-- struct dylinker_command
abbrev pub dylinker_command_fields : List Field
dylinker_command_fields = num 4 ∷ num 4 ∷ num 4 ∷ []

abbrev pub dylinker_command_values : DylinkerCommand → List Value
dylinker_command_values r = number_is r.cmd ∷ number_is r.cmdsize ∷ number_is r.name ∷ []

-- struct rpath_command
abbrev pub rpath_command_fields : List Field
rpath_command_fields = num 4 ∷ num 4 ∷ num 4 ∷ []

abbrev pub rpath_command_values : RpathCommand → List Value
rpath_command_values r = number_is r.cmd ∷ number_is r.cmdsize ∷ number_is r.path ∷ []

-- struct fvmlib
abbrev pub fvmlib_fields : List Field
fvmlib_fields = num 4 ∷ num 4 ∷ num 4 ∷ []

abbrev pub fvmlib_values : Fvmlib → List Value
fvmlib_values r = number_is r.name ∷ number_is r.minor_version ∷ number_is r.header_addr ∷ []

-- struct fvmlib_command
abbrev pub fvmlib_command_fields : List Field
fvmlib_command_fields = num 4 ∷ num 4 ∷ fvmlib_fields

abbrev pub fvmlib_command_values : FvmlibCommand → List Value
fvmlib_command_values r = number_is r.cmd ∷ number_is r.cmdsize ∷ fvmlib_values r.fvmlib

-- struct fvmfile_command
abbrev pub fvmfile_command_fields : List Field
fvmfile_command_fields = num 4 ∷ num 4 ∷ num 4 ∷ num 4 ∷ []

abbrev pub fvmfile_command_values : FvmfileCommand → List Value
fvmfile_command_values r =
    number_is r.cmd ∷ number_is r.cmdsize ∷ number_is r.name ∷ number_is r.header_addr ∷ []
