-- Tables of a dynamic library that consists of modules (`mach-o/loader.h`).
-- For each record: its fields in order, and their values.
use Rattle.std.specs.Prelude.{List, [], ◌∷◌}
use Rattle.mach_base.specs.Record.{Field, num, arr, Value, number_is, bytes_are}
use Rattle.mach_records.specs.declared.modules.DylibTableOfContents.{DylibTableOfContents}
use Rattle.mach_records.specs.declared.modules.DylibModule.{DylibModule}
use Rattle.mach_records.specs.declared.modules.DylibModule64.{DylibModule64}
use Rattle.mach_records.specs.declared.modules.DylibReference.{DylibReference}
use Rattle.mach_records.specs.declared.modules.RoutinesCommand32.{RoutinesCommand32}
use Rattle.mach_records.specs.declared.modules.RoutinesCommand64.{RoutinesCommand64}

-- struct dylib_table_of_contents
abbrev pub dylib_table_of_contents_fields : List Field
dylib_table_of_contents_fields = num 4 ∷ num 4 ∷ []

abbrev pub dylib_table_of_contents_values : DylibTableOfContents → List Value
dylib_table_of_contents_values r = number_is r.symbol_index ∷ number_is r.module_index ∷ []

-- struct dylib_module
abbrev pub dylib_module_fields : List Field
dylib_module_fields =
    num 4 ∷ num 4 ∷ num 4 ∷ num 4 ∷ num 4 ∷ num 4 ∷ num 4 ∷ num 4 ∷ num 4 ∷ num 4 ∷ num 4 ∷ num 4
    ∷ num 4 ∷ []

abbrev pub dylib_module_values : DylibModule → List Value
dylib_module_values r =
    number_is r.module_name ∷ number_is r.iextdefsym ∷ number_is r.nextdefsym ∷ number_is r.irefsym
    ∷ number_is r.nrefsym ∷ number_is r.ilocalsym ∷ number_is r.nlocalsym ∷ number_is r.iextrel
    ∷ number_is r.nextrel ∷ number_is r.iinit_iterm ∷ number_is r.ninit_nterm
    ∷ number_is r.objc_module_info_addr ∷ number_is r.objc_module_info_size ∷ []

-- struct dylib_module_64
abbrev pub dylib_module64_fields : List Field
dylib_module64_fields =
    num 4 ∷ num 4 ∷ num 4 ∷ num 4 ∷ num 4 ∷ num 4 ∷ num 4 ∷ num 4 ∷ num 4 ∷ num 4 ∷ num 4 ∷ num 4
    ∷ num 8 ∷ []

abbrev pub dylib_module64_values : DylibModule64 → List Value
dylib_module64_values r =
    number_is r.module_name ∷ number_is r.iextdefsym ∷ number_is r.nextdefsym ∷ number_is r.irefsym
    ∷ number_is r.nrefsym ∷ number_is r.ilocalsym ∷ number_is r.nlocalsym ∷ number_is r.iextrel
    ∷ number_is r.nextrel ∷ number_is r.iinit_iterm ∷ number_is r.ninit_nterm
    ∷ number_is r.objc_module_info_size ∷ number_is r.objc_module_info_addr ∷ []

-- struct dylib_reference
abbrev pub dylib_reference_fields : List Field
dylib_reference_fields = arr 24 ∷ num 8 ∷ []

abbrev pub dylib_reference_values : DylibReference → List Value
dylib_reference_values r = bytes_are r.isym ∷ number_is r.flags ∷ []

-- struct routines_command
abbrev pub routines_command32_fields : List Field
routines_command32_fields =
    num 4 ∷ num 4 ∷ num 4 ∷ num 4 ∷ num 4 ∷ num 4 ∷ num 4 ∷ num 4 ∷ num 4 ∷ num 4 ∷ []

abbrev pub routines_command32_values : RoutinesCommand32 → List Value
routines_command32_values r =
    number_is r.cmd ∷ number_is r.cmdsize ∷ number_is r.init_address ∷ number_is r.init_module
    ∷ number_is r.reserved1 ∷ number_is r.reserved2 ∷ number_is r.reserved3 ∷ number_is r.reserved4
    ∷ number_is r.reserved5 ∷ number_is r.reserved6 ∷ []

-- struct routines_command_64
abbrev pub routines_command64_fields : List Field
routines_command64_fields =
    num 4 ∷ num 4 ∷ num 8 ∷ num 8 ∷ num 8 ∷ num 8 ∷ num 8 ∷ num 8 ∷ num 8 ∷ num 8 ∷ []

abbrev pub routines_command64_values : RoutinesCommand64 → List Value
routines_command64_values r =
    number_is r.cmd ∷ number_is r.cmdsize ∷ number_is r.init_address ∷ number_is r.init_module
    ∷ number_is r.reserved1 ∷ number_is r.reserved2 ∷ number_is r.reserved3 ∷ number_is r.reserved4
    ∷ number_is r.reserved5 ∷ number_is r.reserved6 ∷ []
