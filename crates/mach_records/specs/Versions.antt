-- The platform, the tools and the sources of an image (`mach-o/loader.h`).
-- For each record: its fields in order, and their values.
use Rattle.std.specs.Prelude.{List, [], ◌∷◌}
use Rattle.mach_base.specs.Record.{Field, num, Value, number_is}
use Rattle.mach_records.specs.declared.versions.VersionMinCommand.{VersionMinCommand}
use Rattle.mach_records.specs.declared.versions.BuildVersionCommand.{BuildVersionCommand}
use Rattle.mach_records.specs.declared.versions.BuildToolVersion.{BuildToolVersion}
use Rattle.mach_records.specs.declared.versions.SourceVersionCommand.{SourceVersionCommand}

-- struct version_min_command
abbrev pub version_min_command_fields : List Field
version_min_command_fields = num 4 ∷ num 4 ∷ num 4 ∷ num 4 ∷ []

abbrev pub version_min_command_values : VersionMinCommand → List Value
version_min_command_values r =
    number_is r.cmd ∷ number_is r.cmdsize ∷ number_is r.version ∷ number_is r.sdk ∷ []

-- struct build_version_command
abbrev pub build_version_command_fields : List Field
build_version_command_fields = num 4 ∷ num 4 ∷ num 4 ∷ num 4 ∷ num 4 ∷ num 4 ∷ []

abbrev pub build_version_command_values : BuildVersionCommand → List Value
build_version_command_values r =
    number_is r.cmd ∷ number_is r.cmdsize ∷ number_is r.platform ∷ number_is r.minos
    ∷ number_is r.sdk ∷ number_is r.ntools ∷ []

-- struct build_tool_version
abbrev pub build_tool_version_fields : List Field
build_tool_version_fields = num 4 ∷ num 4 ∷ []

abbrev pub build_tool_version_values : BuildToolVersion → List Value
build_tool_version_values r = number_is r.tool ∷ number_is r.version ∷ []

-- struct source_version_command
abbrev pub source_version_command_fields : List Field
source_version_command_fields = num 4 ∷ num 4 ∷ num 8 ∷ []

abbrev pub source_version_command_values : SourceVersionCommand → List Value
source_version_command_values r = number_is r.cmd ∷ number_is r.cmdsize ∷ number_is r.version ∷ []
