-- Facts of an image, in lists: UUIDs, platforms, tools, libraries, and run paths.
use Rattle.std.specs.Prelude.{ℕ, List, Option, Some, None, option_map, drop, map, Result, Ok}
use Rattle.std.specs.List.{filter_map}
use Rattle.std.specs.Slice.Iter.{iter_rest}
use Rattle.mach_base.specs.Answer.{◌>>=◌}
use Rattle.mach_base.specs.Fault.{Fault}
use Rattle.mach_base.specs.Items.{read_as}
use Rattle.mach_base.specs.Text.{texts}
use Rattle.mach_base.specs.declared.error.Error.{Error}
use Rattle.mach_records.specs.declared.versions.BuildToolVersion.{BuildToolVersion}
use Rattle.mach_base.specs.Record.{Value, number_among, bytes_among}
use Rattle.mach_load.specs.Command.{Command}
use Rattle.mach_load.specs.Commands.{Kind, uuid, build_version, version_min_macosx, version_min_iphoneos, version_min_tvos, version_min_watchos}
use Rattle.mach_load.specs.Variants.{command_of}
use Rattle.mach_load.specs.TablesLeft.{build_tools_left}
use Rattle.mach_load.specs.BuildTools.{build_tools_in}
use Rattle.goblin_mach.specs.ImageFacts.{Facts}
use Rattle.goblin_mach.specs.Libraries.{LibraryView, libraries_in, libraries_left, library_view}
use Rattle.mach_audit.specs.declared.command_facts.PlatformFact.{PlatformFact}
use Rattle.mach_audit.specs.declared.command_facts.Question.{Question}
use Rattle.mach_audit.specs.declared.command_facts.Question.TheVariants.{Uuid, Platform}
use Rattle.mach_audit.specs.declared.command_facts.CommandFacts.{CommandFacts}
use Rattle.mach_audit.specs.declared.fact.Fact.{Fact}
use Rattle.mach_audit.specs.declared.fact.Fact.TheVariants as facts
use Rattle.mach_audit.specs.declared.fact.FactList.{FactList}
use Rattle.mach_audit.specs.declared.fact.FactList.TheVariants as lists

-- a fact, in a list
pub data FactView : Type 0 where
  uuid_fact : (uuid : List ℕ) → FactView
  platform_fact : (platform : PlatformFact) → FactView
  tool_fact : (tool : BuildToolVersion) → FactView
  library_fact : (library : LibraryView) → FactView
  path_fact : (path : List ℕ) → FactView

-- the UUID of the image (struct uuid_command)
abbrev pub uuid_of : Kind → List Value → Option (List ℕ)
uuid_of uuid values = Some (bytes_among values 2)
uuid_of _ values = None

abbrev pub uuid_by : Command → Option (List ℕ)
uuid_by c = uuid_of c.kind c.values

-- a platform (PLATFORM_) with the versions of a struct version_min_command
abbrev pub least_of : (platform : ℕ) → List Value → Option PlatformFact
least_of platform values = Some (record { platform = platform; least = number_among values 2; sdk = number_among values 3 })

-- the platform that a command names (struct build_version_command), or that follows from the kind of the command
-- (LC_VERSION_MIN_)
abbrev pub platform_of : Kind → List Value → Option PlatformFact
platform_of build_version values =
    Some (record { platform = number_among values 2; least = number_among values 3; sdk = number_among values 4 })
platform_of version_min_macosx values = least_of 1 values
platform_of version_min_iphoneos values = least_of 2 values
platform_of version_min_tvos values = least_of 3 values
platform_of version_min_watchos values = least_of 4 values
platform_of _ values = None

abbrev pub platform_by : Command → Option PlatformFact
platform_by c = platform_of c.kind c.values

-- the answer of a command to a question, if it has one
abbrev pub fact_of : Question → Command → Option FactView
fact_of Uuid c = option_map uuid_fact (uuid_by c)
fact_of Platform c = option_map platform_fact (platform_by c)

-- the answers of some commands, in order
abbrev pub facts_within : Question → List Command → List FactView
facts_within question cs = filter_map (fact_of question) cs

-- the answers of an image's commands, its tools, its libraries and its run paths, as facts
abbrev pub command_facts : Question → Facts → List (Result FactView Fault)
command_facts question f = map (λ fact. Ok fact) (facts_within question f.commands)

abbrev pub tool_facts : Facts → List (Result FactView Fault)
tool_facts f = map (λ item. item >>= (λ found. Ok (tool_fact found.1))) (build_tools_in f.ctx.le f.bytes f.commands)

abbrev pub library_facts : Facts → List (Result FactView Fault)
library_facts f = map (λ library. Ok (library_fact library)) (libraries_in f.ctx.le f.bytes f.commands)

abbrev pub path_facts : Facts → List (Result FactView Fault)
path_facts f = map (λ path. Ok (path_fact path)) f.run_paths

-- ---- what the code's values mean

-- a fact
abbrev pub fact_view : Fact → FactView
fact_view (facts.Uuid bytes) = uuid_fact bytes
fact_view (facts.Platform platform) = platform_fact platform
fact_view (facts.Tool tool) = tool_fact tool
fact_view (facts.Library library) = library_fact (library_view library)
fact_view (facts.RunPath path) = path_fact path.now

-- a fact, or the fault
abbrev pub fact_read : Result Fact Error → Result FactView Fault
fact_read answer = read_as fact_view answer

-- the answers that are left
abbrev pub facts_left : CommandFacts → List FactView
facts_left it = facts_within it.question (map command_of (drop it.number it.commands.now))

-- the facts that are left of a list
abbrev pub fact_rows_left : FactList → List (Result FactView Fault)
fact_rows_left (lists.Commands it) = map (λ fact. Ok fact) (facts_left it)
fact_rows_left (lists.Tools it) = map (λ item. item >>= (λ found. Ok (tool_fact found.1))) (build_tools_left it)
fact_rows_left (lists.Libraries it) = map (λ library. Ok (library_fact library)) (libraries_left it)
fact_rows_left (lists.Paths it) = map (λ path. Ok (path_fact path)) (texts (iter_rest it))
