-- The tools that an image was built with: records of struct build_tool_version after a struct build_version_command (`mach-o/loader.h`).
use Rattle.std.specs.Prelude.{ℕ, ◌+◌, ◌*◌, List, map, Result, Ok, Err, nat_lt, if◌then◌else◌}
use Rattle.mach_base.specs.declared.context.Endian.{Endian}
use Rattle.mach_base.specs.Answer.{◌>>=◌}
use Rattle.mach_base.specs.Fault.{Fault, malformed}
use Rattle.mach_base.specs.Items.{items_from}
use Rattle.mach_base.specs.Number.{place_after}
use Rattle.mach_base.specs.Record.{Value, number_among, record_at}
use Rattle.mach_records.specs.Versions.{build_tool_version_fields}
use Rattle.mach_records.specs.declared.versions.BuildToolVersion.{BuildToolVersion}
use Rattle.mach_load.specs.Command.{Command, cmdsize_of}
use Rattle.mach_load.specs.Commands.{Kind, build_version}
use Rattle.mach_load.specs.CommandLists.{with_number, listed_by}

abbrev pub build_tool_of_values : List Value → BuildToolVersion
build_tool_of_values vs = record { tool = number_among vs 0; version = number_among vs 1 }

-- The tools of a command: its place, its size, and the number of tools that it claims.
pub record ToolTable : Type 0 where
  pub place : ℕ
  pub size : ℕ
  pub count : ℕ

-- tool k, which must lie within the command
unfoldable pub tool_at : Endian → List ℕ → ToolTable → ℕ → Result BuildToolVersion Fault
tool_at le bytes t k =
    if nat_lt t.size (24 + 8 * k + 8) then Err malformed
    else record_at le build_tool_version_fields bytes (place_after t.place (24 + 8 * k)) >>= (λ vs. Ok (build_tool_of_values vs))

-- how many tools a command claims to have
abbrev pub tool_count : Kind → List Value → ℕ
tool_count build_version values = number_among values 5
tool_count _ values = 0

abbrev pub tool_table : Command → ToolTable
tool_table c = record { place = c.offset; size = cmdsize_of c; count = tool_count c.kind c.values }

-- `many` of them from `first` on, each with the number of its command
abbrev pub numbered_tools : Endian → List ℕ → ℕ → ToolTable → (first many : ℕ) → List (Result (ℕ × BuildToolVersion) Fault)
numbered_tools le bytes number t first many = map (with_number number) (items_from (tool_at le bytes t) first many)

abbrev pub tools_of : Endian → List ℕ → ℕ → Command → List (Result (ℕ × BuildToolVersion) Fault)
tools_of le bytes number c = numbered_tools le bytes number (tool_table c) 0 (tool_table c).count

-- the tools of all commands, up to the first fault
abbrev pub build_tools_in : Endian → List ℕ → List Command → List (Result (ℕ × BuildToolVersion) Fault)
build_tools_in le bytes cs = listed_by (tools_of le bytes) 0 cs
