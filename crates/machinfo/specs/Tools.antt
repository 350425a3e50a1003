-- Tools as they are shown.
use Rattle.std.specs.Prelude.{ℕ, List, [], Option, Some, None, unwrap_or}
use Rattle.std.specs.Fmt.{decimal}
use Rattle.mach_records.specs.NumberNames as names

-- the name of a tool; none if the number is not known
abbrev pub tool_word : ℕ → List ℕ
tool_word number = unwrap_or (names.tool_name number) []

-- a name, or the number of a tool that has none
abbrev pub tool_or_number : Option (List ℕ) → ℕ → List ℕ
tool_or_number (Some name) number = name
tool_or_number None number = decimal number

abbrev pub tool_text : ℕ → List ℕ
tool_text number = tool_or_number (names.tool_name number) number
