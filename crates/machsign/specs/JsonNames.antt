-- A name in an object.
use Rattle.std.specs.Prelude.{ℕ, List, codes, Option, Some, None, Result, Ok, Err}
use Rattle.mach_base.specs.Fault.{Fault}
use Rattle.mach_cli.specs.JsonText.{json_string}

-- a name that may be there
abbrev pub json_name : Result (Option (List ℕ)) Fault → List ℕ
json_name (Ok (Some name)) = json_string name
json_name (Ok None) = codes "null"
json_name (Err f) = codes "{\"error\":\"unreadable\"}"
