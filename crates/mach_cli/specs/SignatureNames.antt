-- Names and bytes, as they are printed.
use Rattle.std.specs.Prelude.{ℕ, List, codes, flat_map, Option, Some, None, Result, Ok, Err}
use Rattle.mach_base.specs.Fault.{Fault}
use Rattle.mach_cli.specs.Escapes.{byte_text, escaped_text}

abbrev pub bytes_text : List ℕ → List ℕ
bytes_text bytes = flat_map byte_text bytes

-- a name that a directory may have
abbrev pub name_text : Result (Option (List ℕ)) Fault → List ℕ
name_text (Ok None) = codes "-"
name_text (Ok (Some name)) = escaped_text name
name_text (Err f) = codes "unreadable"
