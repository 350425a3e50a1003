-- Names as they are printed.
use Rattle.std.specs.Prelude.{ℕ, List, [], ◌++◌, codes, Bool, true, false, Option, Some, None, Result, Ok, Err}
use Rattle.std.specs.Borrow.{Bor}
use Rattle.mach_base.specs.Fault.{Fault}
use Rattle.mach_cli.specs.Escapes.{escaped_text}

-- a name escaped, or as it is if that is selected
abbrev pub name_shown : (is_raw : Bool) → List ℕ → List ℕ
name_shown true name = name
name_shown false name = escaped_text name

-- a name, or a mark if it can't be read
abbrev pub name_or_mark : Result (List ℕ) Fault → List ℕ
name_or_mark (Ok name) = name
name_or_mark (Err f) = codes "?"

-- the name of the file before a line, if it is selected
abbrev pub file_text : (is_raw : Bool) → Option (Bor (List ℕ)) → List ℕ
file_text is_raw None = []
file_text is_raw (Some file) = name_shown is_raw file.now ++ codes ": "

-- a file, if it is selected
abbrev pub file_if : (is_selected : Bool) → Bor (List ℕ) → Option (Bor (List ℕ))
file_if true file = Some file
file_if false file = None
