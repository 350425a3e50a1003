-- The prefix of a file's complaints.
use Rattle.std.specs.Prelude.{ℕ, List, ◌++◌, codes}
use Rattle.mach_cli.specs.Escapes.{escaped_text}

-- the names of the program and of the file, on one line
abbrev pub names_text : (program file : List ℕ) → List ℕ
names_text program file = program ++ (codes ": " ++ escaped_text file)
