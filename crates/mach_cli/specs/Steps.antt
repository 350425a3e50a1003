-- The progress of a call over many files.
use Rattle.std.specs.Prelude.{ℕ, List, ◌++◌, codes}
use Rattle.std.specs.Fmt.{decimal}
use Rattle.mach_cli.specs.Escapes.{escaped_text}

-- the report that a file of this number begins
abbrev pub step_text : (program : List ℕ) → (number : ℕ) → (file : List ℕ) → List ℕ
step_text program number file = program ++ (codes ": file " ++ (decimal number ++ (codes ": " ++ escaped_text file)))
