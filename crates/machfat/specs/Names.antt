-- A name at the end of a line, and the line of a refusal.
use Rattle.std.specs.Prelude.{ℕ, List, ◌++◌, codes}
use Rattle.mach_base.specs.Words.{words_of}
use Rattle.mach_base.specs.declared.error.Error.{Error}
use Rattle.mach_cli.specs.Escapes.{escaped_text}

-- a name with control characters and backslashes in hexadecimal, so that it breaks no line, and the end of its line
abbrev pub name_tail : List ℕ → List ℕ
name_tail name = escaped_text name ++ codes "\n"

-- the line of what is refused, with its error
abbrev pub refused_line : List ℕ → Error → List ℕ
refused_line what e = what ++ (codes ": " ++ (words_of e ++ codes "\n"))
