-- Files that aren't Mach-O, and why they are refused.
use Rattle.std.specs.Prelude.{ℕ, List, Option, Some, None}
use Rattle.mach_base.specs.declared.error.Error.{Error}
use Rattle.mach_base.specs.declared.error.Error.TheVariants as errors
use Rattle.mach_base.specs.Words.{words_of}
use Rattle.goblin_mach.specs.FirstBytes.{foreign_kind, foreign_words}
use Rattle.goblin_mach.specs.declared.first_bytes.Foreign.{Foreign}

-- the kind of a file that is refused for an error; if memory ran out, any file has none
abbrev pub refused_kind : List ℕ → Error → Option Foreign
refused_kind bytes (errors.Malformed msg) = foreign_kind bytes
refused_kind bytes (errors.BadMagic magic) = foreign_kind bytes
refused_kind bytes (errors.Scroll e) = foreign_kind bytes
refused_kind bytes (errors.BufferTooShort count what) = foreign_kind bytes
refused_kind bytes (errors.Memory e) = None

abbrev pub words_by : Option Foreign → Error → List ℕ
words_by (Some kind) e = foreign_words kind
words_by None e = words_of e

-- The reason why a file is refused: its kind, if it isn't Mach-O; else the text of the error.
abbrev pub refused_words : List ℕ → Error → List ℕ
refused_words bytes e = words_by (refused_kind bytes e) e
