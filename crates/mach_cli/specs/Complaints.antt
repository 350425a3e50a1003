-- What a program complains about, except faults in a file's bytes, in a line that begins with its name.
use Rattle.std.specs.Prelude.{◌==◌, ℕ, List, [], ◌++◌, codes, length, if◌then◌else◌, Option, Some, None}
use Rattle.std.specs.Borrow.{Bor}
use Rattle.mach_cli.specs.Escapes.{escaped_text}
use Rattle.mach_cli.specs.Misuses.{misuse_words}
use Rattle.mach_cli.specs.declared.complaint.Complaint.{Complaint}
use Rattle.mach_cli.specs.declared.complaint.Trouble.{Trouble}
use Rattle.mach_cli.specs.declared.complaint.Trouble.TheVariants.{Memory, Unwritten, Misused}

-- the word that was probably meant, if there is one
abbrev pub meant_words : Option (Bor (List ℕ)) → List ℕ
meant_words (Some word) = codes "; did you mean '" ++ (word.now ++ codes "'?")
meant_words None = []

-- the file that can't be written, if it has a name
abbrev pub unwritten_words : List ℕ → List ℕ
unwritten_words file = if length file == 0 then codes "cannot write" else codes "cannot write " ++ escaped_text file

abbrev pub trouble_words : Trouble → List ℕ
trouble_words Memory = codes "out of memory"
trouble_words (Unwritten file) = unwritten_words file.now
trouble_words (Misused misuse meant) = misuse_words misuse ++ meant_words meant

abbrev pub complaint_text : Complaint → List ℕ
complaint_text c = c.program.now ++ (codes ": " ++ trouble_words c.trouble)
