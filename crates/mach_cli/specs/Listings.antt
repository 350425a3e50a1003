-- The lines of a list of rows, as many as a limit leaves, and the line that says that there are more.
use Rattle.std.specs.Prelude.{◌≡◌, ◌==◌, ◌&&◌, ◌-◌, ℕ, List, [], ◌++◌, codes, take, length, nat_lt, Bool, false, not, Option, Result, Ok, Err, if◌then◌else◌}
use Rattle.std.specs.Fmt.{digits, decimal}
use Rattle.std.specs.Io.KnownBytes.{Appends}
use Rattle.std.specs.List.{list_all}
use Rattle.std.specs.Result.{is_ok}
use Rattle.mach_base.specs.Answer.{◌>>=◌}
use Rattle.mach_base.specs.Fault.{Fault}
use Rattle.mach_base.specs.Items.{read_as}
use Rattle.mach_base.specs.Words.{words_of}
use Rattle.mach_base.specs.declared.error.Error.{Error}
use Rattle.mach_cli.specs.Lines.{AreLines, WritesLines}
use Rattle.mach_cli.specs.declared.listing.ListProgress.{ListProgress}

-- a number as programs write it in hexadecimal
abbrev pub hex_text : ℕ → List ℕ
hex_text n = codes "0x" ++ digits 16 false n

-- the text of an item, or why it can't be read
abbrev pub reported_by : {X : Type 0} → (X → List ℕ) → Result X Fault → Result (List ℕ) Fault
reported_by text item = item >>= (λ x. Ok (text x))

-- the text of a row that was read
abbrev pub text_read : Result (List ℕ) Error → Result (List ℕ) Fault
text_read answer = read_as (λ text. text) answer

-- the text of what was read as a row
abbrev pub text_answer : {R : Type 0} → (R → List ℕ) → Result R Error → Result (List ℕ) Error
text_answer text (Ok row) = Ok (text row)
text_answer text (Err e) = Err e

-- the line of a row: its text, or after a word the reason why it can't be read
abbrev pub reported_line : List ℕ → Result (List ℕ) Error → List ℕ
reported_line word (Ok text) = text ++ codes "\n"
reported_line word (Err e) = word ++ (codes ": " ++ (words_of e ++ codes "\n"))

-- the line after the last printed row, if there are more
abbrev pub cut_line : ℕ → (more : Bool) → List ℕ
cut_line limit more = if more then codes "limit: " ++ (decimal limit ++ codes " shown, and there are more\n") else []

-- the line that says how many more items of this name a list claims, with records that begin past the end of the bytes, if there are some
abbrev pub past_line : (name : List ℕ) → (past : ℕ) → List ℕ
past_line name past = if past == 0 then [] else decimal past ++ (codes " more " ++ (name ++ codes " past the end\n"))

-- The text has the lines of the first rows, as many as are left of the limit, in order. A row that can't be read is an error that
-- reports its fault.
-- If, and only if, there are more rows, a line then says so. If, and only if, `past` more items of a name are claimed past the
-- end of the bytes, a line then says that.
-- The outcome is whole if there are no more rows, all could be read, and none is past the end. Each printed row counts against `left`.
pub record AreFirstLines (word : List ℕ) (limit left : ℕ) (rows : List (Result (List ℕ) Fault)) (name : List ℕ) (past : ℕ) (text : List ℕ)
    (whole : Bool) (rest : ℕ) : Type 0 where
  pub lines : List ℕ
  pub are_lines : AreLines text_read (reported_line word) (take left rows) lines
  pub is_text : text ≡ lines ++ (cut_line limit (nat_lt left (length rows)) ++ past_line name past)
  pub is_whole : whole ≡ ((list_all is_ok (take left rows) && not (nat_lt left (length rows))) && (past == 0))
  pub is_rest : rest ≡ left - length rows

-- The first rows were visited, no more than `left`; `t` is the state after them.
pub record CountsRows (left : ℕ) (rows : List (Result (List ℕ) Fault)) (t : ListProgress) : Type 0 where
  pub whole : t.whole ≡ list_all is_ok (take left rows)
  pub rest : t.left ≡ left - length rows
  pub more : t.more ≡ nat_lt left (length rows)

-- The lines of the first rows were written, no more than `left`; `t` is the state after them.
pub record WritesRows (word : List ℕ) (left : ℕ) (rows : List (Result (List ℕ) Fault)) (old new : Option (List ℕ)) (t : ListProgress) : Type 0 where
  pub lines : WritesLines text_read (reported_line word) (take left rows) old new
  pub whole : t.whole ≡ list_all is_ok (take left rows)
  pub rest : t.left ≡ left - length rows
  pub more : t.more ≡ nat_lt left (length rows)

-- Such lines were written, and the lines after them that say that there are more.
pub record WritesFirstLines (word : List ℕ) (limit left : ℕ) (rows : List (Result (List ℕ) Fault)) (name : List ℕ) (past : ℕ) (whole : Bool) (rest : ℕ)
    (old new : Option (List ℕ)) : Type 0 where
  pub text : List ℕ
  pub lines : AreFirstLines word limit left rows name past text whole rest
  pub written : Appends old new text
