-- The lines of the rows of a list of an image.
use Rattle.std.specs.Prelude.{ℕ, List, map, Bool}
use Rattle.mach_cli.specs.Fields.{FieldView}
use Rattle.mach_cli.specs.Listings.{AreFirstLines, reported_by}
use Rattle.machinfo.specs.Lists.{OfRows, past_name}
use Rattle.machinfo.specs.declared.word.Word.{Word}

-- The text is a line for each row of the word's list of the image at the start of the bytes, in a form and in order, as many as are left
-- of the limit; and a last line if there are more, or more are claimed past the end of the bytes. A row that can't be read is `refused`
-- and why. It is whole if there are no more, and each row can be read. Of the limit `rest` are left after it.
abbrev pub AreRowLines : Word → (form : List FieldView → List ℕ) → (refused : List ℕ) → (limit left : ℕ) → (bytes text : List ℕ) → (whole : Bool) → (rest : ℕ)
    → Type 0
AreRowLines word form refused limit left bytes text whole rest =
    OfRows word bytes (λ rows past. AreFirstLines refused limit left (map (reported_by form) rows) (past_name word) past text whole rest)
