-- How many items the lists of an image have.
use Rattle.std.specs.Prelude.{◌≡◌, ◌==◌, ◌-◌, ◌&&◌, if◌then◌else◌, ℕ, List, [], ◌∷◌, ◌++◌, codes, map, Bool, true, not, Result}
use Rattle.std.specs.Fmt.{decimal}
use Rattle.mach_base.specs.Fault.{Fault}
use Rattle.mach_cli.specs.Fields.{FieldView, fields_line, word_if}
use Rattle.mach_cli.specs.Listings.{CountsRows, reported_by}
use Rattle.mach_cli.specs.declared.listing.ListProgress.{ListProgress}
use Rattle.mach_cli.specs.JsonText.{json_bool}
use Rattle.machinfo.specs.Lists.{OfRows}
use Rattle.machinfo.specs.Words.{spelling_of}
use Rattle.machinfo.specs.declared.word.Word.{Word}
use Rattle.machinfo.specs.declared.word.Word.TheVariants.{CommandsAlone, Starts, Slots, Indirect, Data, Options}
use Rattle.machinfo.specs.declared.word.Word.TheVariants.{Tools, Notes, Providers, Libraries, Rebases, Weak}
use Rattle.machinfo.specs.declared.counts.Form.{Form}
use Rattle.machinfo.specs.declared.counts.Form.TheVariants.{Lines, Members}

-- how many more items the table claims past the end of the bytes, if it claims any
abbrev pub past_text : ℕ → List ℕ
past_text past = if past == 0 then [] else codes ", and " ++ (decimal past ++ codes " more past the end")

-- the count of rows up to the limit, whether there are more, whether some can't be read, and how many more are claimed
abbrev pub count_text : ℕ → ListProgress → ℕ → List ℕ
count_text limit reported past =
    word_if reported.more (codes "more than ") [] ++ decimal (limit - reported.left) ++ word_if reported.whole [] (codes ", not all readable") ++ past_text past

-- all rows were counted, all can be read, and no more are claimed
abbrev pub are_counted_whole : ListProgress → ℕ → Bool
are_counted_whole reported past = (reported.whole && not reported.more) && (past == 0)

-- the list has no rows, and none is claimed past the end of the bytes
abbrev pub has_no_rows : ℕ → ListProgress → ℕ → Bool
has_no_rows limit reported past = are_counted_whole reported past && (limit - reported.left == 0)

-- the line of a list that has or claims rows
abbrev pub count_line : Word → ℕ → ListProgress → ℕ → List ℕ
count_line word limit reported past =
    if has_no_rows limit reported past then [] else spelling_of word ++ codes ": " ++ count_text limit reported past ++ codes "\n"

-- the same as members of an object
abbrev pub count_members : ℕ → ListProgress → ℕ → List ℕ
count_members limit reported past =
    codes "\"count\":"
    ++ (decimal (limit - reported.left)
    ++ (codes ",\"limit_met\":"
    ++ (json_bool reported.more
    ++ (codes ",\"past_the_end\":" ++ (decimal past ++ (codes ",\"readable\":" ++ json_bool reported.whole))))))

abbrev pub count_member : Word → ℕ → ListProgress → ℕ → List ℕ
count_member word limit reported past = codes "\"" ++ (spelling_of word ++ (codes "\":{" ++ (count_members limit reported past ++ codes "},")))

-- the text of a list's count in the given form
abbrev pub count_reported : Form → Word → ℕ → ListProgress → ℕ → List ℕ
count_reported Lines word limit reported past = count_line word limit reported past
count_reported Members word limit reported past = count_member word limit reported past

-- The text is the count of a word's list with these rows, which claims `past` more, counted up to the limit. It is whole if the list
-- has or claims no more, and all rows can be read.
pub record IsCount (form : Form) (word : Word) (limit : ℕ) (rows : List (Result (List FieldView) Fault)) (past : ℕ) (text : List ℕ) (whole : Bool)
    : Type 0 where
  pub reported : ListProgress
  pub counts : CountsRows limit (map (reported_by fields_line) rows) reported
  pub is_text : text ≡ count_reported form word limit reported past
  pub is_whole : whole ≡ are_counted_whole reported past

-- The text gives one count for each of these words, in order, for the lists of the image at the start of the bytes. It is whole if each
-- count is.
pub data AreCounts (form : Form) (limit : ℕ) (bytes : List ℕ) : List Word → List ℕ → Bool → Type 0 where
  no_counts : AreCounts form limit bytes [] [] true
  counts_more : (words : List Word) (word : Word) (text one : List ℕ) (whole is_whole : Bool) → AreCounts form limit bytes words text whole
      → OfRows word bytes (λ rows past. IsCount form word limit rows past one is_whole)
      → AreCounts form limit bytes (words ++ word ∷ []) (text ++ one) (whole && is_whole)

-- the lists that are counted
abbrev pub counted_words : List Word
counted_words = CommandsAlone ∷ Starts ∷ Slots ∷ Indirect ∷ Data ∷ Options ∷ Tools ∷ Notes ∷ Providers ∷ Libraries ∷ Rebases ∷ Weak ∷ []
