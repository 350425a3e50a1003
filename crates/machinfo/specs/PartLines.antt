-- The lines of the summary for the entry point, the segments and the sections of an image.
use Rattle.std.specs.Prelude.{◌≡◌, ◌&&◌, ℕ, List, ◌++◌, codes, Bool}
use Rattle.mach_cli.specs.Fields.{FieldView, fields_line}
use Rattle.machinfo.specs.ListLines.{AreRowLines}
use Rattle.machinfo.specs.declared.word.Word.{Word}
use Rattle.machinfo.specs.declared.word.Word.TheVariants as words

-- a line after a word
abbrev pub line_after : (word : List ℕ) → List FieldView → List ℕ
line_after word fields = word ++ fields_line fields

-- the lines of a list in the summary, as many as the limit allows; a row that can't be read is `refused` and why
abbrev pub ArePartLines : Word → (word refused : List ℕ) → (limit : ℕ) → (bytes text : List ℕ) → (whole : Bool) → Type 0
ArePartLines list word refused limit bytes text whole = (rest : ℕ) × AreRowLines list (line_after word) refused limit limit bytes text whole rest

-- the lines of the entry point, of the segments, and of the sections of all segments
pub record AreLinesOfParts (limit : ℕ) (bytes text : List ℕ) (whole : Bool) : Type 0 where
  pub entry : List ℕ
  pub entry_whole : Bool
  pub are_entry : ArePartLines words.Entry (codes "entry: ") (codes "entry: refused") 1 bytes entry entry_whole
  pub segments : List ℕ
  pub segments_whole : Bool
  pub are_segments : ArePartLines words.Segments (codes "segment: ") (codes "segment: refused") limit bytes segments segments_whole
  pub sections : List ℕ
  pub sections_whole : Bool
  pub are_sections : ArePartLines words.Sections (codes "section: ") (codes "section: refused") limit bytes sections sections_whole
  pub is_text : text ≡ entry ++ (segments ++ sections)
  pub is_whole : whole ≡ ((entry_whole && segments_whole) && sections_whole)
