-- The lines that the program shows of an image.
use Rattle.std.specs.Prelude.{◌≡◌, ◌==◌, ◌&&◌, ℕ, List, [], ◌∷◌, ◌++◌, map, Bool, false, Option, Some, None, Result, codes}
use Rattle.std.specs.Fmt.{decimal}
use Rattle.mach_base.specs.Fault.{Fault}
use Rattle.goblin_mach.specs.Image.{LossyOpens}
use Rattle.goblin_mach.specs.ImageFacts.{Facts, HasFacts}
use Rattle.mach_cli.specs.AddressLines.{AreAddressLines}
use Rattle.mach_cli.specs.AddressObjects.{AreAddressMembers}
use Rattle.mach_cli.specs.Fields.{FieldView, fields_line, fields_object}
use Rattle.mach_cli.specs.Listings.{AreFirstLines, reported_by}
use Rattle.mach_cli.specs.Shown.{ImageLines}
use Rattle.mach_cli.specs.JsonArrays.{AreMembersInBounds}
use Rattle.mach_signature.specs.Directories.{Directory}
use Rattle.mach_signature.specs.SignedFacts.{HasCodeDirectory}
use Rattle.machinfo.specs.Counts.{AreCounts, counted_words}
use Rattle.machinfo.specs.ExportRows.{HasExportFields}
use Rattle.machinfo.specs.FrontStatus.{IsFrontWhole}
use Rattle.machinfo.specs.Headings.{AreUnderHeading, exports_heading, heading_of, imports_heading, inits_heading}
use Rattle.machinfo.specs.Imports.{HasImportFields}
use Rattle.machinfo.specs.Initializers.{HasInitFields}
use Rattle.machinfo.specs.Lists.{OfRows}
use Rattle.machinfo.specs.PartLines.{AreLinesOfParts}
use Rattle.machinfo.specs.RowFields.{lines_form}
use Rattle.machinfo.specs.ListLines.{AreRowLines}
use Rattle.machinfo.specs.Words.{spelling_of}
use Rattle.machinfo.specs.Signed.{AreSignatureLinesOf, is_readable}
use Rattle.machinfo.specs.StateLines.{state_lines}
use Rattle.mach_audit.specs.States.{state_of_commands}
use Rattle.machinfo.specs.Summary.{AreFrontLines, AreUsedLines}
use Rattle.machinfo.specs.declared.word.Choice.{Choice}
use Rattle.machinfo.specs.declared.word.Choice.TheVariants as choices
use Rattle.machinfo.specs.declared.word.Word.{Word}
use Rattle.machinfo.specs.declared.counts.Form.TheVariants.{Lines, Members}

-- The text is the lines of the image at the start of the bytes: one for each row of the word's list, in order, as many as are
-- left of the limit; and a last line if there are more, or more are claimed past the end of the bytes. It is whole if there are
-- no more, and each row can be read. Of the limit `rest` are left after it.
pub record AreImageListLines (word : Word) (limit left : ℕ) (bytes : List ℕ) (text : List ℕ) (whole : Bool) (rest : ℕ) : Type 0 where
  pub opens : LossyOpens bytes 0
  pub lines : AreRowLines word (lines_form word) (codes "refused") limit left bytes text whole rest

-- The members of a list of items: an array of this name with an object for each, as many as are left of the limit; whether there are
-- more; and how many more are claimed past the end of the bytes.
abbrev pub AreItemMembers : (name : List ℕ) → (left : ℕ) → List (Result (List FieldView) Fault) → (past : ℕ) → (text : List ℕ) → (whole : Bool) → (rest : ℕ)
    → Type 0
AreItemMembers name left fields past text whole rest =
    AreMembersInBounds left (record { name = name; rows = map (reported_by fields_object) fields } ∷ []) past text whole rest

-- The text is a line for each item of a list that has fields, in order, as many as are left of the limit, and a last line if there are
-- more. An item that can't be read is `refused` and why.
pub record AreListedLines (Has : List (Result (List FieldView) Fault) → Type 0) (limit left : ℕ) (text : List ℕ) (whole : Bool) (rest : ℕ) : Type 0 where
  pub fields : List (Result (List FieldView) Fault)
  pub has : Has fields
  pub lines : AreFirstLines (codes "refused") limit left (map (reported_by fields_line) fields) [] 0 text whole rest

-- The same as members.
pub record AreListedMembers (name : List ℕ) (Has : List (Result (List FieldView) Fault) → Type 0) (left : ℕ) (text : List ℕ) (whole : Bool) (rest : ℕ)
    : Type 0 where
  pub fields : List (Result (List FieldView) Fault)
  pub has : Has fields
  pub members : AreItemMembers name left fields 0 text whole rest

-- The text is the members of the image at the start of the bytes: exactly one object for each row of the word's list, in order,
-- as many as are left of the limit; whether there are more; and how many more are claimed past the end of the bytes. It is whole
-- if there are no more, and each row can be read. Of the limit `rest` are left after it.
pub record AreImageListMembers (word : Word) (left : ℕ) (bytes : List ℕ) (text : List ℕ) (whole : Bool) (rest : ℕ) : Type 0 where
  pub opens : LossyOpens bytes 0
  pub members : OfRows word bytes (λ rows past. AreItemMembers (spelling_of word) left rows past text whole rest)

-- The text is the summary of the image at the start of the bytes. Its parts are: the first lines; the lines of the entry point, the
-- segments and the sections; those of the libraries and the run paths; whether the image is signed, and what its code directory says;
-- whether it is encrypted and stripped, and how many symbols it has; and how many items each list has, counted up to the limit. It is
-- whole if these lines and counts are whole, the signature can be read, and no symbols are claimed past the end of the bytes. It uses
-- up nothing of the limit.
pub record AreImageSummaryLines (limit left : ℕ) (bytes : List ℕ) (text : List ℕ) (whole : Bool) (rest : ℕ) : Type 0 where
  pub opens : LossyOpens bytes 0
  pub facts : Facts
  pub has_facts : HasFacts bytes 0 facts
  pub front : List ℕ
  pub front_whole : Bool
  pub are_front : AreFrontLines limit facts front front_whole
  pub parts : List ℕ
  pub parts_whole : Bool
  pub are_parts : AreLinesOfParts limit bytes parts parts_whole
  pub used : List ℕ
  pub used_whole : Bool
  pub are_used : AreUsedLines limit facts used used_whole
  pub there : Result (Option Directory) Fault
  pub has_directory : HasCodeDirectory bytes 0 there
  pub signed : List ℕ
  pub are_signed : AreSignatureLinesOf there signed
  pub counts : List ℕ
  pub counts_whole : Bool
  pub are_counts : AreCounts Lines limit bytes counted_words counts counts_whole
  pub is_text : text ≡ front ++ (parts ++ (used ++ (signed ++ (state_lines (state_of_commands facts.commands facts.symbols) ++ counts))))
  pub is_whole : whole ≡ (((((front_whole && parts_whole) && used_whole) && is_readable there)
      && ((state_of_commands facts.commands facts.symbols).past == 0)) && counts_whole)
  pub is_rest : rest ≡ left

-- what follows the counts of an image
abbrev pub counts_end : (limit : ℕ) → List ℕ
counts_end limit = codes "\"limit\":" ++ (decimal limit ++ codes "},\"kind\":\"image\"")

-- The text is the members of the image at the start of the bytes: some text first, and then how many items each list has, counted
-- up to the limit. It is whole if what the first text says and the counts are whole. It uses up nothing of the limit.
pub record AreImageSummaryMembers (limit left : ℕ) (bytes : List ℕ) (text : List ℕ) (whole : Bool) (rest : ℕ) : Type 0 where
  pub opens : LossyOpens bytes 0
  pub facts : Facts
  pub has_facts : HasFacts bytes 0 facts
  pub there : Result (Option Directory) Fault
  pub has_directory : HasCodeDirectory bytes 0 there
  pub front : List ℕ
  pub front_whole : Bool
  pub is_front_whole : IsFrontWhole limit bytes facts there front_whole
  pub counts : List ℕ
  pub counts_whole : Bool
  pub are_counts : AreCounts Members limit bytes counted_words counts counts_whole
  pub is_text : text ≡ front ++ (codes "\"counts\":{" ++ (counts ++ counts_end limit))
  pub is_whole : whole ≡ (front_whole && counts_whole)
  pub is_rest : rest ≡ left

-- The lines of what is selected, or of the summary; those of a list under its heading, if there are headings. The line of an address
-- has no name of a file before it.
abbrev pub AreInfoLines : (has_headings : Bool) → Option Choice → (file : List ℕ) → (limit : ℕ) → ImageLines
AreInfoLines has_headings (Some (choices.Word word)) file limit =
    λ left bytes. AreUnderHeading has_headings (heading_of word) (AreImageListLines word limit left bytes)
AreInfoLines has_headings (Some choices.Exports) file limit =
    λ left bytes. AreUnderHeading has_headings exports_heading (AreListedLines (HasExportFields left bytes) limit left)
AreInfoLines has_headings (Some choices.Imports) file limit =
    λ left bytes. AreUnderHeading has_headings imports_heading (AreListedLines (HasImportFields bytes) limit left)
AreInfoLines has_headings (Some choices.Inits) file limit =
    λ left bytes. AreUnderHeading has_headings inits_heading (AreListedLines (HasInitFields bytes 0) limit left)
AreInfoLines has_headings (Some (choices.At address)) file limit = AreAddressLines None (address ∷ []) false false file limit
AreInfoLines has_headings None file limit = AreImageSummaryLines limit

-- The same as members.
abbrev pub AreInfoMembers : Option Choice → (file : List ℕ) → (limit : ℕ) → ImageLines
AreInfoMembers (Some (choices.Word word)) file limit = AreImageListMembers word
AreInfoMembers (Some choices.Exports) file limit = λ left bytes. AreListedMembers (codes "exports") (HasExportFields left bytes) left
AreInfoMembers (Some choices.Imports) file limit = λ left bytes. AreListedMembers (codes "imports") (HasImportFields bytes) left
AreInfoMembers (Some choices.Inits) file limit = λ left bytes. AreListedMembers (codes "inits") (HasInitFields bytes 0) left
AreInfoMembers (Some (choices.At address)) file limit = AreAddressMembers None (address ∷ []) file limit
AreInfoMembers None file limit = AreImageSummaryMembers limit
