-- The headings of lists: the name of each column.
use Rattle.std.specs.Prelude.{◌≡◌, ℕ, List, [], ◌++◌, codes, Bool, if◌then◌else◌}
use Rattle.machinfo.specs.declared.word.Word.{Word}
use Rattle.machinfo.specs.declared.word.Word.TheVariants as words

-- the heading of a word's list
abbrev pub heading_of : Word → List ℕ
heading_of words.Commands = codes "NUM OFFSET  SIZE COMMAND  FIELDS"
heading_of words.CommandsAlone = codes "NUM OFFSET  SIZE COMMAND  FIELDS"
heading_of words.Starts = codes "ADDRESS"
heading_of words.Slots = codes "ADDRESS KIND SYMBOL"
heading_of words.Indirect = codes "KIND SYMBOL"
heading_of words.Data = codes "OFFSET LENGTH KIND"
heading_of words.Options = codes "COMMAND OPTION"
heading_of words.Tools = codes "COMMAND TOOL VERSION"
heading_of words.Notes = codes "COMMAND OWNER OFFSET SIZE"
heading_of words.Providers = codes "SYMBOL PROVIDER ORDINAL"
heading_of words.Libraries = codes "NAME CURRENT COMPATIBLE USE"
heading_of words.Id = codes "NAME CURRENT COMPATIBLE"
heading_of words.Rebases = codes "ADDRESS TYPE TARGET SIGNING"
heading_of words.Weak = codes "ADDRESS ADDEND WEAK SYMBOL"
heading_of words.Segments = codes "SEGMENT      ADDRESS     SIZE        OFFSET     FILE-SIZE  INI MAX FLAGS"
heading_of words.Sections = codes "NUM SEGMENT      SECTION          ADDRESS     SIZE     OFFSET   TYPE STUBS"
heading_of words.Uuid = codes "KEY UUID CPU"
heading_of words.Rpaths = codes "NUM PATH"
heading_of words.Entry = codes "ADDRESS SEGMENT SECTION SYMBOL"
heading_of words.Header = codes "CPU KIND FLAGS  FIELDS"
heading_of words.Security = codes "VERDICT                IS  MEANING"
heading_of words.SecurityExplained = codes "VERDICT                IS  MEANING"
heading_of words.Relocations = codes "SEGMENT      SECTION          ADDRESS  TYPE                    TARGET PCREL SIZE"
heading_of words.Strings = codes "ADDRESS     SECTION          STRING"
heading_of (words.Bytes name) = codes "ADDRESS     BYTES                            TEXT"

-- the headings of exports, and of what dyld binds
abbrev pub exports_heading : List ℕ
exports_heading = codes "ADDRESS     KIND         WEAK NAME"

abbrev pub imports_heading : List ℕ
imports_heading = codes "ADDRESS     SEGMENT      SECTION          LIBRARY              SYMBOL"

-- the heading of initializers
abbrev pub inits_heading : List ℕ
inits_heading = codes "ADDRESS     SECTION          TARGET      SYMBOL"

-- the line of a heading, if there is one
abbrev pub list_heading : (has_headings : Bool) → (heading : List ℕ) → List ℕ
list_heading has_headings heading = if has_headings then heading ++ codes "\n" else []

-- The text is a heading, if there is one, and then these lines.
pub record AreUnderHeading (has_headings : Bool) (heading : List ℕ) (Are : List ℕ → Bool → ℕ → Type 0) (text : List ℕ) (whole : Bool) (rest : ℕ)
    : Type 0 where
  pub lines : List ℕ
  pub are : Are lines whole rest
  pub is_text : text ≡ list_heading has_headings heading ++ lines
