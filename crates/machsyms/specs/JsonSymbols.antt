-- The members of the object of an image: its symbols.
use Rattle.std.specs.Prelude.{◌≡◌, ℕ, List, [], ◌∷◌, ◌++◌, codes, map, Bool, Option, Result}
use Rattle.std.specs.Borrow.{Bor}
use Rattle.std.specs.Fmt.{decimal}
use Rattle.std.specs.Io.KnownBytes.{Appends}
use Rattle.std.specs.List.{filter}
use Rattle.mach_base.specs.Fault.{Fault}
use Rattle.mach_parts.specs.declared.symbols.nlist.Nlist.{Nlist}
use Rattle.goblin_mach.specs.ImageFacts.{Facts, HasFacts}
use Rattle.goblin_mach.specs.Image.{LossyOpens}
use Rattle.mach_cli.specs.Listings.{reported_by}
use Rattle.mach_cli.specs.JsonArrays.{AreMembersInBounds, NamedRows}
use Rattle.mach_cli.specs.JsonText.{json_string}
use Rattle.machsyms.specs.Request.{takes}
use Rattle.machsyms.specs.ImageLines.{AreImageKeys}
use Rattle.machsyms.specs.LetterWords.{selected_of}
use Rattle.machsyms.specs.Lines.{past_the_end, symbols_over}
use Rattle.machsyms.specs.Order.{gone_over}
use Rattle.machsyms.specs.declared.arguments.Letters.{Letters}
use Rattle.machsyms.specs.declared.selection.Request.{Request}
use Rattle.machsyms.specs.declared.order.SortKey.{SortKey}

-- the object of a symbol: the fields of its record, and its name
abbrev pub symbol_object : List ℕ → Nlist → List ℕ
symbol_object name s =
    codes "{\"desc\":"
    ++ (decimal s.n_desc
    ++ (codes ",\"n_type\":"
    ++ (decimal s.n_type
    ++ (codes ",\"name\":"
    ++ (json_string name
    ++ (codes ",\"section\":"
    ++ (decimal s.n_sect
    ++ (codes ",\"value\":"
    ++ (decimal s.n_value
    ++ codes "}")))))))))

-- the object of a symbol, or the fault if it can't be read
abbrev pub symbol_reported : Result (List ℕ × Nlist) Fault → Result (List ℕ) Fault
symbol_reported symbol = reported_by (λ found. symbol_object found.0 found.1) symbol

-- the list of the selected symbols, with the name of its member
abbrev pub symbol_members : Request → List (Result (List ℕ × Nlist) Fault) → List NamedRows
symbol_members a symbols = record { name = codes "symbols"; rows = map symbol_reported (filter (takes a) symbols) } ∷ []

-- These members were written.
pub record WritesSymbolMembers (left : ℕ) (lists : List NamedRows) (past : ℕ) (whole : Bool) (rest : ℕ) (old new : Option (List ℕ)) : Type 0 where
  pub text : List ℕ
  pub members : AreMembersInBounds left lists past text whole rest
  pub written : Appends old new text

-- The text is the members of the image at the start of the bytes. It has exactly one object for each selected symbol of its table
-- whose record begins within the bytes, in the selected order: the first ones, as many as are left of the limit; whether there
-- are more; and how many symbols' records don't begin there. It is whole if there are none of these, no more than are left, and
-- none that can't be read. Of the limit `rest` are left after it.
pub record AreImageSymbolMembers (a : Request) (left : ℕ) (bytes : List ℕ) (text : List ℕ) (whole : Bool) (rest : ℕ) : Type 0 where
  pub opens : LossyOpens bytes 0
  pub facts : Facts
  pub has_facts : HasFacts bytes 0 facts
  pub keys : List SortKey
  pub in_order : AreImageKeys a.sorting facts.symbols keys
  pub members : AreMembersInBounds left (symbol_members a (symbols_over (gone_over a.sorting keys) facts.symbols)) (past_the_end facts.symbols) text whole rest

-- The same of the symbols that letters select of a file of a name.
pub record AreSelectedMembers (letters : Letters) (is_raw : Bool) (file : List ℕ) (limit left : ℕ) (bytes : List ℕ) (text : List ℕ) (whole : Bool)
    (rest : ℕ) : Type 0 where
  pub name : Bor (List ℕ)
  pub is_name : name.now ≡ file
  pub members : AreImageSymbolMembers (selected_of letters is_raw name) left bytes text whole rest
