-- The lines that the program prints of an image.
use Rattle.std.specs.Prelude.{◌≡◌, ℕ, List, [], codes, Bool, Option, Some, None, IsTrue, ◌↔◌}
use Rattle.std.specs.Borrow.{Bor}
use Rattle.mach_base.specs.declared.context.Container.TheVariants.{Big}
use Rattle.mach_parts.specs.Symbols.{SymbolTable, table_in_bounds}
use Rattle.goblin_mach.specs.ImageFacts.{Facts, HasFacts}
use Rattle.goblin_mach.specs.Image.{LossyOpens}
use Rattle.mach_cli.specs.Listings.{AreFirstLines}
use Rattle.machsyms.specs.LetterWords.{selected_of}
use Rattle.machsyms.specs.Lines.{selected_lines, past_the_end, symbols_over, unreadable_word}
use Rattle.machsyms.specs.Order.{AreKeysInOrder, gone_over}
use Rattle.machsyms.specs.Setting.{setting_of}
use Rattle.machsyms.specs.declared.arguments.Letters.{Letters}
use Rattle.machsyms.specs.declared.selection.Request.{Request}
use Rattle.machsyms.specs.declared.selection.Sorting.{Sorting}
use Rattle.machsyms.specs.declared.order.SortKey.{SortKey}

-- These are the keys of the table's symbols within the bytes, sorted; there are none if the symbols stay in table order.
abbrev pub AreImageKeys : Option Sorting → Option SymbolTable → List SortKey → Type 0
AreImageKeys None table keys = keys ≡ []
AreImageKeys (Some sorting) None keys = keys ≡ []
AreImageKeys (Some sorting) (Some t) keys = AreKeysInOrder sorting (table_in_bounds t) keys

-- The text is the lines of the image at the start of the bytes. It has a line for each selected symbol of its table whose record
-- begins within the bytes, in the selected order, with the letters of its sections: the first ones, as many as are left of the
-- limit. A line follows if there are more, and one for all symbols whose records don't begin within the bytes. It is whole if
-- there are none of these, no more than are left, and none that can't be read. Of the limit `rest` are left after it.
pub record AreImageSymbolLines (a : Request) (limit left : ℕ) (bytes : List ℕ) (text : List ℕ) (whole : Bool) (rest : ℕ) : Type 0 where
  pub opens : LossyOpens bytes 0
  pub facts : Facts
  pub has_facts : HasFacts bytes 0 facts
  pub is_64 : Bool
  pub has_width : IsTrue is_64 ↔ (facts.ctx.container ≡ Big)
  pub keys : List SortKey
  pub in_order : AreImageKeys a.sorting facts.symbols keys
  pub lines : AreFirstLines (unreadable_word a) limit left (selected_lines a (setting_of is_64 facts) (symbols_over (gone_over a.sorting keys) facts.symbols))
      (codes "symbols") (past_the_end facts.symbols) text whole rest

-- The same of the symbols that letters select of a file of a name.
pub record AreSelectedLines (letters : Letters) (is_raw : Bool) (file : List ℕ) (limit left : ℕ) (bytes : List ℕ) (text : List ℕ) (whole : Bool)
    (rest : ℕ) : Type 0 where
  pub name : Bor (List ℕ)
  pub is_name : name.now ≡ file
  pub lines : AreImageSymbolLines (selected_of letters is_raw name) limit left bytes text whole rest
