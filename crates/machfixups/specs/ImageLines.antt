-- The lines that the program prints of an image.
use Rattle.std.specs.Prelude.{ℕ, List, [], codes, length, Bool, Option, Result}
use Rattle.mach_base.specs.Fault.{Fault}
use Rattle.mach_parts.specs.Segment.{SegmentView}
use Rattle.mach_chained.specs.Header.{Fixups}
use Rattle.goblin_mach.specs.Facts.{HasSegments, HasLibraries, HasChainedFixups}
use Rattle.goblin_mach.specs.Image.{LossyOpens}
use Rattle.machfixups.specs.Lists.{PointerLists, HasPointerLists}
use Rattle.goblin_mach.specs.AllStretches.{parts_of}
use Rattle.goblin_mach.specs.SymbolAtAddress.{SymbolBelow}
use Rattle.machfixups.specs.Headed.{headed}
use Rattle.machfixups.specs.RowFields.{heading_line, lines_reported}
use Rattle.machfixups.specs.Rows.{PointerRows, line_rows, readable_table, rows_in_order}
use Rattle.mach_cli.specs.Listings.{AreFirstLines}
use Rattle.mach_cli.specs.Shown.{ImageLines}
use Rattle.machfixups.specs.TargetSymbols.{HasTargetSymbols}
use Rattle.machfixups.specs.declared.rows.Selection.{Selection}

-- The text is the lines of the first of these rows, as many as are left of the limit, in order, and a line if there are more. A row
-- that can't be read has a line with the error. The heading is before the first row that can be read, if it is one of these.
abbrev pub ArePointerLines : (limit left : ℕ) → PointerRows → (text : List ℕ) → (whole : Bool) → (rest : ℕ) → Type 0
ArePointerLines limit left rows text whole rest =
    AreFirstLines (codes "unreadable") limit left (headed heading_line (lines_reported (rows_in_order rows))) [] 0 text whole rest

-- The text is the lines of the image at the start of the bytes, by what is selected: one for each rebase of its opcodes, in order,
-- then one for each of their binds, then one for each row of its weak binds, then one for each fixup of its chains, in their order,
-- whatever lists select it. Names are those of its segments, with no more sections than there are bytes, of its libraries, and of
-- the symbols at the targets of rebases. Of all lines these are the first ones, as many as are left of the limit, and a line
-- follows if there are more. It is whole if there are no more and each can be read. Of the limit `rest` are left after it.
pub record AreImagePointerLines (selection : Selection) (limit left : ℕ) (bytes : List ℕ) (text : List ℕ) (whole : Bool) (rest : ℕ) : Type 0 where
  pub opens : LossyOpens bytes 0
  pub segments : List SegmentView
  pub has_segments : HasSegments bytes 0 segments
  pub lists : PointerLists
  pub has_lists : HasPointerLists bytes 0 lists
  pub libs : List (List ℕ)
  pub has_libs : HasLibraries bytes 0 libs
  pub chained : Result (Option Fixups) Fault
  pub has_chained : HasChainedFixups bytes 0 chained
  pub symbols : ℕ → Option SymbolBelow
  pub has_symbols : HasTargetSymbols bytes 0 symbols
  pub lines : ArePointerLines limit left (line_rows selection (parts_of (length bytes) segments) symbols libs (readable_table chained) lists) text whole rest

-- the same of an image of any file
abbrev pub image_pointer_lines : Selection → (file : List ℕ) → (limit : ℕ) → ImageLines
image_pointer_lines selection file limit = AreImagePointerLines selection limit
