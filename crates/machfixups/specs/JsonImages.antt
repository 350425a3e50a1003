-- The members of an image's object: its rebases, binds and fixups.
use Rattle.std.specs.Prelude.{ℕ, List, [], ◌∷◌, codes, length, Bool, Option, Result}
use Rattle.mach_base.specs.Fault.{Fault}
use Rattle.mach_parts.specs.Segment.{SegmentView}
use Rattle.mach_chained.specs.Header.{Fixups}
use Rattle.goblin_mach.specs.Facts.{HasSegments, HasLibraries, HasChainedFixups}
use Rattle.goblin_mach.specs.Image.{LossyOpens}
use Rattle.mach_cli.specs.Fields.{fields_object}
use Rattle.mach_cli.specs.JsonArrays.{AreListMembers, NamedRows}
use Rattle.machfixups.specs.Lists.{PointerLists, HasPointerLists}
use Rattle.goblin_mach.specs.AllStretches.{parts_of}
use Rattle.goblin_mach.specs.SymbolAtAddress.{SymbolBelow}
use Rattle.machfixups.specs.RowFields.{texts_reported}
use Rattle.machfixups.specs.Rows.{PointerRow, PointerRows, object_rows, readable_table}
use Rattle.mach_cli.specs.Shown.{ImageLines}
use Rattle.machfixups.specs.TargetSymbols.{HasTargetSymbols}
use Rattle.machfixups.specs.declared.rows.Selection.{Selection}

-- the objects of a list, with the name of its member
abbrev pub named_objects : (name : List ℕ) → List (Result PointerRow Fault) → NamedRows
named_objects name rows = record { name = name; rows = texts_reported fields_object rows }

-- the lists of an image with the names of their members
abbrev pub pointer_members : PointerRows → List NamedRows
pointer_members rows =
    named_objects (codes "rebases") rows.rebases
    ∷ named_objects (codes "binds") rows.binds
    ∷ named_objects (codes "weak") rows.weak
    ∷ named_objects (codes "chains") rows.chains
    ∷ []

-- The text is the members of the image at the start of the bytes, of the selected lists: exactly one object for each rebase of its
-- opcodes, in order, and then of its chains, for each bind of its opcodes and then of its chains, for each row of its weak binds,
-- and for each fixup of its chains. Names are those of its segments, with no more sections than there are bytes, of its libraries,
-- and of the symbols at the targets of rebases. Of all objects these are the first ones, as many as are left of the limit, and
-- whether there are more. It is whole if there are no more and each can be read. Of the limit `rest` are left after it.
pub record AreImagePointerMembers (selection : Selection) (left : ℕ) (bytes : List ℕ) (text : List ℕ) (whole : Bool) (rest : ℕ) : Type 0 where
  pub opens : LossyOpens bytes 0
  pub segments : List SegmentView
  pub has_segments : HasSegments bytes 0 segments
  pub lists : PointerLists
  pub has_lists : HasPointerLists bytes 0 lists
  pub libs : List (List ℕ)
  pub has_libs : HasLibraries bytes 0 libs
  pub chained : Result (Option Fixups) Fault
  pub has_chained : HasChainedFixups bytes 0 chained
  pub symbols : ℕ → Option SymbolBelow
  pub has_symbols : HasTargetSymbols bytes 0 symbols
  pub members : AreListMembers left (pointer_members (object_rows selection (parts_of (length bytes) segments) symbols libs (readable_table chained) lists))
      text whole rest

-- the same of an image of any file, for any limit of the file
abbrev pub image_pointer_members : Selection → (file : List ℕ) → (limit : ℕ) → ImageLines
image_pointer_members selection file limit = AreImagePointerMembers selection
