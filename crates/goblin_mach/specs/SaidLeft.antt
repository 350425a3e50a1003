-- What contracts see of what single commands say, and what is left of the iterators over it.
use Rattle.std.specs.Prelude.{ℕ, List, map, Option, Result, filter_map}
use Rattle.std.specs.Borrow.{Bor}
use Rattle.std.specs.Slice.Iter.{iter_rest}
use Rattle.mach_base.specs.Fault.{Fault}
use Rattle.mach_base.specs.Items.{read_as}
use Rattle.mach_base.specs.declared.error.Error.{Error}
use Rattle.mach_load.specs.Command.{Command}
use Rattle.mach_load.specs.Variants.{command_of}
use Rattle.goblin_mach.specs.Said.{FilesetEntryView}
use Rattle.goblin_mach.specs.declared.said.FilesetEntry.{FilesetEntry}
use Rattle.goblin_mach.specs.declared.said.SubjectIterator.{SubjectIterator}

-- a text, as it was returned
abbrev pub said_text : Result (Bor (List ℕ)) Error → Result (List ℕ) Fault
said_text item = read_as (λ text. text.now) item

abbrev pub fileset_entry_view : FilesetEntry → FilesetEntryView
fileset_entry_view e = record { name = e.name.now; address = e.address; offset = e.offset }

abbrev pub fileset_entry_read : Result FilesetEntry Error → Result FilesetEntryView Fault
fileset_entry_read item = read_as fileset_entry_view item

-- what the commands that are left say
abbrev pub said_left : {R V : Type 0} → (R → Command → Option V) → SubjectIterator R → List V
said_left said it = filter_map (said it.reader) (map command_of (iter_rest it.commands))
