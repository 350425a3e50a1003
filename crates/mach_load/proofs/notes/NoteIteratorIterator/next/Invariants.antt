use Rattle.std.proofs.Common.{◌≡◌, length}
use Rattle.std.specs.Slice.Iter.{iter_rest}
use Rattle.mach_load.specs.TablesLeft.{notes_left}
use Rattle.mach_load.proofs.notes.NoteIteratorIterator.next.Given as goal

abbrev pub invariant-commands : goal.invariant-commands
invariant-commands l = notes_left l.initial.self ≡ notes_left l.self

abbrev pub decreases-commands : goal.decreases-commands
decreases-commands l = length (iter_rest l.self.commands)
