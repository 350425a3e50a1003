use Rattle.std.proofs.Common.{◌≡◌, ◌-◌, length}
use Rattle.machinfo.specs.NumberedNotes.{notes_numbered_left}
use Rattle.machinfo.proofs.notes.NumberedNotes.take_next.Given as goal

abbrev pub invariant-commands : goal.invariant-commands
invariant-commands l = notes_numbered_left l.initial.self ≡ notes_numbered_left l.self

abbrev pub decreases-commands : goal.decreases-commands
decreases-commands l = length l.self.commands.now - l.self.number
