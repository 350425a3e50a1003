use Rattle.std.proofs.Common.{◌≡◌, length}
use Rattle.std.specs.Slice.Iter.{iter_rest}
use Rattle.goblin_mach.specs.Libraries.{libraries_left}
use Rattle.goblin_mach.proofs.libraries.LibraryIteratorIterator.next.Given as goal

abbrev pub invariant-commands : goal.invariant-commands
invariant-commands l = libraries_left l.initial.self ≡ libraries_left l.self

abbrev pub decreases-commands : goal.decreases-commands
decreases-commands l = length (iter_rest l.self.commands)
