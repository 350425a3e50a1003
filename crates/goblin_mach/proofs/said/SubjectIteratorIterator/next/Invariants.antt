use Rattle.std.proofs.Common.{◌≡◌, length}
use Rattle.std.specs.Slice.Iter.{iter_rest}
use Rattle.goblin_mach.specs.SaidLeft.{said_left}
use Rattle.goblin_mach.proofs.said.SubjectIteratorIterator.next.Given as goal

abbrev pub invariant-commands : goal.invariant-commands
invariant-commands g l = said_left g.R.CommandReader.said l.initial.self ≡ said_left g.R.CommandReader.said l.self

abbrev pub decreases-commands : goal.decreases-commands
decreases-commands g l = length (iter_rest l.self.commands)
