use Rattle.std.proofs.Common.{◌≤◌, length}
use Rattle.mach_layout.proofs.Texts.{NoneFrom}
use Rattle.mach_layout.proofs.symbols.counts.texts_end.Given as goal

abbrev pub invariant-loop-end : goal.invariant-loop-end
invariant-loop-end l = record { within : l.end ≤ length l.strings; following : NoneFrom l.strings l.end }

abbrev pub decreases-loop-end : goal.decreases-loop-end
decreases-loop-end l = l.end
