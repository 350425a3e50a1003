use Rattle.std.proofs.Common.{◌≡◌, length}
use Rattle.machsyms.specs.Listed.{selected_left, source_left}
use Rattle.machsyms.proofs.listed.RequestedSymbols.take_next.Given as goal

abbrev pub invariant-symbols : goal.invariant-symbols
invariant-symbols l = selected_left l.initial.self ≡ selected_left l.self

abbrev pub decreases-symbols : goal.decreases-symbols
decreases-symbols l = length (source_left l.self.source)
