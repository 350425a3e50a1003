use Rattle.std.proofs.Common.{◌≡◌, ◌≤◌, ℕ, ◌+◌, length}
use Rattle.mach_layout.specs.Commands.{states_size}
use Rattle.mach_layout.proofs.commands.states_size.Given as goal

abbrev pub invariant-loop-rest : goal.invariant-loop-rest
invariant-loop-rest l =
    (n : ℕ) × (length l.rest ≤ n) × (l.size + states_size n l.le l.rest ≡ states_size (length l.fn.rest) l.le l.fn.rest)
    × (l.size + length l.rest ≡ length l.fn.rest)

abbrev pub decreases-loop-rest : goal.decreases-loop-rest
decreases-loop-rest l = length l.rest
