use Rattle.std.proofs.Common.{◌≡◌, ◌<◌, ℕ, false}
use Rattle.mach_cli.specs.Painted.{is_painted_at}
use Rattle.mach_cli.proofs.painted.next_painted.Given as goal

abbrev pub invariant-bytes : goal.invariant-bytes
invariant-bytes l = (i : ℕ) → i < l.at → is_painted_at l.fn.text i ≡ false
