use Rattle.std.proofs.Common.{◌≡◌, ◌<◌, ℕ, false, get_or}
use Rattle.mach_cli.specs.TerminalShown.{is_control}
use Rattle.mach_cli.proofs.Plain.{ArePlain}
use Rattle.mach_cli.proofs.terminal.plain_len.Given as goal

abbrev pub invariant-bytes : goal.invariant-bytes
invariant-bytes l = ArePlain l.fn.bytes l.at × ((i : ℕ) → i < l.at → is_control (get_or l.fn.bytes i 0) ≡ false)
