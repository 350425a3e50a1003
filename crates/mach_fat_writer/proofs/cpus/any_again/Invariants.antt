use Rattle.std.proofs.Common.{◌≡◌, None, drop}
use Rattle.mach_fat_writer.specs.Entries.{any_again}
use Rattle.mach_fat_writer.proofs.cpus.any_again.Given as goal

abbrev pub invariant-loop-number : goal.invariant-loop-number
invariant-loop-number l = any_again l.last (drop l.number-index l.numbers) ≡ any_again None l.numbers
