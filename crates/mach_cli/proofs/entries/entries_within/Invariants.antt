use Rattle.std.proofs.Common.{◌≡◌, ◌≤◌, length}
use Rattle.mach_cli.specs.TableEntries.{first_len}
use Rattle.mach_cli.proofs.entries.entries_within.Given as goal

abbrev pub invariant-loop-index : goal.invariant-loop-index
invariant-loop-index g l = (l.taken ≡ first_len g.R.ArchRecord.arch_form l.bytes l.index) × (l.taken ≤ length l.bytes)
