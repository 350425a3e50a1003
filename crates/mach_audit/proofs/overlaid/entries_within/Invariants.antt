use Rattle.std.proofs.Common.{◌≡◌, ◌+◌, take, length}
use Rattle.mach_audit.specs.Overlaid.{selected_bytes}
use Rattle.mach_audit.proofs.overlaid.entries_within.Given as goal

abbrev pub invariant-loop-index : goal.invariant-loop-index
invariant-loop-index g l = l.left + selected_bytes g.R.ArchRecord.arch_form (g.S.Selection.selects l.selection) l.bytes (take l.index l.archs) ≡ length l.bytes
