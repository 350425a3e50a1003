use Rattle.std.proofs.Common.{length}
use Rattle.mach_signature.specs.CodeFaultViews.{code_faults_left}
use Rattle.machsign.proofs.Checked.{Counts}
use Rattle.machsign.proofs.block.sound_pages.Given as goal

abbrev pub invariant-faults : goal.invariant-faults
invariant-faults l = Counts l.pages (code_faults_left l.fn.faults) (code_faults_left l.faults) l.sound

abbrev pub decreases-faults : goal.decreases-faults
decreases-faults l = length (code_faults_left l.faults)
