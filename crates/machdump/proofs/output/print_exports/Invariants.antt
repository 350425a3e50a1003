use Rattle.mach_dyld.specs.Walks.{work_left}
use Rattle.machdump.proofs.output.print_exports.Given as goal

abbrev pub decreases-exports : goal.decreases-exports
decreases-exports g l = work_left l.walk
