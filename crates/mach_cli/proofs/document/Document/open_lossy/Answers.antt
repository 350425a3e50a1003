use Rattle.goblin_mach.specs.Image.{LossyFault}
use Rattle.mach_dyld.proofs.Marking.{not_both}
use Rattle.mach_cli.proofs.Showing.{fault_met}
use Rattle.mach_cli.proofs.document.Document.open_lossy.Goals as goal

pub returns-then-not-self-clause-refused : goal.returns-then-not-self-clause-refused
returns-then-not-self-clause-refused g c = λ is. absurd (not_both is c.if-not-self.true)

pub returns-in_ok-unless_memory-in-Err-clause-refused : goal.returns-in_ok-unless_memory-in-Err-clause-refused
returns-in_ok-unless_memory-in-Err-clause-refused g c = λ is.
    fault_met (LossyFault c.args.bytes.now 0) c.in-Err.again c.in_ok-unless_memory-in-Err.ensures c.in-Err.ensures.refused
