use Rattle.std.proofs.Common.{◌∙◌, sym}
use Rattle.mach_dyld.specs.Machine.{items_left}
use Rattle.mach_dyld.proofs.BindingTurns.{fault-following}
use Rattle.mach_dyld.specs.RebaseRuns.{run_left}
use Rattle.mach_dyld.specs.RebasesLeft.{rebase_rules}
use Rattle.mach_dyld.proofs.RebaseTurns.{no_fault_left}
use Rattle.mach_dyld.proofs.rebases.OpcodeRebaseIterator.has_fault_counted.Goals as goal

pub returns-clause-fault : goal.returns-clause-fault
returns-clause-fault c =
    let it = c.args.self in
    c.has_fault_counted.ensures.fault ∙ sym (fault-following (run_left it.run) (items_left rebase_rules it.stream) (no_fault_left it.run))
