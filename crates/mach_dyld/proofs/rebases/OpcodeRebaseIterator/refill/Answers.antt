use Rattle.std.proofs.Common.{◌∙◌, ◌++◌, List, Result, ap}
use Rattle.mach_base.specs.Fault.{Fault}
use Rattle.mach_dyld.specs.BindingFaults.{has_fault}
use Rattle.mach_dyld.specs.Machine.{items_left}
use Rattle.mach_dyld.proofs.StreamStops.{after_end}
use Rattle.mach_dyld.specs.Rebases.{Rebase}
use Rattle.mach_dyld.specs.RebasesLeft.{rebase_rules}
use Rattle.mach_dyld.specs.StreamsMove.{rebase_reads}
use Rattle.mach_dyld.proofs.RebaseTurns.{after_none, no_fault_left}
use Rattle.mach_dyld.proofs.rebases.OpcodeRebaseIterator.refill.Goals as goal

pub returns-then-self-clause-none : goal.returns-then-self-clause-none
returns-then-self-clause-none c = λ no.
    record {
      run = c.requires;
      stream = record { ended = c.if-self.true; left = (after_end rebase_rules rebase_reads c.args.self.now.stream c.if-self.true).0 };
    }

pub returns-then-self-clause-reads_none : goal.returns-then-self-clause-reads_none
returns-then-self-clause-reads_none c = λ no. (after_end rebase_rules rebase_reads c.args.self.now.stream c.if-self.true).1

pub returns-clause-items : goal.returns-clause-items
returns-clause-items c =
    let made = c.in-Some.ensures.made in
    after_none c.args.self.now c.requires ∙ c.in-Ok-true.ensures.items
    ∙ c.pass.ensures.items (ap has_fault made ∙ no_fault_left c.in-Some.run')
    ∙ ap (λ (front : List (Result Rebase Fault)). front ++ items_left rebase_rules c.pass.new.self) made
