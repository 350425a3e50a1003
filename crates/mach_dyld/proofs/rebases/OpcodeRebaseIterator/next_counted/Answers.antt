use Rattle.std.proofs.Common.{◌∙◌, ◌∷◌, Err, sym, ap}
use Rattle.mach_base.specs.Fault.{fault_of}
use Rattle.mach_dyld.specs.declared.rebases.OpcodeRebaseIterator.{OpcodeRebaseIterator}
use Rattle.mach_dyld.proofs.RebaseTurns.{after_none}
use Rattle.mach_dyld.proofs.rebases.OpcodeRebaseIterator.next_counted.Goals as goal

pub returns-in-Ok-false-clause-items : goal.returns-in-Ok-false-clause-items
returns-in-Ok-false-clause-items c =
    let met = c.in-Ok-false.ensures in
    let ended = met.none c.in-Ok-false.field-0-test in
    let none = after_none c.refill.new.self ended.run ∙ ended.stream.left in
    (met.items ∙ none, none)

pub returns-in-Err-clause-items : goal.returns-in-Err-clause-items
returns-in-Err-clause-items c =
    let met = c.in-Err.ensures in
    let fails = c.end_at.ensures.fails in
    let new : OpcodeRebaseIterator = record { run = c.refill.new.self.run; stream = c.end_at.new.self } in
    met.items ∙ after_none c.refill.new.self met.left ∙ fails.0
    ∙ ap (λ items. Err (fault_of c.end_at.result) ∷ items) (sym (after_none new met.left ∙ fails.1))
