use Rattle.std.proofs.Common.{Ok, ap, ◌∙◌, arith}
use Rattle.mach_base.specs.Fault.{fault_of}
use Rattle.mach_load.proofs.StartsRead.{none_left, first_left, end_left, fault_left, fewer_after}
use Rattle.mach_load.proofs.function_starts.FunctionStartIteratorIterator.next.Goals as goal

pub returns-then-self-clause-steps : goal.returns-then-self-clause-steps
returns-then-self-clause-steps c =
    let it = c.args.self.now in
    let none = none_left it.bytes.now it.upto it.place it.address (omega arith) in (none, none)

pub returns-in-Ok-Some-clause-steps : goal.returns-in-Ok-Some-clause-steps
returns-in-Ok-Some-clause-steps c =
    let it = c.args.self.now in
    first_left it.bytes.now it.upto it.place it.address c.in-Ok-Some.start c.in-Ok-Some.next (omega arith)
    (c.in-Ok-Some.ensures ∙ ap Ok c.in-Ok-Some.field-0-is)

pub returns-in-Ok-Some-clause-goes : goal.returns-in-Ok-Some-clause-goes
returns-in-Ok-Some-clause-goes c =
    record {
      on = λ _. (tt, tt, fewer_after _ _ _ (returns-in-Ok-Some-clause-steps c));
      keeps = tt;
      rests = λ _. tt;
    }

pub returns-in-Ok-None-clause-steps : goal.returns-in-Ok-None-clause-steps
returns-in-Ok-None-clause-steps c =
    let it = c.args.self.now in (
      end_left it.bytes.now it.upto it.place it.address (omega arith) (c.in-Ok-None.ensures ∙ ap Ok c.in-Ok-None.field-0-is),
      none_left it.bytes.now it.upto it.upto it.address (omega arith),
    )

pub returns-in-Err-clause-steps : goal.returns-in-Err-clause-steps
returns-in-Err-clause-steps c =
    let it = c.args.self.now in
    fault_left it.bytes.now it.upto it.place it.address (fault_of c.in-Err.e) (omega arith) c.in-Err.ensures

pub returns-in-Err-clause-goes : goal.returns-in-Err-clause-goes
returns-in-Err-clause-goes c =
    record {
      on = λ _. (tt, tt, fewer_after _ _ _ (returns-in-Err-clause-steps c));
      keeps = tt;
      rests = λ _. tt;
    }
