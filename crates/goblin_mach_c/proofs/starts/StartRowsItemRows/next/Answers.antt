use Rattle.std.proofs.Common.{Ok, Err, ap, ◌∙◌, arith}
use Rattle.mach_base.specs.Fault.{fault_of}
use Rattle.mach_load.proofs.StartsRead.{none_left, first_left, end_left, fault_left}
use Rattle.goblin_mach_c.proofs.starts.StartRowsItemRows.next.Goals as goal

pub returns-then-self-clause-says : goal.returns-then-self-clause-says
returns-then-self-clause-says c = λ x over.
    let it = c.args.self.now in
    let none = none_left it.bytes.now it.upto it.place it.address (omega arith) in (none, none)

pub returns-in-Ok-Some-clause-says : goal.returns-in-Ok-Some-clause-says
returns-in-Ok-Some-clause-says c = λ x over.
    let it = c.args.self.now in (
      Ok c.in-Ok-Some.start,
      first_left it.bytes.now it.upto it.place it.address c.in-Ok-Some.start c.in-Ok-Some.next (omega arith)
          (c.in-Ok-Some.ensures ∙ ap Ok c.in-Ok-Some.field-0-is),
      c.row_of.ensures,
    )

pub returns-in-Ok-None-clause-says : goal.returns-in-Ok-None-clause-says
returns-in-Ok-None-clause-says c = λ x over.
    let it = c.args.self.now in (
      end_left it.bytes.now it.upto it.place it.address (omega arith) (c.in-Ok-None.ensures ∙ ap Ok c.in-Ok-None.field-0-is),
      none_left it.bytes.now it.upto it.upto it.address (omega arith),
    )

pub returns-in-Err-clause-says : goal.returns-in-Err-clause-says
returns-in-Err-clause-says c = λ x over.
    let it = c.args.self.now in (
      Err (fault_of c.in-Err.why),
      fault_left it.bytes.now it.upto it.place it.address (fault_of c.in-Err.why) (omega arith) c.in-Err.ensures,
      c.refused_row.ensures,
    )
