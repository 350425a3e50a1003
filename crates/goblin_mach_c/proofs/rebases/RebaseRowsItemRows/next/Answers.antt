use Rattle.std.proofs.Common.{◌∙◌, ◌∷◌, List, Result, Some, Ok, Err, sym, ap, subst}
use Rattle.mach_base.specs.Fault.{Fault, fault_of}
use Rattle.mach_dyld.specs.Bindings.{upto_fault}
use Rattle.mach_dyld.specs.Rebases.{Rebase}
use Rattle.mach_dyld.specs.RebasesLeft.{rebase_view}
use Rattle.goblin_mach_c.specs.RebasesAfter.{RebaseFirst, all_rebase_rows_left}
use Rattle.goblin_mach_c.proofs.rebases.RebaseRowsItemRows.next.Goals as goal

pub returns-in-Ok-clause-says : goal.returns-in-Ok-clause-says
returns-in-Ok-clause-says c = λ x over.
    let first = subst (λ i. RebaseFirst (all_rebase_rows_left c.args.self.now) (Some i) (all_rebase_rows_left c.step.new.self)) c.in-Ok.is
    c.in_ok-rebase.ensures.items in (
      Ok (rebase_view c.in-Ok.rebase),
      ap (λ (l : List (Result Rebase Fault)). upto_fault l) first,
      c.row_of.ensures,
    )

pub returns-in-Err-clause-says : goal.returns-in-Err-clause-says
returns-in-Err-clause-says c = λ x over.
    let f = fault_of c.in-Err.why in
    let first = subst (λ i. RebaseFirst (all_rebase_rows_left c.args.self.now) (Some i) (all_rebase_rows_left c.step.new.self)) c.in-Err.is
    c.in_ok-rebase.ensures.items in (
      Err f,
      ap (λ (l : List (Result Rebase Fault)). upto_fault l) first.1
          ∙ ap (λ (l : List (Result Rebase Fault)). Err f ∷ l) (sym c.end.ensures.left),
      c.refused_row.ensures,
    )

pub returns-in-Err-clause-over : goal.returns-in-Err-clause-over
returns-in-Err-clause-over c = λ x over. c.end.ensures.over x (c.in_ok-rebase.ensures.over x over)
