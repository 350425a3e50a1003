use Rattle.std.proofs.Common.{◌∙◌, ◌∷◌, ℕ, List, Result, Some, Ok, Err, IfOk, sym, ap, subst}
use Rattle.mach_base.specs.Fault.{Fault, fault_of}
use Rattle.mach_dyld.specs.Bindings.{upto_fault}
use Rattle.mach_parts.specs.Bindings.{Binding, binding_view}
use Rattle.goblin_mach_c.specs.BindingsAfter.{HasPlacedName, PlacedFirst, all_placed}
use Rattle.goblin_mach_c.proofs.bindings.BindingRowsItemRows.next.Goals as goal

pub returns-in-Ok-clause-says : goal.returns-in-Ok-clause-says
returns-in-Ok-clause-says c = λ x over.
    let p = c.in-Ok.placed in
    let own = subst (λ r. PlacedFirst (all_placed c.args.self.now) (Some r) (all_placed c.step.new.self)) c.in-Ok.is (c.in_ok-placed.ensures.own x over) in
    let occurs : HasPlacedName x.bytes p = subst (λ r. IfOk r (HasPlacedName x.bytes)) c.in-Ok.is (c.in_ok-placed.ensures.placed x over) in (
      Ok (binding_view p.binding, p.name_place),
      ap (λ (l : List (Result (Binding × ℕ) Fault)). upto_fault l) own,
      record { numbers = c.row_of.ensures.numbers; name = c.row_of.ensures.name x.bytes occurs },
    )

pub returns-in-Err-clause-says : goal.returns-in-Err-clause-says
returns-in-Err-clause-says c = λ x over.
    let f = fault_of c.in-Err.why in
    let own = subst (λ r. PlacedFirst (all_placed c.args.self.now) (Some r) (all_placed c.step.new.self)) c.in-Err.is (c.in_ok-placed.ensures.own x over) in (
      Err f,
      ap (λ (l : List (Result (Binding × ℕ) Fault)). upto_fault l) own.1
          ∙ ap (λ (l : List (Result (Binding × ℕ) Fault)). Err f ∷ l) (sym c.end.ensures.placed),
      c.refused_row.ensures,
    )
