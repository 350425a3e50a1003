use Rattle.std.proofs.Common.{◌≡◌, ◌∷◌, ◌+◌, [], Some, None, Ok, Err, OnOk, refl, sym, ap, subst, ◌∙◌, arith}
use Rattle.mach_base.specs.Fault.{fault_of}
use Rattle.mach_chained.specs.WalkViews.{fixup_input_of, fixup_view, fixup_read}
use Rattle.mach_chained.specs.FixupsLeft.{fixups_left}
use Rattle.mach_chained.specs.Bindings.{binding_in}
use Rattle.mach_parts.specs.Bindings.{binding_view, binding_read}
use Rattle.mach_base.specs.Text.{texts}
use Rattle.mach_chained.specs.BindingViews.{chained_bindings_left, pointers_left}
use Rattle.mach_chained.proofs.BindingsLeft.{on_bindings, off_bindings, before_others, on_pointers, off_pointers}
use Rattle.mach_chained.proofs.bindings.ChainedBindIterator.step.Goals as goal

pub returns-then-self-clause-items : goal.returns-then-self-clause-items
unfolding chained_bindings_left
returns-then-self-clause-items c =
    let it = c.args.self.now in
    let none = off_bindings it.ended it.fixups.source (texts it.libs.now) (fixups_left it.fixups) c.if-self.true in
    (none, none)

pub returns-then-self-clause-end : goal.returns-then-self-clause-end
unfolding chained_bindings_left
returns-then-self-clause-end c =
    let it = c.args.self.now in record {
      ended = c.if-self.true;
      left = off_bindings it.ended it.fixups.source (texts it.libs.now) (fixups_left it.fixups) c.if-self.true;
    }

pub returns-in-None-clause-items : goal.returns-in-None-clause-items
unfolding chained_bindings_left
returns-in-None-clause-items c =
    let it = c.fixups.self in
    let libs = texts it.libs.now in
    let inv = c.fixups.invariant in (
      inv.items ∙ on_bindings it.ended it.fixups.source it.fixups.source libs (fixups_left it.fixups) [] inv.on refl c.in-None.ensures.items.0,
      c.end.ensures.items,
    )

pub returns-in-Some-Err-clause-items : goal.returns-in-Some-Err-clause-items
unfolding chained_bindings_left
returns-in-Some-Err-clause-items c =
    let it = c.fixups.self in
    let new = c.step.new.self in
    let libs = texts it.libs.now in
    let inv = c.fixups.invariant in
    let f = fault_of c.in-Some-Err.e in
    let there : fixups_left it.fixups ≡ Err f ∷ fixups_left new =
    c.in-Some-Err.ensures.items ∙ ap (λ r. fixup_read r ∷ fixups_left new) c.in-Some-Err.field-0-is in
    inv.items ∙ on_bindings it.ended it.fixups.source it.fixups.source libs (fixups_left it.fixups) (Err f ∷ fixups_left new) inv.on refl there
    ∙ ap (λ r. Err f ∷ r) (sym c.end-in-Some-Err.ensures.items)

pub returns-in-Some-Ok-binding-clause-items : goal.returns-in-Some-Ok-binding-clause-items
unfolding chained_bindings_left
returns-in-Some-Ok-binding-clause-items c =
    let it = c.fixups.self in
    let new = c.step.new.self in
    let libs = texts it.libs.now in
    let inv = c.fixups.invariant in
    let x = fixup_input_of new.source in
    let f = fixup_view c.in-Some-Ok.fixup in
    let there : fixups_left it.fixups ≡ Ok f ∷ fixups_left new =
    c.in-Some-Ok.ensures.items ∙ ap (λ r. fixup_read r ∷ fixups_left new) c.in-Some-Ok.field-0-is in
    let b = binding_view c.in-Some-Ok-binding.binding in
    let own : binding_in x libs f ≡ Some (Ok b) = c.in-Some-Ok-binding.ensures.binding ∙ ap (λ r. Some (binding_read r)) c.in-Some-Ok-binding.field-0-is in
    inv.items ∙ on_bindings it.ended it.fixups.source new.source libs (fixups_left it.fixups) (Ok f ∷ fixups_left new) inv.on c.step.ensures.source there
    ∙ before_others x libs f (fixups_left new) (Some (Ok b)) own
    ∙ ap (λ m. Ok b ∷ m) (sym (on_bindings it.ended new.source new.source libs (fixups_left new) (fixups_left new) inv.on refl refl))

pub returns-in-Some-Err-binding-clause-items : goal.returns-in-Some-Err-binding-clause-items
unfolding chained_bindings_left
returns-in-Some-Err-binding-clause-items c =
    let it = c.fixups.self in
    let new = c.step.new.self in
    let libs = texts it.libs.now in
    let inv = c.fixups.invariant in
    let x = fixup_input_of new.source in
    let f = fixup_view c.in-Some-Ok.fixup in
    let there : fixups_left it.fixups ≡ Ok f ∷ fixups_left new =
    c.in-Some-Ok.ensures.items ∙ ap (λ r. fixup_read r ∷ fixups_left new) c.in-Some-Ok.field-0-is in
    let g = fault_of c.in-Some-Err-binding.e in
    let own : binding_in x libs f ≡ Some (Err g) = c.in-Some-Err-binding.ensures.binding ∙ ap (λ r. Some (binding_read r)) c.in-Some-Err-binding.field-0-is in
    inv.items ∙ on_bindings it.ended it.fixups.source new.source libs (fixups_left it.fixups) (Ok f ∷ fixups_left new) inv.on c.step.ensures.source there
    ∙ before_others x libs f (fixups_left new) (Some (Err g)) own
    ∙ ap (λ m. Err g ∷ m) (sym c.end-in-Some-Err-binding.ensures.items)

pub fixups-preserved : goal.fixups-preserved
unfolding chained_bindings_left pointers_left
fixups-preserved c =
    let it = c.fixups.self in
    let new = c.step.new.self in
    let libs = texts it.libs.now in
    let inv = c.fixups.invariant in
    let x = fixup_input_of new.source in
    let f = fixup_view c.in-Some-Ok.fixup in
    let there : fixups_left it.fixups ≡ Ok f ∷ fixups_left new =
    c.in-Some-Ok.ensures.items ∙ ap (λ r. fixup_read r ∷ fixups_left new) c.in-Some-Ok.field-0-is in
    let read : c.step.new.steps ≡ c.fixups.steps + 1 =
    subst (λ item. OnOk item (c.step.new.steps ≡ c.fixups.steps + 1)) c.in-Some-Ok.field-0-is c.in-Some-Ok.ensures.reads in
    let left = on_pointers it.ended (fixups_left it.fixups) (Ok f ∷ fixups_left new) inv.on there in
    let now_left = on_pointers it.ended (fixups_left new) (fixups_left new) inv.on refl in
    record {
      items = inv.items ∙ on_bindings it.ended it.fixups.source new.source libs (fixups_left it.fixups) (Ok f ∷ fixups_left new) inv.on
          c.step.ensures.source there
          ∙ before_others x libs f (fixups_left new) None c.in-None-binding.ensures.binding
          ∙ sym (on_bindings it.ended new.source new.source libs (fixups_left new) (fixups_left new) inv.on refl refl);
      on = inv.on;
      reads = omega (arith, inv.reads, read, left, now_left);
      kept = omega (arith, inv.kept, c.in-Some-Ok.ensures.kept);
    }

pub returns-then-self-clause-none : goal.returns-then-self-clause-none
unfolding pointers_left
returns-then-self-clause-none c =
    let it = c.args.self.now in
    let none = off_pointers it.ended (fixups_left it.fixups) c.if-self.true in omega (arith, none)

pub returns-in-None-clause-none : goal.returns-in-None-clause-none
unfolding pointers_left
returns-in-None-clause-none c =
    let it = c.fixups.self in
    let inv = c.fixups.invariant in
    let left = on_pointers it.ended (fixups_left it.fixups) [] inv.on c.in-None.ensures.items.0 in omega (arith, inv.reads, left, c.in-None.ensures.none)

pub returns-in-Some-Ok-binding-clause-reads : goal.returns-in-Some-Ok-binding-clause-reads
unfolding pointers_left
returns-in-Some-Ok-binding-clause-reads c =
    let it = c.fixups.self in
    let new = c.step.new.self in
    let inv = c.fixups.invariant in
    let f = fixup_view c.in-Some-Ok.fixup in
    let there : fixups_left it.fixups ≡ Ok f ∷ fixups_left new =
    c.in-Some-Ok.ensures.items ∙ ap (λ r. fixup_read r ∷ fixups_left new) c.in-Some-Ok.field-0-is in
    let read : c.step.new.steps ≡ c.fixups.steps + 1 =
    subst (λ item. OnOk item (c.step.new.steps ≡ c.fixups.steps + 1)) c.in-Some-Ok.field-0-is c.in-Some-Ok.ensures.reads in
    let left = on_pointers it.ended (fixups_left it.fixups) (Ok f ∷ fixups_left new) inv.on there in
    let now_left = on_pointers it.ended (fixups_left new) (fixups_left new) inv.on refl in
    omega (arith, inv.reads, read, left, now_left)
