use Rattle.std.proofs.Common.{◌≡◌, ◌∙◌, ◌++◌, ◌∷◌, None, Err, List, length, refl, ap, arith, append-nil}
use Rattle.mach_base.specs.Fault.{fault_of}
use Rattle.mach_chained.specs.Chained.{PlacedFixup, fixup_items}
use Rattle.mach_chained.specs.Bindings.{AreBindingItems}
use Rattle.mach_chained.specs.WalkViews.{fixup_input_in}
use Rattle.mach_parts.specs.Bindings.{binding_read}
use Rattle.mach_base.specs.Text.{texts}
use Rattle.mach_chained.specs.BindingViews.{bindings_view, chained_bindings_left}
use Rattle.mach_chained.proofs.Chained.{one_list}
use Rattle.mach_chained.proofs.BindingLists.{oks, listed, refuses, has_none}
use Rattle.mach_chained.proofs.header.ChainedFixups.binds_counted.Goals as goal

pub returns-in-Some-Err-clause-only : goal.returns-in-Some-Err-clause-only
returns-in-Some-Err-clause-only g c = λ list l.
    let x = fixup_input_in c.args.self.now c.args.segments.now c.args.base in
    let libs = texts c.args.libs.now in
    let it = c.start_bindings-left.ensures in
    let are : AreBindingItems x libs (chained_bindings_left c.start_bindings-left.result) = (fixup_items it.0 it.1, (it.0, it.1, it.2, refl), it.3) in
    let rest = chained_bindings_left c.step.new.self in
    let there : chained_bindings_left c.binds.left ≡ Err (fault_of c.in-Some-Err.e) ∷ rest =
    c.in-Some-Err.ensures.items ∙ ap (λ r. binding_read r ∷ rest) c.in-Some-Err.field-0-is in
    absurd (has_none x libs (chained_bindings_left c.start_bindings-left.result) are (bindings_view c.binds.found.items)
    (chained_bindings_left c.binds.left) rest c.binds.invariant.items c.in-Some-Err.e there list l)

pub returns-in-Some-Err-clause-refused : goal.returns-in-Some-Err-clause-refused
returns-in-Some-Err-clause-refused g c =
    let x = fixup_input_in c.args.self.now c.args.segments.now c.args.base in
    let libs = texts c.args.libs.now in
    let it = c.start_bindings-left.ensures in
    let are : AreBindingItems x libs (chained_bindings_left c.start_bindings-left.result) = (fixup_items it.0 it.1, (it.0, it.1, it.2, refl), it.3) in
    let rest = chained_bindings_left c.step.new.self in
    let there : chained_bindings_left c.binds.left ≡ Err (fault_of c.in-Some-Err.e) ∷ rest =
    c.in-Some-Err.ensures.items ∙ ap (λ r. binding_read r ∷ rest) c.in-Some-Err.field-0-is in
    refuses x libs (chained_bindings_left c.start_bindings-left.result) are (bindings_view c.binds.found.items)
    (chained_bindings_left c.binds.left) rest c.binds.invariant.items c.in-Some-Err.e there

pub returns-in-Some-Err-clause-bounded : goal.returns-in-Some-Err-clause-bounded
returns-in-Some-Err-clause-bounded g c =
    let it = c.start_bindings-left.ensures in
    (it.0, it.1, it.2, omega (arith, c.in-Some-Err.ensures.bounded, c.binds.invariant.reads, it.4))

pub returns-clause-listed : goal.returns-clause-listed
returns-clause-listed g c =
    let x = fixup_input_in c.args.self.now c.args.segments.now c.args.base in
    let libs = texts c.args.libs.now in
    let it = c.start_bindings-left.ensures in
    let are : AreBindingItems x libs (chained_bindings_left c.start_bindings-left.result) = (fixup_items it.0 it.1, (it.0, it.1, it.2, refl), it.3) in
    let list = bindings_view c.binds.found.items in
    let whole : chained_bindings_left c.start_bindings-left.result ≡ oks list =
    c.binds.invariant.items ∙ ap (λ m. oks list ++ m) c.in-None.ensures.items.0 ∙ append-nil _ in
    listed x libs (chained_bindings_left c.start_bindings-left.result) list are whole

pub returns-clause-reads : goal.returns-clause-reads
returns-clause-reads g c =
    let x = fixup_input_in c.args.self.now c.args.segments.now c.args.base in
    let libs = texts c.args.libs.now in
    let it = c.start_bindings-left.ensures in
    let are : AreBindingItems x libs (chained_bindings_left c.start_bindings-left.result) = (fixup_items it.0 it.1, (it.0, it.1, it.2, refl), it.3) in
    let list = bindings_view c.binds.found.items in
    let whole : chained_bindings_left c.start_bindings-left.result ≡ oks list =
    c.binds.invariant.items ∙ ap (λ m. oks list ++ m) c.in-None.ensures.items.0 ∙ append-nil _ in
    let all = listed x libs (chained_bindings_left c.start_bindings-left.result) list are whole in
    let same = one_list x all.0 it.0 None it.1 all.1 it.2 in
    let long = ap (λ (ps : List PlacedFixup). length ps) same.0 in
    (all.0, all.1, omega (arith, long, c.in-None.ensures.none, c.binds.invariant.reads, it.4))
