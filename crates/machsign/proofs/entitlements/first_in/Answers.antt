use Rattle.std.proofs.Common.{◌∙◌, List, Some, None, ap, inr, sym, subst}
use Rattle.std.proofs.lemmas.Result.{err_from_is_err_and}
use Rattle.mach_base.proofs.Faults.{ErrorMeets-in}
use Rattle.goblin_mach.specs.Items.{ItemView}
use Rattle.goblin_mach.specs.ItemsLeft.{input_item_read}
use Rattle.mach_cli.specs.PartsOf.{parts_left}
use Rattle.machsign.specs.Entitlements.{EntitlesItems, first_entitles, later_entitles, none_entitles}
use Rattle.machsign.specs.Entitlements.{EntitlementFault, RefusesItem, RefusesItems, first_refuses, later_refuses}
use Rattle.machsign.proofs.entitlements.first_in.Goals as goal

pub items-init : goal.items-init
items-init g c =
    let items = c.images.ensures c.args.bytes.now c.in_ok-input.ensures.opened in
    let same = ap parts_left c.into_iter-item-iterator.ensures.into_iter_gives ∙ c.items_shown-shown.ensures items in record {
      found = λ found more. subst (λ (xs : List ItemView). EntitlesItems c.args.cpu xs found) same more;
      refused = λ f more. subst (λ (xs : List ItemView). RefusesItems c.args.cpu xs f) same more;
    }

pub returns-in-Some-2-clause-found : goal.returns-in-Some-2-clause-found
returns-in-Some-2-clause-found g c =
    let x = input_item_read c.in-Some.item in
    let rest = parts_left c.next.new.self in
    let found = c.in-Some-2.found.now in
    let here = rw c.in-Some-2.is at c.in_ok-found.ensures.found in
    c.items.invariant.found (Some found)
    (subst (λ (xs : List ItemView). EntitlesItems c.args.cpu xs (Some found)) (sym c.in-Some.ensures.steps) (first_entitles x rest found here))

pub items-preserved : goal.items-preserved
items-preserved g c =
    let x = input_item_read c.in-Some.item in
    let rest = parts_left c.next.new.self in
    let none = rw c.in-None-2.is at c.in_ok-found.ensures.found in record {
      found = λ found more. c.items.invariant.found found
          (subst (λ (xs : List ItemView). EntitlesItems c.args.cpu xs found) (sym c.in-Some.ensures.steps) (later_entitles x rest found none more));
      refused = λ f more. c.items.invariant.refused f
          (subst (λ (xs : List ItemView). RefusesItems c.args.cpu xs f) (sym c.in-Some.ensures.steps) (later_refuses x rest f none more));
    }

pub returns-clause-found : goal.returns-clause-found
returns-clause-found g c =
    c.items.invariant.found None (subst (λ (xs : List ItemView). EntitlesItems c.args.cpu xs None) (sym c.in-None.ensures.steps.0) none_entitles)

pub returns-in_err-found-clause-refused : goal.returns-in_err-found-clause-refused
returns-in_err-found-clause-refused g c =
    let x = input_item_read c.in-Some.item in
    let rest = parts_left c.next.new.self in
    let p = err_from_is_err_and c.from_residual-in_err-found.result c.from_residual-in_err-found.ensures.1 in
    rw (p.1, p.2)
    (ErrorMeets-in (RefusesItem x) (EntitlementFault c.args.cpu c.args.bytes.now) c.in_err-found.field-0.0
    (λ f here. inr (c.items.invariant.refused f
    (subst (λ (xs : List ItemView). RefusesItems c.args.cpu xs f) (sym c.in-Some.ensures.steps) (first_refuses x rest f here))))
    c.in_err-found.ensures.refused)
