use Rattle.std.proofs.Common.{◌≡◌, ◌+◌, ◌∙◌, ◌∷◌, ℕ, Result, sym, ap, subst, arith}
use Rattle.std.proofs.Math.Nat.{min-eq_left}
use Rattle.mach_base.specs.Fault.{Fault}
use Rattle.mach_chained.specs.Pointers.{KindOfFixup, bind}
use Rattle.mach_chained.specs.PointerViews.{kind_view}
use Rattle.mach_chained.specs.Views.{fixups_view}
use Rattle.mach_chained.specs.WalkViews.{fixup_view, fixup_input_in}
use Rattle.goblin_mach_c.specs.BindingPlaces.{place_in_data, with_name_place}
use Rattle.goblin_mach_c.specs.BindingRows.{NameIsAt}
use Rattle.goblin_mach_c.proofs.BoundNames.{bound_name, part_occurs, text_occurs}
use Rattle.goblin_mach_c.proofs.bindings.name_place.Goals as goal

pub returns-in-Ok-clause-occurs : goal.returns-in-Ok-clause-occurs
returns-in-Ok-clause-occurs c = λ bytes size short payload segments base libs b is.
    let f = fixup_view c.args.fixup.now in
    let chained = c.args.chained.now in
    let kind : f.kind ≡ bind c.in-Bind.import c.in-Bind.addend = ap kind_view c.in-Bind.is in
    let found = bound_name (fixup_input_in chained segments base) libs f c.in-Bind.import c.in-Bind.addend b kind is in
    let text = c.in-Ok.ensures.place found.0 found.1 in
    let place = c.in-Ok.place in
    let occurs = part_occurs size bytes c.args.chains_at chained.payload.now place found.0.name payload
    (text_occurs chained.payload.now place found.0.name text) in
    let within = occurs.within in
    let same : c.args.chains_at + place ≡ c.saturating_add.result =
    sym (c.saturating_add.ensures ∙ min-eq_left (omega (arith, within, short))) in
    subst (NameIsAt bytes c.saturating_add.result) (sym found.2) (subst (λ (n : ℕ). NameIsAt bytes n found.0.name) same occurs)

pub returns-in-Ok-clause-own : goal.returns-in-Ok-clause-own
returns-in-Ok-clause-own c = λ bytes size short payload segments base libs b is rest.
    let f = fixup_view c.args.fixup.now in
    let chained = c.args.chained.now in
    let at = c.args.chains_at in
    let kind : f.kind ≡ bind c.in-Bind.import c.in-Bind.addend = ap kind_view c.in-Bind.is in
    let found = bound_name (fixup_input_in chained segments base) libs f c.in-Bind.import c.in-Bind.addend b kind is in
    let text = c.in-Ok.ensures.place found.0 found.1 in
    let place = c.in-Ok.place in
    let occurs = part_occurs size bytes at chained.payload.now place found.0.name payload (text_occurs chained.payload.now place found.0.name text) in
    let within = occurs.within in
    let same : at + place ≡ c.saturating_add.result = sym (c.saturating_add.ensures ∙ min-eq_left (omega (arith, within, short))) in
    ap (λ (k : KindOfFixup). with_name_place at (fixups_view chained) k rest) kind
    ∙ ap (λ (p : Result ℕ Fault). place_in_data at p ∷ rest) c.in-Ok.ensures.value
    ∙ ap (λ (n : ℕ). n ∷ rest) same

pub returns-in-Err-clause-occurs : goal.returns-in-Err-clause-occurs
returns-in-Err-clause-occurs c = λ bytes size short payload segments base libs b is.
    let f = fixup_view c.args.fixup.now in
    let kind : f.kind ≡ bind c.in-Bind.import c.in-Bind.addend = ap kind_view c.in-Bind.is in
    let found = bound_name (fixup_input_in c.args.chained.now segments base) libs f c.in-Bind.import c.in-Bind.addend b kind is in
    let wrong = c.in-Err.ensures.refused in
    let there = found.1 in absurd (cc)

pub returns-in-Err-clause-own : goal.returns-in-Err-clause-own
returns-in-Err-clause-own c = λ bytes size short payload segments base libs b is rest.
    let f = fixup_view c.args.fixup.now in
    let kind : f.kind ≡ bind c.in-Bind.import c.in-Bind.addend = ap kind_view c.in-Bind.is in
    let found = bound_name (fixup_input_in c.args.chained.now segments base) libs f c.in-Bind.import c.in-Bind.addend b kind is in
    let wrong = c.in-Err.ensures.refused in
    let there = found.1 in absurd (cc)
