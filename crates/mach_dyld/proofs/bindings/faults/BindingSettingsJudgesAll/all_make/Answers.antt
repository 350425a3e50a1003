use Rattle.mach_dyld.proofs.BindNames.{◌≡◌, ◌∙◌, sym, refl, true, false, Bool, malformed, Bind, Result, Fault, input_of, bind_of}
use Rattle.std.specs.Prelude.{not}
use Rattle.mach_parts.specs.Bindings.{Binding, provider_view}
use Rattle.mach_dyld.specs.BindingFaults.{has_fault, made_by, offset_at}
use Rattle.mach_dyld.specs.BindingsLeft.{binding_rules, given_now}
use Rattle.mach_dyld.specs.Bindings.{binding_with}
use Rattle.mach_dyld.proofs.BindingTurns.{faulty, faultless, at_offset, incomplete, no_provider, bound, outside}
use Rattle.mach_dyld.proofs.bindings.faults.BindingSettingsJudgesAll.all_make.Goals as goal

pub returns-then-not-is_complete : goal.returns-then-not-is_complete
returns-then-not-is_complete c =
    let x = input_of c.args.source.now in
    let b = bind_of c.args.settings.now in
    let made : Bind → Result Binding Fault = λ d. binding_rules.makes x d c.args.self in
    faulty made b c.args.stride c.args.count 0 malformed c.requires
    (incomplete x (given_now c.args.self b.library) (at_offset b (offset_at b.offset c.args.stride 0)) (sym c.is_complete.ensures ∙ c.if-not-is_complete.true))

pub returns-in_default : goal.returns-in_default
returns-in_default c =
    let x = input_of c.args.source.now in
    let b = bind_of c.args.settings.now in
    let made : Bind → Result Binding Fault = λ d. binding_rules.makes x d c.args.self in
    faulty made b c.args.stride c.args.count 0 malformed c.requires
    (no_provider x (given_now c.args.self b.library) (at_offset b (offset_at b.offset c.args.stride 0))
    (sym c.is_complete.ensures ∙ c.if-not-is_complete.false) c.in_default.ensures)

by_cases : (b : Bool) (r : Bool) → (b ≡ true → r ≡ false) → (b ≡ false → r ≡ true) → r ≡ not b
by_cases true r all one = all refl
by_cases false r all one = one refl

pub returns : goal.returns
returns c =
    let x = input_of c.args.source.now in
    let b = bind_of c.args.settings.now in
    let g = given_now c.args.self b.library in
    let made : Bind → Result Binding Fault = λ d. binding_rules.makes x d c.args.self in
    let whole = sym c.is_complete.ensures ∙ c.if-not-is_complete.false in
    let there = c.in-Some.ensures in
    let p = provider_view c.in-Some.field-0 in
    by_cases c.all_lie.result (has_fault (made_by binding_rules x b c.args.self c.args.stride c.args.count))
    (λ all. faultless made b c.args.stride c.args.count (λ j lt.
    let spot = c.all_lie.ensures.yes all j lt in
    let at = at_offset b (offset_at b.offset c.args.stride j) in
    (binding_with at p spot.0, bound x g at whole p there spot.0 spot.1)))
    (λ one.
    let found = c.all_lie.ensures.no one in
    let at = at_offset b (offset_at b.offset c.args.stride found.0) in
    faulty made b c.args.stride c.args.count found.0 malformed found.1 (outside x g at whole p there found.2))
