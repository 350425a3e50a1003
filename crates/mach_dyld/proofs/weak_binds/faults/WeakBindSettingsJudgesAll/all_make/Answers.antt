use Rattle.std.proofs.Common.{◌≡◌, ◌∙◌, Bool, true, false, Result, refl, sym}
use Rattle.std.specs.Prelude.{not}
use Rattle.mach_base.specs.Fault.{Fault, malformed}
use Rattle.mach_dyld.specs.BindingFaults.{has_fault, made_by, offset_at}
use Rattle.mach_dyld.specs.Binds.{Bind}
use Rattle.mach_dyld.specs.Machine.{bind_of, input_of}
use Rattle.mach_dyld.proofs.BindingTurns.{at_offset, faultless, faulty}
use Rattle.mach_dyld.specs.WeakBinds.{WeakBind, strong_name, weakly_bound_at}
use Rattle.mach_dyld.specs.WeakBindsLeft.{set_now, weak_rules}
use Rattle.mach_dyld.proofs.StreamTurns.{weak_incomplete, weak_inside, weak_outside}
use Rattle.mach_dyld.proofs.weak_binds.faults.WeakBindSettingsJudgesAll.all_make.Goals as goal

by_cases : (b : Bool) (r : Bool) → (b ≡ true → r ≡ false) → (b ≡ false → r ≡ true) → r ≡ not b
by_cases true r all one = all refl
by_cases false r all one = one refl

pub returns-then-self : goal.returns-then-self
returns-then-self c =
    let x = input_of c.args.source.now in
    let b = bind_of c.args.settings.now in
    let made : Bind → Result WeakBind Fault = λ d. weak_rules.makes x d c.args.self in
    faultless made b c.args.stride c.args.count (λ j lt. (strong_name b.name, rw c.if-self.true refl))

pub returns-then-not-is_complete : goal.returns-then-not-is_complete
returns-then-not-is_complete c =
    let x = input_of c.args.source.now in
    let b = bind_of c.args.settings.now in
    let m = c.args.self in
    let made : Bind → Result WeakBind Fault = λ d. weak_rules.makes x d m in
    faulty made b c.args.stride c.args.count 0 malformed c.requires
    (rw c.if-self.false (weak_incomplete x (set_now m) (at_offset b (offset_at b.offset c.args.stride 0))
    (sym c.is_complete.ensures ∙ c.if-not-is_complete.true)))

pub returns : goal.returns
returns c =
    let x = input_of c.args.source.now in
    let b = bind_of c.args.settings.now in
    let m = c.args.self in
    let made : Bind → Result WeakBind Fault = λ d. weak_rules.makes x d m in
    let whole = sym c.is_complete.ensures ∙ c.if-not-is_complete.false in
    by_cases c.all_lie.result (has_fault (made_by weak_rules x b m c.args.stride c.args.count))
    (λ all. faultless made b c.args.stride c.args.count (λ j lt.
    let spot = c.all_lie.ensures.yes all j lt in
    let at = at_offset b (offset_at b.offset c.args.stride j) in
    (weakly_bound_at at spot.0, rw c.if-self.false (weak_inside x (set_now m) at whole spot.0 spot.1))))
    (λ one.
    let found = c.all_lie.ensures.no one in
    let at = at_offset b (offset_at b.offset c.args.stride found.0) in
    faulty made b c.args.stride c.args.count found.0 malformed found.1 (rw c.if-self.false (weak_outside x (set_now m) at whole found.2)))
