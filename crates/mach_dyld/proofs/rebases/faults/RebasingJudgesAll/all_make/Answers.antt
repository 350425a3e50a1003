use Rattle.std.proofs.Common.{◌≡◌, ◌≤◌, ◌<◌, ◌+◌, ◌∙◌, Bool, true, false, Result, refl, subst, sym}
use Rattle.std.specs.Prelude.{not}
use Rattle.mach_base.specs.Fault.{Fault, malformed}
use Rattle.mach_parts.specs.Segment.{segment_view}
use Rattle.mach_dyld.specs.BindingFaults.{has_fault, made_by, offset_at}
use Rattle.mach_dyld.specs.Binds.{Bind}
use Rattle.mach_dyld.specs.Machine.{bind_of, input_of}
use Rattle.mach_dyld.proofs.BindingTurns.{at_offset, faultless, faulty}
use Rattle.mach_dyld.specs.Rebases.{Rebase, rebase_with}
use Rattle.mach_dyld.specs.RebasesLeft.{rebase_rules, rebase_set_now}
use Rattle.mach_dyld.proofs.StreamTurns.{no_kind, no_segment_set, no_segment_there, rebase_inside, rebase_outside, segment_small}
use Rattle.mach_dyld.proofs.rebases.faults.RebasingJudgesAll.all_make.Goals as goal

not_set : (b : Bool) → not b ≡ true → b ≡ false
not_set true e = absurd (cc)
not_set false e = refl

is_set : (b : Bool) → not b ≡ false → b ≡ true
is_set true e = refl
is_set false e = absurd (cc)

by_cases : (b : Bool) (r : Bool) → (b ≡ true → r ≡ false) → (b ≡ false → r ≡ true) → r ≡ not b
by_cases true r all one = all refl
by_cases false r all one = one refl

pub returns-then-not-self : goal.returns-then-not-self
returns-then-not-self c =
    let x = input_of c.args.source.now in
    let b = bind_of c.args.settings.now in
    let m = c.args.self in
    let made : Bind → Result Rebase Fault = λ d. rebase_rules.makes x d m in
    faulty made b c.args.stride c.args.count 0 malformed c.requires
    (no_segment_set x m.le (rebase_set_now m) (at_offset b (offset_at b.offset c.args.stride 0)) (not_set m.has_segment c.if-not-self.true))

pub returns-in_default : goal.returns-in_default
returns-in_default c =
    let x = input_of c.args.source.now in
    let b = bind_of c.args.settings.now in
    let m = c.args.self in
    let made : Bind → Result Rebase Fault = λ d. rebase_rules.makes x d m in
    faulty made b c.args.stride c.args.count 0 malformed c.requires
    (no_kind x m.le (rebase_set_now m) (at_offset b (offset_at b.offset c.args.stride 0)) (is_set m.has_segment c.if-not-self.false)
    (sym c.of.ensures ∙ c.in_default.is))

pub returns-in_default-segment_at : goal.returns-in_default-segment_at
returns-in_default-segment_at c =
    let x = input_of c.args.source.now in
    let b = bind_of c.args.settings.now in
    let m = c.args.self in
    let made : Bind → Result Rebase Fault = λ d. rebase_rules.makes x d m in
    faulty made b c.args.stride c.args.count 0 malformed c.requires
    (no_segment_there x m.le (rebase_set_now m) (at_offset b (offset_at b.offset c.args.stride 0)) (is_set m.has_segment c.if-not-self.false) c.in-Some.field-0
    (sym c.of.ensures ∙ c.in-Some.is) c.in_default-segment_at.ensures.none)

pub returns-in_default-highest_offset : goal.returns-in_default-highest_offset
returns-in_default-highest_offset c =
    let x = input_of c.args.source.now in
    let b = bind_of c.args.settings.now in
    let m = c.args.self in
    let made : Bind → Result Rebase Fault = λ d. rebase_rules.makes x d m in
    faulty made b c.args.stride c.args.count 0 malformed c.requires
    (segment_small x m.le (rebase_set_now m) (at_offset b (offset_at b.offset c.args.stride 0)) (is_set m.has_segment c.if-not-self.false) c.in-Some.field-0
    (sym c.of.ensures ∙ c.in-Some.is) (segment_view c.in-Some-segment_at.segment.now) c.in-Some-segment_at.ensures.some
    c.in_default-highest_offset.ensures.none)

pub returns : goal.returns
returns c =
    let x = input_of c.args.source.now in
    let b = bind_of c.args.settings.now in
    let m = c.args.self in
    let made : Bind → Result Rebase Fault = λ d. rebase_rules.makes x d m in
    let k = c.in-Some.field-0 in
    let typed = sym c.of.ensures ∙ c.in-Some.is in
    let s = segment_view c.in-Some-segment_at.segment.now in
    let there = c.in-Some-segment_at.ensures.some in
    let known = c.in-Some-highest_offset.ensures in
    by_cases c.none_above.result (has_fault (made_by rebase_rules x b m c.args.stride c.args.count))
    (λ all. faultless made b c.args.stride c.args.count (λ j lt.
    let offset = offset_at b.offset c.args.stride j in
    let at = at_offset b offset in (
      rebase_with x m.le at k s (s.command.vmaddr + offset),
      rebase_inside x m.le (rebase_set_now m) at (is_set m.has_segment c.if-not-self.false) k typed s there known.large known.small
          (subst (λ n. offset ≤ n) known.some (c.none_above.ensures.yes all j lt)),
    )))
    (λ one.
    let found = c.none_above.ensures.no one in
    let offset = offset_at b.offset c.args.stride found.0 in
    faulty made b c.args.stride c.args.count found.0 malformed found.1
    (rebase_outside x m.le (rebase_set_now m) (at_offset b offset) (is_set m.has_segment c.if-not-self.false) k typed s there known.large known.small
    (subst (λ n. n < offset) known.some found.2)))
