use Rattle.std.proofs.Common.{◌≡◌, ◌≤◌, ◌+◌, ◌-◌, ◌*◌, ◌%◌, ◌^◌, ◌∙◌, ℕ, suc, nat_eq, Ok, map, refl, sym, subst, arith}
use Rattle.std.proofs.Math.Nat.{mod-eq_of_lt}
use Rattle.mach_parts.specs.Segment.{segment_view}
use Rattle.mach_dyld.specs.Machine.{bind_of, input_of, strides}
use Rattle.mach_dyld.specs.Rebases.{rebase_of}
use Rattle.mach_dyld.specs.RebaseRuns.{turn_rebases}
use Rattle.mach_dyld.specs.RebasesLeft.{highest_rebase, rebase_set_now}
use Rattle.mach_dyld.specs.declared.rebases.rebase_run.Turn.{Turn}
use Rattle.mach_dyld.proofs.RebaseTurns.{if_none, turns_made, wide_is}
use Rattle.mach_dyld.proofs.StreamTurns.{no_kind, no_segment_set, no_segment_there, rebase_outside, segment_small}
use Rattle.mach_dyld.proofs.rebases.rebase_run.Run.of.Goals as goal

pub returns-then-not-rebasing-clause-none : goal.returns-then-not-rebasing-clause-none
returns-then-not-rebasing-clause-none c =
    let it = c.args.stream.now in
    no_segment_set (input_of it.source) it.more.le (rebase_set_now it.more) (bind_of it.state.settings) c.if-not-rebasing.true

pub returns-in_err-kind-clause-none : goal.returns-in_err-kind-clause-none
returns-in_err-kind-clause-none c =
    let it = c.args.stream.now in
    if_none c.from_residual.result
    (no_kind (input_of it.source) it.more.le (rebase_set_now it.more) (bind_of it.state.settings) c.if-not-rebasing.false
    (sym c.of.ensures ∙ c.in_err-kind.was))

pub returns-in_err-segment-clause-none : goal.returns-in_err-segment-clause-none
returns-in_err-segment-clause-none c =
    let it = c.args.stream.now in
    if_none c.from_residual-in_err-segment.result
    (no_segment_there (input_of it.source) it.more.le (rebase_set_now it.more) (bind_of it.state.settings) c.if-not-rebasing.false c.in_ok-kind.kind
    (sym c.of.ensures ∙ c.in_ok-kind.was) c.in_err-segment.ensures.none)

pub returns-in_err-highest-clause-none : goal.returns-in_err-highest-clause-none
returns-in_err-highest-clause-none c =
    let it = c.args.stream.now in
    if_none c.from_residual-in_err-highest.result
    (segment_small (input_of it.source) it.more.le (rebase_set_now it.more) (bind_of it.state.settings) c.if-not-rebasing.false c.in_ok-kind.kind
    (sym c.of.ensures ∙ c.in_ok-kind.was) (segment_view c.in_ok-segment.segment.now) c.in_ok-segment.ensures.some c.in_err-highest.ensures.none)

pub returns-then-offset-highest-clause-none : goal.returns-then-offset-highest-clause-none
returns-then-offset-highest-clause-none c =
    let it = c.args.stream.now in
    let known = c.in_ok-highest.ensures in
    let is = known.some in
    let out = c.if-offset-highest.true in
    rebase_outside (input_of it.source) it.more.le (rebase_set_now it.more) (bind_of it.state.settings) c.if-not-rebasing.false c.in_ok-kind.kind
    (sym c.of.ensures ∙ c.in_ok-kind.was) (segment_view c.in_ok-segment.segment.now) c.in_ok-segment.ensures.some known.large known.small
    (omega (arith, is, out))

pub returns-clause-made : goal.returns-clause-made
returns-clause-made c =
    let it = c.args.stream.now in
    let x = input_of it.source in
    let b = bind_of it.state.settings in
    let m = it.more in
    let s = segment_view c.in_ok-segment.segment.now in
    let stride = it.state.stride in
    let left = c.turns_upto-left.result in
    let turn : Turn = record {
      bytes = c.in_ok-segment.segment.now.bytes;
      offset = b.offset;
      address = (s.command.vmaddr + b.offset) % 2 ^ 64;
      stride = stride;
      segment = c.from.result;
      kind = c.in_ok-kind.kind;
      is_wide = nat_eq c.width.result 8;
      le = m.le;
    } in
    let known = c.in_ok-highest.ensures in
    let is = known.some in
    let small = known.small in
    let some = c.turns_upto-left.ensures.some in
    let last = c.turns_upto-left.ensures.last in
    let more : left ≡ suc (left - 1) = omega (arith, some) in
    let inside : b.offset + (left - 1) * stride ≤ highest_rebase x.pointer s = omega (arith, last, is) in
    let made = turns_made x m.le (rebase_set_now m) b c.if-not-rebasing.false c.in_ok-kind.kind (sym c.of.ensures ∙ c.in_ok-kind.was) s
    c.in_ok-segment.ensures.some known.large small stride (left - 1) b.offset turn
    (record {
      number = c.from.ensures;
      memory = refl;
      kind = refl;
      width = wide_is c.width.result c.width.ensures.either ∙ c.width.ensures.width;
      order = refl;
      offset = refl;
      address = mod-eq_of_lt (omega (arith, inside, small));
      stride = refl;
    }) inside in
    subst (λ (n : ℕ). map (rebase_of x m.le (rebase_set_now m)) (strides b stride n) ≡ map Ok (turn_rebases turn n)) (sym more) made
