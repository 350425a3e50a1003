use Rattle.std.proofs.Common.{◌≡◌, ◌<◌, ◌≤◌, ◌+◌, ◌-◌, [], ◌∷◌, ℕ, Bool, true, false, List, length, reverse, set, replicate, inl, inr, refl, sym, ap}
use Rattle.std.proofs.Common.{subst, ◌∙◌, arith, length-append}
use Rattle.std.proofs.lemmas.Bool.{cases_eq}
use Rattle.std.proofs.lemmas.List.{nil_from_length}
use Rattle.std.proofs.lemmas.Result.{err_from_is_err_and}
use Rattle.mach_base.proofs.Faults.{ErrorMeets-failed}
use Rattle.mach_dyld.specs.LookUp.{FaultOnWay}
use Rattle.mach_dyld.specs.Exports.{info_of}
use Rattle.mach_dyld.specs.Views.{node_of}
use Rattle.mach_dyld.specs.Views.{source_trie, node_in}
use Rattle.mach_dyld.specs.declared.trie.look_up.Choice.{Choice}
use Rattle.mach_dyld.proofs.LookUpSettles.{is_first, readable_next}
use Rattle.mach_dyld.proofs.LookUpTurns as turn
use Rattle.mach_dyld.proofs.LookUpTurns.{Holds}
use Rattle.mach_dyld.proofs.TrieNames.{unmarked}
use Rattle.mach_dyld.proofs.Marking.{one_less}
use Rattle.mach_dyld.proofs.Nowhere.{none_barren, no_room}
use Rattle.mach_dyld.proofs.BranchAgain.{is_ok}
use Rattle.mach_dyld.proofs.WalkTurns.{popped, emptied}
use Rattle.mach_dyld.proofs.trie.look_up.search.Goals as goal

pub returns-in_err-clone-clause-visits : goal.returns-in_err-clone-clause-visits
returns-in_err-clone-clause-visits g c =
    turn.root_visits c.args.source.now c.args.root c.args.name.now c.args.steps.now c.requires.low c.requires.inside

pub returns-in_err-marks-clause-visits : goal.returns-in_err-marks-clause-visits
returns-in_err-marks-clause-visits g c =
    turn.root_visits c.args.source.now c.args.root c.args.name.now c.args.steps.now c.requires.low c.requires.inside

pub returns-in_err-clone-2-clause-visits : goal.returns-in_err-clone-2-clause-visits
returns-in_err-clone-2-clause-visits g c =
    turn.root_visits c.args.source.now c.args.root c.args.name.now c.args.steps.now c.requires.low c.requires.inside

pub turns-init : goal.turns-init
turns-init g c =
    let marked = c.mark.ensures ∙ ap (λ (ms : List Bool). set ms (c.args.root - c.args.source.now.from) true) c.in_ok-marks.ensures in
    let node = c.requires.passed in (
      subst (λ (ms : List Bool). Holds c.args.source.now c.args.root c.args.name.now (record { branches = c.args.branches; at = 0 })
          (reverse c.new-choices.result.items)
          ms c.args.steps.now c.args.steps.now) (sym marked)
          (subst (λ (os : List Choice). Holds c.args.source.now c.args.root c.args.name.now (record { branches = c.args.branches; at = 0 }) os
          (set (replicate (c.args.source.now.upto - c.args.source.now.from) false)
          (c.args.root - c.args.source.now.from) true) c.args.steps.now c.args.steps.now)
          (sym (ap reverse c.new-choices.ensures.items))
          (turn.begins c.args.source.now c.args.root c.args.name.now (record { branches = c.args.branches; at = 0 })
          node.0 c.args.steps.now c.requires.low c.requires.inside node.1 node.2 node.3 refl)),
      none_barren c.args.source.now _ c.new-barren.ensures,
      no_room c.args.source.now _ c.new-barren.ensures,
    )

pub returns-in-None-clause-found : goal.returns-in-None-clause-found
returns-in-None-clause-found g c =
    let zero : length c.turns.choices.items ≡ 0 = omega (arith, c.turns.choices.ok.0, c.in-None.ensures.cases.0) in
    let held = turn.settled_now c.args.source.now c.args.root c.args.name.now c.turns.top c.settle-branches.result (reverse c.turns.choices.items)
    c.rest_at-rest.result.now c.rest_at-rest.ensures c.turns.invariant.0 c.settle-branches.ensures.readable c.settle-branches.ensures.settles in
    turn.ended c.args.source.now c.args.root c.args.name.now (record { branches = c.settle-branches.result; at = c.turns.top.at })
    (subst (λ os. Holds c.args.source.now c.args.root c.args.name.now
    (record { branches = c.settle-branches.result; at = c.turns.top.at }) os c.turns.marks c.args.steps.now c.turns.steps)
    (emptied c.turns.choices.items zero) held) c.if-branches-eq0.true

pub returns-in-None-clause-visits : goal.returns-in-None-clause-visits
returns-in-None-clause-visits g c =
    turn.visits_so_far _ _ _ c.turns.top (reverse c.turns.choices.items) _ _ _ c.turns.invariant.0

pub turns-preserved-in-Some : goal.turns-preserved-in-Some
turns-preserved-in-Some g c =
    let pop = popped c.turns.choices.items c.pop.new.self.items c.in-Some.below c.in-Some.ensures.items in
    let held = turn.settled_now c.args.source.now c.args.root c.args.name.now c.turns.top c.settle-branches.result (reverse c.turns.choices.items)
    c.rest_at-rest.result.now c.rest_at-rest.ensures c.turns.invariant.0 c.settle-branches.ensures.readable c.settle-branches.ensures.settles in (
      turn.gone c.args.source.now c.args.root c.args.name.now (record { branches = c.settle-branches.result; at = c.turns.top.at }) c.in-Some.below
          (reverse c.pop.new.self.items)
          (subst (λ os. Holds c.args.source.now c.args.root c.args.name.now (record { branches = c.settle-branches.result; at = c.turns.top.at })
          os c.turns.marks c.args.steps.now c.turns.steps) pop held) c.if-branches-eq0.true,
      c.turns.invariant.1,
      c.turns.invariant.2,
    )

pub read_again-start-requires : goal.read_again-start-requires
read_again-start-requires g c =
    let some : 0 < c.settle-branches.result.left = omega (arith, c.if-branches-eq0.false) in
    is_ok (is_first c.args.source.now c.rest_at-rest.result.now c.settle-branches.result c.settle-branches.ensures.readable some).1

pub overflow_sub-start : goal.overflow_sub-start
overflow_sub-start g c =
    turn.low _ _ _ (turn.takes _ _ _ c.rest_at-rest.ensures c.turns.invariant.0 c.settle-branches.ensures.readable c.settle-branches.ensures.settles
    c.settle-branches.ensures.stops (omega (arith, c.if-branches-eq0.false)) c.read_again-start.ensures)

pub is_marked-requires : goal.is_marked-requires
is_marked-requires g c =
    turn.within _ _ _ (turn.takes _ _ _ c.rest_at-rest.ensures c.turns.invariant.0 c.settle-branches.ensures.readable c.settle-branches.ensures.settles
    c.settle-branches.ensures.stops (omega (arith, c.if-branches-eq0.false)) c.read_again-start.ensures)

pub returns-then-is_marked-clause-refused : goal.returns-then-is_marked-clause-refused
returns-then-is_marked-clause-refused g c =
    turn.met _ _ _ (turn.takes _ _ _ c.rest_at-rest.ensures c.turns.invariant.0 c.settle-branches.ensures.readable c.settle-branches.ensures.settles
    c.settle-branches.ensures.stops (omega (arith, c.if-branches-eq0.false)) c.read_again-start.ensures)
    c.is_marked.ensures c.if-is_marked.true

pub returns-then-is_marked-clause-visits : goal.returns-then-is_marked-clause-visits
returns-then-is_marked-clause-visits g c =
    turn.visits_so_far _ _ _ c.turns.top (reverse c.turns.choices.items) _ _ _ c.turns.invariant.0

pub overflow_sub-start-else-branches-eq0 : goal.overflow_sub-start-else-branches-eq0
overflow_sub-start-else-branches-eq0 g c =
    turn.low _ _ _ (turn.takes _ _ _ c.rest_at-rest.ensures c.turns.invariant.0 c.settle-branches.ensures.readable c.settle-branches.ensures.settles
    c.settle-branches.ensures.stops (omega (arith, c.if-branches-eq0.false)) c.read_again-start.ensures)

pub mark-requires-else-branches-eq0 : goal.mark-requires-else-branches-eq0
mark-requires-else-branches-eq0 g c =
    turn.within _ _ _ (turn.takes _ _ _ c.rest_at-rest.ensures c.turns.invariant.0 c.settle-branches.ensures.readable c.settle-branches.ensures.settles
    c.settle-branches.ensures.stops (omega (arith, c.if-branches-eq0.false)) c.read_again-start.ensures)

pub settle-others-requires-clause-readable : goal.settle-others-requires-clause-readable
settle-others-requires-clause-readable g c =
    let some : 0 < c.settle-branches.result.left = omega (arith, c.if-branches-eq0.false) in
    readable_next c.args.source.now c.rest_at-rest.result.now c.settle-branches.result c.settle-branches.ensures.readable some
    c.read_again-start.result.0.label.now c.read_again-start.result.0.start c.read_again-start.result.1 c.read_again-start.ensures

pub returns-in_err-own-clause-refused : goal.returns-in_err-own-clause-refused
returns-in_err-own-clause-refused g c =
    let p = err_from_is_err_and c.from_residual-in_err-own.result c.from_residual-in_err-own.ensures.1 in
    rw (p.1, p.2) (ErrorMeets-failed (FaultOnWay (source_trie c.args.source.now) c.args.root c.args.name.now) c.in_err-own.field-0.0
    (node_in c.args.source.now c.read_again-start.result.0.start)
    (λ f e. turn.child_fault _ _ _
    (turn.takes _ _ _ c.rest_at-rest.ensures c.turns.invariant.0 c.settle-branches.ensures.readable c.settle-branches.ensures.settles
    c.settle-branches.ensures.stops (omega (arith, c.if-branches-eq0.false)) c.read_again-start.ensures) f e)
    c.in_err-own.ensures.value)

pub returns-in_err-own-clause-visits : goal.returns-in_err-own-clause-visits
returns-in_err-own-clause-visits g c =
    turn.child_visits _ _ _ (turn.takes _ _ _ c.rest_at-rest.ensures c.turns.invariant.0 c.settle-branches.ensures.readable c.settle-branches.ensures.settles
    c.settle-branches.ensures.stops (omega (arith, c.if-branches-eq0.false)) c.read_again-start.ensures)
    (turn.is_clear _ _ _ (turn.takes _ _ _ c.rest_at-rest.ensures c.turns.invariant.0 c.settle-branches.ensures.readable c.settle-branches.ensures.settles
    c.settle-branches.ensures.stops (omega (arith, c.if-branches-eq0.false))
    c.read_again-start.ensures) c.is_marked.ensures c.if-is_marked.false) c.in_err-own.ensures.visits

pub overflow_sub-rest : goal.overflow_sub-rest
overflow_sub-rest g c =
    rw c.rest_at-rest.ensures (turn.label_within _ _ _
    (turn.takes _ _ _ c.rest_at-rest.ensures c.turns.invariant.0 c.settle-branches.ensures.readable c.settle-branches.ensures.settles
    c.settle-branches.ensures.stops (omega (arith, c.if-branches-eq0.false)) c.read_again-start.ensures))

pub returns-in-Some-here-clause-found : goal.returns-in-Some-here-clause-found
returns-in-Some-here-clause-found g c =
    let taken = (turn.takes _ _ _ c.rest_at-rest.ensures c.turns.invariant.0 c.settle-branches.ensures.readable c.settle-branches.ensures.settles
    c.settle-branches.ensures.stops (omega (arith, c.if-branches-eq0.false)) c.read_again-start.ensures) in
    let a = ap (λ (x : List ℕ). length x) taken.spells in let r = ap (λ (x : List ℕ). length x) c.rest_at-rest.ensures in
    let b = length-append c.read_again-start.result.0.label.now taken.others in
    let none : length taken.others ≡ 0 = omega (arith, c.in-Some-here.ensures.some.0) in
    turn.child_found _ _ _ taken
    (turn.is_clear _ _ _ (turn.takes _ _ _ c.rest_at-rest.ensures c.turns.invariant.0 c.settle-branches.ensures.readable c.settle-branches.ensures.settles
    c.settle-branches.ensures.stops (omega (arith, c.if-branches-eq0.false)) c.read_again-start.ensures) c.is_marked.ensures c.if-is_marked.false)
    (node_of c.args.source.now.bytes.now c.args.source.now.from (c.in_ok-own.own, c.in_ok-own.child)) (info_of c.in-Some-here.info)
    c.in_ok-own.ensures.value c.in-Some-here.ensures.some.1 (nil_from_length taken.others none)

pub returns-in-Some-here-clause-visits : goal.returns-in-Some-here-clause-visits
returns-in-Some-here-clause-visits g c =
    turn.child_visits _ _ _ (turn.takes _ _ _ c.rest_at-rest.ensures c.turns.invariant.0 c.settle-branches.ensures.readable c.settle-branches.ensures.settles
    c.settle-branches.ensures.stops (omega (arith, c.if-branches-eq0.false)) c.read_again-start.ensures)
    (turn.is_clear _ _ _ (turn.takes _ _ _ c.rest_at-rest.ensures c.turns.invariant.0 c.settle-branches.ensures.readable c.settle-branches.ensures.settles
    c.settle-branches.ensures.stops (omega (arith, c.if-branches-eq0.false))
    c.read_again-start.ensures) c.is_marked.ensures c.if-is_marked.false) c.in_ok-own.ensures.visits

pub returns-in_err-keep-clause-visits : goal.returns-in_err-keep-clause-visits
returns-in_err-keep-clause-visits g c =
    turn.child_visits _ _ _ (turn.takes _ _ _ c.rest_at-rest.ensures c.turns.invariant.0 c.settle-branches.ensures.readable c.settle-branches.ensures.settles
    c.settle-branches.ensures.stops (omega (arith, c.if-branches-eq0.false)) c.read_again-start.ensures)
    (turn.is_clear _ _ _ (turn.takes _ _ _ c.rest_at-rest.ensures c.turns.invariant.0 c.settle-branches.ensures.readable c.settle-branches.ensures.settles
    c.settle-branches.ensures.stops (omega (arith, c.if-branches-eq0.false))
    c.read_again-start.ensures) c.is_marked.ensures c.if-is_marked.false) c.in_ok-own.ensures.visits

pub turns-smaller : goal.turns-smaller
turns-smaller g c =
    let grown : length c.keep.new.choices.items ≤ length c.turns.choices.items + 1 = elim (cases_eq c.settle-others.result.left 0) [
      | inl none ↦ (let same = ap (λ (x : List Choice). length x) (c.in_ok-keep.ensures.none none) in omega arith)
      | inr some ↦ (let same = ap (λ (x : List Choice). length x) (c.in_ok-keep.ensures.some some)
          ∙ length-append c.turns.choices.items (record { branches = c.settle-others.result; at = c.turns.top.at } ∷ []) in omega arith)
    ] in
    let less = one_less c.turns.marks (c.read_again-start.result.0.start - c.args.source.now.from)
    (turn.within _ _ _ (turn.takes _ _ _ c.rest_at-rest.ensures c.turns.invariant.0 c.settle-branches.ensures.readable c.settle-branches.ensures.settles
    c.settle-branches.ensures.stops (omega (arith, c.if-branches-eq0.false)) c.read_again-start.ensures))
    (turn.is_clear _ _ _ (turn.takes _ _ _ c.rest_at-rest.ensures c.turns.invariant.0 c.settle-branches.ensures.readable c.settle-branches.ensures.settles
    c.settle-branches.ensures.stops (omega (arith, c.if-branches-eq0.false)) c.read_again-start.ensures) c.is_marked.ensures c.if-is_marked.false) in
    let now = ap unmarked c.mark-else-branches-eq0.ensures in
    omega (arith, less, now)

pub turns-preserved : goal.turns-preserved
turns-preserved g c =
    let taken = (turn.takes _ _ _ c.rest_at-rest.ensures c.turns.invariant.0 c.settle-branches.ensures.readable c.settle-branches.ensures.settles
    c.settle-branches.ensures.stops (omega (arith, c.if-branches-eq0.false)) c.read_again-start.ensures) in
    let a = ap (λ (x : List ℕ). length x) taken.spells in let r = ap (λ (x : List ℕ). length x) c.rest_at-rest.ensures in
    let b = length-append c.read_again-start.result.0.label.now taken.others in
    let deep = turn.deeper c.args.source.now c.args.root c.args.name.now c.turns.top.at c.read_again-start.result.0.label.now taken.others
    taken.held.shown.within taken.spells in
    let opened = turn.child_opened _ _ _ taken
    (turn.is_clear _ _ _ (turn.takes _ _ _ c.rest_at-rest.ensures c.turns.invariant.0 c.settle-branches.ensures.readable c.settle-branches.ensures.settles
    c.settle-branches.ensures.stops (omega (arith, c.if-branches-eq0.false)) c.read_again-start.ensures) c.is_marked.ensures c.if-is_marked.false)
    (record { branches = c.in_ok-own.child; at = c.turns.top.at + length c.read_again-start.result.0.label.now })
    (record { branches = record { left = c.settle-branches.result.left - 1; place = c.read_again-start.result.1 }; at = c.turns.top.at })
    (node_of c.args.source.now.bytes.now c.args.source.now.from (c.in_ok-own.own, c.in_ok-own.child)) c.in_ok-own.ensures.visits c.in_ok-own.ensures.value
    (turn.elsewhere c.args.source.now c.args.root c.args.name.now taken.others _ (λ z. c.in_default.ensures.none (omega arith)))
    c.in_ok-own.ensures.readable refl refl refl refl deep.0 deep.1 in
    let both = subst (λ (ms : List Bool). Holds c.args.source.now c.args.root c.args.name.now
    (record { branches = c.in_ok-own.child; at = c.turns.top.at + length c.read_again-start.result.0.label.now })
    (record { branches = c.settle-others.result; at = c.turns.top.at } ∷ reverse c.turns.choices.items) ms c.args.steps.now c.read_node.new.steps)
    (sym c.mark-else-branches-eq0.ensures)
    (turn.settled_below_now c.args.source.now c.args.root c.args.name.now
    (record { branches = c.in_ok-own.child; at = c.turns.top.at + length c.read_again-start.result.0.label.now })
    (record { branches = record { left = c.settle-branches.result.left - 1; place = c.read_again-start.result.1 }; at = c.turns.top.at })
    c.settle-others.result (reverse c.turns.choices.items) c.rest_at-rest.result.now c.rest_at-rest.ensures opened
    c.settle-others.ensures.readable c.settle-others.ensures.settles) in (
      elim (cases_eq c.settle-others.result.left 0) [
        | inl none ↦ subst (λ os. Holds c.args.source.now c.args.root c.args.name.now
            (record { branches = c.in_ok-own.child; at = c.turns.top.at + length c.read_again-start.result.0.label.now }) os
            c.mark-else-branches-eq0.new.self c.args.steps.now c.read_node.new.steps)
            (sym (ap reverse (c.in_ok-keep.ensures.none none)))
            (turn.left_out c.args.source.now c.args.root c.args.name.now
            (record { branches = c.in_ok-own.child; at = c.turns.top.at + length c.read_again-start.result.0.label.now })
            (record { branches = c.settle-others.result; at = c.turns.top.at }) (reverse c.turns.choices.items) both none)
        | inr more ↦ subst (λ os. Holds c.args.source.now c.args.root c.args.name.now
            (record { branches = c.in_ok-own.child; at = c.turns.top.at + length c.read_again-start.result.0.label.now }) os
            c.mark-else-branches-eq0.new.self c.args.steps.now c.read_node.new.steps)
            (sym (popped c.keep.new.choices.items c.turns.choices.items (record { branches = c.settle-others.result; at = c.turns.top.at })
            (c.in_ok-keep.ensures.some more))) both
      ],
      c.in_ok-own.ensures.barren,
      c.in_ok-own.ensures.room,
    )
