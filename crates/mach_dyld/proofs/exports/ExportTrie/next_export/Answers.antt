use Rattle.std.proofs.Common.{arith, refl, subst, ap, Some}
use Rattle.mach_dyld.specs.CursorState.{HasCome, TurnGives, IsFull}
use Rattle.mach_base.specs.Text.{texts}
use Rattle.mach_dyld.specs.TrieRange.{TrieRange}
use Rattle.mach_dyld.specs.declared.trie.cursor.NextExport.{NextExport}
use Rattle.mach_dyld.proofs.CursorTries.{next_gives, over_gives, too_deep, too_far, begins_there, ended}
use Rattle.mach_dyld.proofs.exports.ExportTrie.next_export.Goals as goal
use Rattle.mach_dyld.proofs.exports.ExportTrie.next_export.Goals.{else-cursor-le-ON_THE_WAY-via-then-cursor-le-ON_THE_WAY+else-cursor-stack}
use Rattle.mach_dyld.proofs.exports.ExportTrie.next_export.Goals.{else-cursor-le-ON_THE_WAY-via-else-cursor-le-ON_THE_WAY}

pub returns-then-cursor-stack-clause-gives : goal.returns-then-cursor-stack-clause-gives
returns-then-cursor-stack-clause-gives c = λ found given. absurd (too_deep (omega arith) (omega arith) given)

pub returns-then-cursor-self-clause-gives : goal.returns-then-cursor-self-clause-gives
returns-then-cursor-self-clause-gives c = λ found given.
    let from = ap (λ (t : TrieRange). t.from) c.self.view_is in
    let upto = ap (λ (t : TrieRange). t.upto) c.self.view_is in
    absurd (too_far (omega arith) (omega (arith, c.if-cursor-self.true)) given)

pub returns-then-cursor-stack-clause-started : goal.returns-then-cursor-stack-clause-started
returns-then-cursor-stack-clause-started c = λ found given. begins_there given

pub returns-then-cursor-self-clause-started : goal.returns-then-cursor-self-clause-started
returns-then-cursor-self-clause-started c = λ found given. begins_there given

pub turns-init : goal.turns-init
turns-init c = record {
  depth = λ on. elim c.else-cursor-le-ON_THE_WAY.branch [
    | else-cursor-le-ON_THE_WAY-via-then-cursor-le-ON_THE_WAY+else-cursor-stack w ↦ omega arith
    | else-cursor-le-ON_THE_WAY-via-else-cursor-le-ON_THE_WAY w ↦ absurd (omega arith)
  ];
  name_len = refl;
  stack_len = refl;
  gives = λ found given. given;
  stays = λ over. record { same_cursor = refl; same_name = refl; same_stack = refl };
}

pub returns-in-Some-clause-gives : goal.returns-in-Some-clause-gives
returns-in-Some-clause-gives c = λ found given.
    let come = c.turns.invariant.gives found given in
    let turn = subst (λ (t : TrieRange). HasCome t (texts c.args.libs.now) c.turns.cursor c.turns.name c.turns.stack found
    → TurnGives t (texts c.args.libs.now) found (Some c.in-Some.given) c.turn.new.self c.turn.new.name c.turn.new.stack)
    c.self.view_is (c.in-Some.ensures.gives found) in
    next_gives c.in-Some.given come c.in-Some.ensures.stopped (turn come)

pub returns-in-Some-clause-leads : goal.returns-in-Some-clause-leads
returns-in-Some-clause-leads c = λ found given info is.
    let turn = subst (λ (t : TrieRange). HasCome t (texts c.args.libs.now) c.turns.cursor c.turns.name c.turns.stack found
    → TurnGives t (texts c.args.libs.now) found (Some c.in-Some.given) c.turn.new.self c.turn.new.name c.turn.new.stack)
    c.self.view_is (c.in-Some.ensures.gives found) in
    let gives = turn (c.turns.invariant.gives found given) in
    (subst (λ (x : NextExport). TurnGives c.args.self.now (texts c.args.libs.now) found (Some x) c.turn.new.self c.turn.new.name c.turn.new.stack) is gives).1

pub returns-in-Some-clause-started : goal.returns-in-Some-clause-started
returns-in-Some-clause-started c = λ found given. begins_there given

pub turns-preserved : goal.turns-preserved
turns-preserved c = record {
  depth = λ on. c.in_default.ensures.depth;
  name_len = omega (arith, c.in_default.ensures.name_len, c.turns.invariant.name_len);
  stack_len = omega (arith, c.in_default.ensures.stack_len, c.turns.invariant.stack_len);
  gives = λ found given.
      let come = c.turns.invariant.gives found given in
      let turn = subst (λ (t : TrieRange). HasCome t (texts c.args.libs.now) c.turns.cursor c.turns.name c.turns.stack found
      → HasCome t (texts c.args.libs.now) c.turn.new.self c.turn.new.name c.turn.new.stack found) c.self.view_is (c.in_default.ensures.gives found) in
      turn come;
  stays = λ over. absurd (ended (omega (arith, c.turns-test.true)) over (c.turns.invariant.stays over));
}

pub returns-clause-gives : goal.returns-clause-gives
returns-clause-gives c = λ found given. over_gives c.turns-test.false (c.turns.invariant.gives found given)

pub returns-clause-started : goal.returns-clause-started
returns-clause-started c = λ found given. begins_there given

pub returns-in-Some-clause-full : goal.returns-in-Some-clause-full
returns-in-Some-clause-full c =
    subst (λ (t : TrieRange). IsFull t.bytes t.from c.turn.new.self c.turn.new.name c.turn.new.stack (Some c.in-Some.given)) c.self.view_is
    c.in-Some.ensures.full

pub returns-in-Some-clause-over : goal.returns-in-Some-clause-over
returns-in-Some-clause-over c = λ over. absurd (ended (omega (arith, c.turns-test.true)) over (c.turns.invariant.stays over))

pub returns-clause-over : goal.returns-clause-over
returns-clause-over c = λ over. (refl, c.turns.invariant.stays over)
