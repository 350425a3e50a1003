use Rattle.std.proofs.Common.{inr, arith}
use Rattle.mach_dyld.proofs.CursorTurns.{at_next, unreadable, full_by, not_full}
use Rattle.mach_dyld.proofs.trie.cursor.TrieCursor.turn.Goals as goal

pub returns-then-self-eq0-clause-gives : goal.returns-then-self-eq0-clause-gives
returns-then-self-eq0-clause-gives c = λ found come. c.close.ensures.gives _ _ c.args.name.now found come

pub returns-in_default-clause-gives : goal.returns-in_default-clause-gives
returns-in_default-clause-gives c = λ found come. absurd (unreadable (omega arith) (omega arith) c.in_default.ensures come)

pub returns-clause-gives : goal.returns-clause-gives
returns-clause-gives c = λ found come. c.visit.ensures.gives found (at_next (omega arith) (omega arith) c.in-Some.ensures come)

pub returns-then-self-eq0-clause-full : goal.returns-then-self-eq0-clause-full
returns-then-self-eq0-clause-full c =
    not_full c.args.source.now.bytes.now c.args.source.now.from c.close.new.self c.args.name.now c.args.stack.now c.close.result c.close.ensures.stopped

pub returns-clause-full : goal.returns-clause-full
returns-clause-full c =
    full_by c.args.source.now.bytes.now c.args.source.now.from c.args.self.now c.visit.new.self c.args.name.now c.visit.new.name
    c.in-Some.branch.label.now c.args.stack.now c.visit.new.stack c.visit.result (inr (c.in-Some.branch.start, c.in-Some.after, c.in-Some.ensures))
    c.visit.ensures.stopped c.visit.ensures.long c.visit.ensures.full

pub returns-then-self-eq0-clause-placed : goal.returns-then-self-eq0-clause-placed
returns-then-self-eq0-clause-placed c = c.close.ensures.placed _ _ _
