use Rattle.std.proofs.Common.{inl, [], refl}
use Rattle.mach_dyld.proofs.CursorTurns.{at_the_root, full_by}
use Rattle.mach_dyld.proofs.trie.cursor.TrieCursor.visit_root.Goals as goal

pub returns-clause-gives : goal.returns-clause-gives
returns-clause-gives c = λ found come. c.visit.ensures.gives found (at_the_root c.requires.root come)

pub returns-clause-full : goal.returns-clause-full
returns-clause-full c =
    full_by c.args.source.now.bytes.now c.args.source.now.from c.args.self.now c.visit.new.self c.args.name.now c.visit.new.name [] c.args.stack.now
    c.visit.new.stack c.visit.result (inl (c.requires.root, refl)) c.visit.ensures.stopped c.visit.ensures.long c.visit.ensures.full
