use Rattle.std.proofs.Common.{◌-◌, length, arith, refl}
use Rattle.std.proofs.lemmas.Option.{slice_get_read}
use Rattle.mach_dyld.proofs.CursorTurns.{ends, falls}
use Rattle.mach_dyld.proofs.trie.cursor.TrieCursor.close.Goals as goal

pub returns-then-self-eq0-clause-gives : goal.returns-then-self-eq0-clause-gives
returns-then-self-eq0-clause-gives c = λ t libs name found come. ends c.requires.on c.requires.none (omega arith) _ refl come

pub returns-in-Some-clause-gives : goal.returns-in-Some-clause-gives
returns-in-Some-clause-gives c = λ t libs name found come.
    falls c.requires.on c.requires.none (c.args.self.now.depth - 1) c.in-Some.below.now (omega arith) (slice_get_read c.args.stack.now
    (length c.args.stack.now) (c.args.self.now.depth - 1) c.in-Some.below.now refl c.in-Some.ensures.lookup.3.0 c.in-Some.ensures.lookup.1)
    _ c.requires.on refl refl refl refl come
