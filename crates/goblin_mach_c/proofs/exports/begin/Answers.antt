use Rattle.goblin_mach_c.proofs.WalkedTries.{walk_begins}
use Rattle.goblin_mach_c.proofs.exports.begin.Goals as goal

pub returns-then-walk-eq0-clause-same : goal.returns-then-walk-eq0-clause-same
returns-then-walk-eq0-clause-same c = λ libs name stack found h. walk_begins c.if-walk-eq0.true (c.cursor-walk.ensures libs name stack) h
