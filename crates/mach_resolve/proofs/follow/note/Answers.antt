use Rattle.mach_resolve.proofs.Notes.{ok_is, fresh, again}
use Rattle.mach_resolve.proofs.follow.note.Goals as goal

pub returns-clause-fresh : goal.returns-clause-fresh
returns-clause-fresh g c = λ e.
    fresh c.args.symbol c.args.met.now.keys c.insert.new.self.keys c.len-before.result c.len.result
    c.in_ok-insert.ensures.keys c.len-before.ensures.len c.len.ensures.len (ok_is _ _ e)

pub returns-clause-again : goal.returns-clause-again
returns-clause-again g c = λ e.
    again c.args.symbol c.args.met.now.keys c.insert.new.self.keys c.len-before.result c.len.result
    c.in_ok-insert.ensures.keys c.len-before.ensures.len c.len.ensures.len (ok_is _ _ e)
