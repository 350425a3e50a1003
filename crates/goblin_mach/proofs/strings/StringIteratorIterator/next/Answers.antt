use Rattle.std.proofs.Common.{arith}
use Rattle.mach_load.proofs.StartsRead.{fewer_after}
use Rattle.goblin_mach.proofs.NextStrings.{next_string}
use Rattle.goblin_mach.proofs.strings.StringIteratorIterator.next.Goals as goal

pub returns-clause-steps : goal.returns-clause-steps
returns-clause-steps c =
    let it = c.args.self.now in
    let len = c.len_before_zero-len in
    next_string it.held.now c.rest_at-rest.result.now it.place len.result c.rest_at-rest.ensures (omega (arith, c.if-self.false)) len.ensures.value

pub returns-clause-goes : goal.returns-clause-goes
returns-clause-goes c =
    record {
      on = λ _. (tt, tt, fewer_after _ _ _ (returns-clause-steps c));
      keeps = tt;
      rests = λ _. tt;
    }
