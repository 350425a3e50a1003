use Rattle.std.proofs.lemmas.Result.{on_ok_weaker}
use Rattle.machinfo.proofs.Some.{some, some_more}
use Rattle.machinfo.proofs.members.write_flags.Goals as goal

pub bits-init : goal.bits-init
bits-init g c = some _ c.in_ok-write.ensures.bytes

pub bits-preserved : goal.bits-preserved
bits-preserved g c = some_more c.bits.invariant c.in_ok-is_first.ensures

pub returns : goal.returns
returns g c = on_ok_weaker c.write-2.result (λ last. some_more c.bits.invariant (some _ last)) c.write-2.ensures.bytes
