use Rattle.std.proofs.lemmas.Result.{on_ok_weaker}
use Rattle.machinfo.proofs.Some.{some, some_more}
use Rattle.machinfo.proofs.members.write_header.Goals as goal

pub returns : goal.returns
returns g c = on_ok_weaker c.write-2.result (λ last. some_more (some _ c.in_ok-write.ensures.bytes) (some _ last)) c.write-2.ensures.bytes
