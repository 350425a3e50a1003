use Rattle.std.proofs.lemmas.Result.{on_ok_weaker}
use Rattle.machinfo.proofs.Some.{some}
use Rattle.machinfo.proofs.members.write_none.Goals as goal

pub returns : goal.returns
returns g c = on_ok_weaker c.write.result (λ last. some _ last) c.write.ensures.bytes
