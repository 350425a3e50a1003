use Rattle.std.proofs.lemmas.Result.{on_ok_weaker}
use Rattle.machsign.proofs.Written.{three}
use Rattle.machsign.proofs.members.write_running.Goals as goal

pub returns : goal.returns
returns g c =
    on_ok_weaker c.write_runtime.result
    (λ last. three _ _ _ _ _ _ _ c.in_ok-write_platform.ensures c.in_ok-write_requirements.ensures last) c.write_runtime.ensures
