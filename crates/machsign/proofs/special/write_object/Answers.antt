use Rattle.std.proofs.lemmas.Result.{on_ok_weaker}
use Rattle.machsign.proofs.Written.{three}
use Rattle.machsign.proofs.special.write_object.Goals as goal

pub returns : goal.returns
returns g c =
    on_ok_weaker c.write-2.result (λ last. three _ _ _ _ _ _ _ c.in_ok-write.ensures.bytes c.in_ok-print_bytes.ensures last) c.write-2.ensures.bytes
