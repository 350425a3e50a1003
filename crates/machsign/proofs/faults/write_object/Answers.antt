use Rattle.std.proofs.lemmas.Result.{on_ok_weaker}
use Rattle.mach_base.proofs.Written.{Appends-both}
use Rattle.machsign.proofs.Written.{four}
use Rattle.machsign.proofs.faults.write_object.Goals as goal

pub returns : goal.returns
returns g c =
    on_ok_weaker c.write-3.result
    (λ last. Appends-both _ _ _ _ _ c.in_ok-write.ensures.bytes
    (four _ _ _ _ _ _ _ _ _ c.in_ok-write_part.ensures c.in_ok-write-2.ensures.bytes c.in_ok-write_part-2.ensures last))
    c.write-3.ensures.bytes
