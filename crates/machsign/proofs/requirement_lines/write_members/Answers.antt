use Rattle.std.proofs.lemmas.Result.{on_ok_weaker}
use Rattle.machsign.proofs.Written.{five}
use Rattle.machsign.proofs.requirement_lines.write_members.Goals as goal

pub returns : goal.returns
returns g c =
    on_ok_weaker c.write_type-5.result
    (λ last. five _ _ _ _ _ _ _ _ _ _ _ c.in_ok-write_type.ensures c.in_ok-write_type-2.ensures c.in_ok-write_type-3.ensures
    c.in_ok-write_type-4.ensures last) c.write_type-5.ensures
