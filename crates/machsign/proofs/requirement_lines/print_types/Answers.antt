use Rattle.std.proofs.lemmas.Result.{on_ok_weaker}
use Rattle.machsign.proofs.Written.{five}
use Rattle.machsign.proofs.requirement_lines.print_types.Goals as goal

pub returns : goal.returns
returns g c =
    on_ok_weaker c.print_type-5.result
    (λ last. five _ _ _ _ _ _ _ _ _ _ _ c.in_ok-print_type.ensures c.in_ok-print_type-2.ensures c.in_ok-print_type-3.ensures
    c.in_ok-print_type-4.ensures last) c.print_type-5.ensures
