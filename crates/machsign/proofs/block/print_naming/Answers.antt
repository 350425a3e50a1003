use Rattle.std.proofs.lemmas.Result.{on_ok_weaker}
use Rattle.machsign.proofs.Written.{four}
use Rattle.machsign.proofs.block.print_naming.Goals as goal

pub returns : goal.returns
returns g c =
    on_ok_weaker c.print_executable.result
    (λ last. four _ _ _ _ _ _ _ _ _ c.in_ok-print_head.ensures c.in_ok-print_identifier.ensures c.in_ok-print_team.ensures last)
    c.print_executable.ensures
