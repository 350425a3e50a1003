use Rattle.std.proofs.lemmas.Result.{on_ok_weaker}
use Rattle.mach_base.proofs.Written.{Appends-both}
use Rattle.machinfo.proofs.signed.print_directory.Goals as goal

pub returns : goal.returns
returns g c =
    on_ok_weaker c.print_flags.result
    (λ last. Appends-both _ _ _ _ _ c.in_ok-print_kind.ensures
    (Appends-both _ _ _ _ _ c.in_ok-print_identifier.ensures (Appends-both _ _ _ _ _ c.in_ok-print_team.ensures last)))
    c.print_flags.ensures
