use Rattle.std.proofs.lemmas.Result.{on_ok_weaker}
use Rattle.mach_base.proofs.Written.{Appends-both}
use Rattle.machinfo.proofs.fact.print_library.Goals as goal

pub returns : goal.returns
returns g c =
    on_ok_weaker c.print_versions.result
    (λ last. Appends-both _ _ _ _ _ c.in_ok-write.ensures.bytes (Appends-both _ _ _ _ _ c.in_ok-write_library.ensures last))
    c.print_versions.ensures
