use Rattle.std.proofs.lemmas.Result.{on_ok_weaker}
use Rattle.mach_base.proofs.Written.{Appends-both}
use Rattle.machsign.proofs.Written.{three}
use Rattle.machsign.proofs.block.print_hashing.Goals as goal

pub returns : goal.returns
returns g c =
    on_ok_weaker c.print_checked.result
    (λ last. Appends-both _ _ _ _ _
    (three _ _ _ _ _ _ _ c.in_ok-print_runtime.ensures c.in_ok-print_cdhash.ensures c.in_ok-print_full_cdhash.ensures)
    (Appends-both _ _ _ _ _ c.in_ok-print_special_slots.ensures last))
    c.print_checked.ensures
