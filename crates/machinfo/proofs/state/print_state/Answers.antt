use Rattle.std.proofs.lemmas.Result.{on_ok_weaker}
use Rattle.mach_base.proofs.Written.{Appends-both}
use Rattle.machinfo.proofs.state.print_state.Goals as goal

pub returns : goal.returns
returns g c =
    rw (← c.yes_or_no-encrypted.ensures, ← c.yes_or_no-stripped.ensures)
    (on_ok_weaker c.writeln-3.result
    (λ last. Appends-both _ _ _ _ _ c.in_ok-writeln.ensures.bytes (Appends-both _ _ _ _ _ c.in_ok-writeln-2.ensures.bytes last))
    c.writeln-3.ensures.bytes)
