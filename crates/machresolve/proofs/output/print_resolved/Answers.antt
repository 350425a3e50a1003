use Rattle.std.proofs.lemmas.Result.{on_ok_weaker}
use Rattle.mach_base.proofs.Written.{Appends-both}
use Rattle.machresolve.proofs.output.print_resolved.Goals as goal

pub returns : goal.returns
returns g c =
    let answers = rw c.deref.ensures.value at c.in_ok-print_answers.ensures in
    on_ok_weaker c.print_more.result
    (λ last. Appends-both _ _ _ _ _ c.in_ok-writeln.ensures.bytes (Appends-both _ _ _ _ _ answers last)) c.print_more.ensures
