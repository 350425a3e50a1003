use Rattle.std.proofs.lemmas.Result.{on_ok_weaker}
use Rattle.mach_base.proofs.Written.{Appends-both}
use Rattle.machsign.proofs.requirement_lines.print_line.Goals as goal

pub returns : goal.returns
returns g c = on_ok_weaker c.writeln.result (λ last. Appends-both _ _ _ _ _ c.in_ok-write.ensures.bytes last) c.writeln.ensures.bytes
