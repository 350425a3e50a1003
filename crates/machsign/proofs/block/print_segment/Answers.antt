use Rattle.std.proofs.Common.{ℕ, subst}
use Rattle.std.proofs.lemmas.Result.{on_ok_weaker}
use Rattle.std.specs.Io.KnownBytes.{Appends}
use Rattle.machsign.specs.Blocks.{segment_end, segment_front}
use Rattle.machsign.proofs.Written.{three}
use Rattle.machsign.proofs.block.print_segment.Goals as goal

pub returns : goal.returns
returns g c =
    let s = c.args.segment in
    let old = g.O.Write.contents c.args.out.now in
    let front = subst (λ (end : ℕ). Appends old (g.O.Write.contents c.write.new.self) (segment_front s.base end)) c.saturating_add.ensures
    c.in_ok-write.ensures.bytes in
    on_ok_weaker c.writeln.result
    (λ last. three old _ _ _ (segment_front s.base (segment_end s)) _ _ front c.in_ok-print_segment_flags.ensures last)
    c.writeln.ensures.bytes
