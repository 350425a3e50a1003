use Rattle.std.proofs.Common.{◌∙◌, sym}
use Rattle.mach_cli.proofs.Painting.{one_more}
use Rattle.mach_cli.proofs.painted.next_painted.Goals as goal

pub bytes-preserved : goal.bytes-preserved
bytes-preserved c = one_more c.args.text.now c.bytes.at c.bytes.invariant (sym c.is_painted_at.ensures ∙ c.if-is_painted_at.false)
