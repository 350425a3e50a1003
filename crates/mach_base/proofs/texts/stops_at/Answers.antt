use Rattle.std.proofs.lemmas.Simd.{length-chunk}
use lib.Lanes.{chunk}
use Rattle.mach_base.proofs.Lanes.{mask_of_stops}
use Rattle.mach_base.proofs.texts.stops_at.Goals as goal

pub returns : goal.returns
returns c = mask_of_stops (chunk c.args.place 32 c.args.bytes.now) (length-chunk c.args.place 32 c.args.bytes.now c.requires)
