use Rattle.mach_base.proofs.Written.{Appends-none}
use Rattle.mach_cli.proofs.sink.TextSink.refuse_image.Goals as goal

pub returns-in-None : goal.returns-in-None
returns-in-None g c = rw c.in-None.is (Appends-none _)
