use Rattle.std.proofs.Common.{sym}
use Rattle.machinfo.proofs.counts.write_count.Goals as goal

pub returns-in-Members : goal.returns-in-Members
returns-in-Members g c = rw (c.in-Members.is, sym c.name-name.ensures) c.write.ensures.bytes
