use Rattle.std.proofs.Common.{sym}
use Rattle.machinfo.proofs.signed.print_refused.Goals as goal

pub returns : goal.returns
returns g c = rw (sym c.describe-words.ensures) c.writeln.ensures.bytes
