use Rattle.goblin_mach.proofs.OpenedImages.{ok_where_opens_lossily}
use Rattle.goblin_mach.proofs.macho.MachO.parse_lossy.Goals as goal

pub returns-clause-only : goal.returns-clause-only
returns-clause-only g c = ok_where_opens_lossily c.open_lossy.result c.args.bytes.now c.args.offset c.open_lossy.ensures.refused
