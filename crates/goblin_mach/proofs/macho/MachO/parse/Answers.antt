use Rattle.goblin_mach.proofs.OpenedImages.{ok_where_opens}
use Rattle.goblin_mach.proofs.macho.MachO.parse.Goals as goal

pub returns-clause-only : goal.returns-clause-only
returns-clause-only g c = ok_where_opens c.open.result c.args.bytes.now c.args.offset c.open.ensures.refused
