use Rattle.goblin_mach.proofs.ExportedOrNot.{first-exported, first-or_none, exported-excludes_none}
use Rattle.goblin_mach.proofs.exported.exported_or_not.Goals as goal

pub returns : goal.returns
returns c = record { either = first-or_none; first = first-exported; not_both = exported-excludes_none }
