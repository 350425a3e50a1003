use Rattle.goblin_mach_c.proofs.OpenedLists.{commands_of_opened, segments_of_opened, symbols_of_opened}
use Rattle.goblin_mach_c.proofs.laws.lists_of_opened.Goals as goal

pub returns-clause-commands : goal.returns-clause-commands
returns-clause-commands c = commands_of_opened

pub returns-clause-segments : goal.returns-clause-segments
returns-clause-segments c = segments_of_opened

pub returns-clause-symbols : goal.returns-clause-symbols
returns-clause-symbols c = symbols_of_opened
