use Rattle.goblin_mach_c.proofs.OpenedTables.{data_of_opened, indirect_of_opened}
use Rattle.goblin_mach_c.proofs.laws.tables_of_opened.Goals as goal

pub returns-clause-data_in_code : goal.returns-clause-data_in_code
returns-clause-data_in_code c = data_of_opened

pub returns-clause-indirect : goal.returns-clause-indirect
returns-clause-indirect c = indirect_of_opened
