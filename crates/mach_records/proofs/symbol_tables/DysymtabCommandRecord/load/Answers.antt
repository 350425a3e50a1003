use Rattle.mach_records.proofs.symbol_tables.DysymtabCommandRecord.load.Goals as goal

pub returns : goal.returns
returns c = cc
