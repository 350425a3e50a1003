use Rattle.machsyms.proofs.SymbolLines.{symbol_is_one_line}
use Rattle.machsyms.proofs.laws.a_symbol_is_one_line.Goals as goal

pub returns : goal.returns
returns c = symbol_is_one_line
