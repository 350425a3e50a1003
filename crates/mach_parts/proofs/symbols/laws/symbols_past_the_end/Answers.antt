use Rattle.mach_parts.proofs.PastTheEnd.{no_symbol_past}
use Rattle.mach_parts.proofs.symbols.laws.symbols_past_the_end.Goals as goal

pub returns : goal.returns
returns c = λ t k few past inside. no_symbol_past t k few past inside
