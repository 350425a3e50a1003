use Rattle.std.proofs.Common.{inr, refl}
use Rattle.mach_base.specs.Fault.{malformed}
use Rattle.goblin_mach_c.proofs.symbol_finds.gmr_symbol_named.Goals as goal

pub returns-in_default-clause-refused : goal.returns-in_default-clause-refused
returns-in_default-clause-refused c = λ _.
    record { fault = malformed; is_code = c.refuse.ensures.code; occurs = inr (inr (refl, c.in_default.ensures.cases.0)) }
