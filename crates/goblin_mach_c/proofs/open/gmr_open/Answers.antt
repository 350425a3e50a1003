use Rattle.std.proofs.Common.{inr, refl}
use Rattle.mach_base.specs.Fault.{malformed}
use Rattle.goblin_mach_c.proofs.OpenedImage.{opened_of}
use Rattle.goblin_mach_c.proofs.open.gmr_open.Goals as goal

pub returns-in-Ok-clause-opened : goal.returns-in-Ok-clause-opened
returns-in-Ok-clause-opened c = λ _. opened_of c.args.bytes.now c.args.offset c.in-Ok.found _ _ c.in-Ok.ensures.opened c.in-Ok.ensures.strict c.numbers.ensures

pub returns-then-mode-gt-GM_LOSSY-clause-refused : goal.returns-then-mode-gt-GM_LOSSY-clause-refused
returns-then-mode-gt-GM_LOSSY-clause-refused c = λ _.
    record { fault = malformed; is_code = c.refuse.ensures.code; occurs = inr (inr (c.if-mode-gt-GM_LOSSY.true, refl)) }
