use Rattle.machinfo.proofs.Flags.{short_some, short_none}
use Rattle.machinfo.proofs.summary.flag_short_name.Goals as goal

pub returns-in-Some : goal.returns-in-Some
returns-in-Some c = let h = c.in-Some.ensures.cases in rw (← c.flag_to_str.ensures) (short_some c.flag_to_str.result.now c.in-Some.name.now _ h.1.1 h.2)

pub returns-in-None : goal.returns-in-None
returns-in-None c = rw (← c.flag_to_str.ensures) (short_none c.flag_to_str.result.now c.in-None.ensures.cases)
