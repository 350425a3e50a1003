use Rattle.std.proofs.Common.{sym, ap}
use Rattle.machsign.specs.Blocks.{slots_words}
use Rattle.machsign.proofs.block.slots_words.Goals as goal

pub returns-in-Some : goal.returns-in-Some
returns-in-Some c = sym (ap slots_words c.in-Some.ensures.steps)
