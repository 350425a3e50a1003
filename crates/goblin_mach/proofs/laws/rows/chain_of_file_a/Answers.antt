use Rattle.std.proofs.Common.{refl}
use Rattle.mach_load.specs.Commands.{row_of}
use Rattle.goblin_mach.proofs.laws.rows.chain_of_file_a.Goals as goal

pub returns : goal.returns
unfolding row_of
returns c = record { there = (refl, tt); begins = refl; linked = tt }
