use Rattle.std.proofs.lemmas.Result.{on_ok_weaker}
use Rattle.mach_base.proofs.Written.{Appends-both}
use Rattle.machsign.specs.Blocks.{directory_lines}
use Rattle.machsign.proofs.block.print_directory.Goals as goal

pub returns : goal.returns
unfolding directory_lines
returns g c = on_ok_weaker c.print_hashing.result (λ last. Appends-both _ _ _ _ _ c.in_ok-print_naming.ensures last) c.print_hashing.ensures
