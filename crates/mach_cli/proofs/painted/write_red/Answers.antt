use Rattle.std.proofs.Common.{◌∷◌, codes}
use Rattle.mach_cli.proofs.Painting.{three_written}
use Rattle.mach_cli.proofs.painted.write_red.Goals as goal

pub returns : goal.returns
returns g c =
    three_written _ _ _ _ (0x1b ∷ codes "[31m") c.args.word.now (0x1b ∷ codes "[0m") c.write_all-3.result c.in_ok-write_all.ensures.bytes
    c.in_ok-write_all-2.ensures.bytes c.write_all-3.ensures.bytes
