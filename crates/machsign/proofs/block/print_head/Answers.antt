use Rattle.std.proofs.lemmas.Result.{on_ok_weaker}
use Rattle.machsign.specs.Blocks.{head_front}
use Rattle.machsign.proofs.Written.{three}
use Rattle.machsign.proofs.block.print_head.Goals as goal

pub returns : goal.returns
returns g c =
    on_ok_weaker c.print_shape.result
    (λ last. three _ _ _ _ (head_front c.args.slot c.args.directory.now.head.version) _ _ c.in_ok-write.ensures.bytes c.in_ok-print_code_flags.ensures last)
    c.print_shape.ensures
