use Rattle.std.proofs.Common.{ℕ, ◌++◌, subst}
use Rattle.std.specs.Prelude.{OnOk, codes}
use Rattle.std.specs.Io.KnownBytes.{Appends}
use Rattle.machsign.specs.Blocks.{shape_text}
use Rattle.machsign.proofs.block.print_shape.Goals as goal

pub returns : goal.returns
returns g c =
    let d = c.args.directory.now in
    subst
    (λ (limit : ℕ).
    OnOk c.writeln.result
    (Appends (g.O.Write.contents c.args.out.now) (g.O.Write.contents c.writeln.new.self) (shape_text d.hash d.head limit ++ codes "\n")))
    c.code_limit.ensures c.writeln.ensures.bytes
