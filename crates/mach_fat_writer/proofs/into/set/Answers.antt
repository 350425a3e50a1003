use Rattle.std.proofs.Common.{◌+◌, ◌-◌, length, ap, ◌∙◌, arith}
use Rattle.std.proofs.lemmas.Slice.{drop-put_mid}
use Rattle.mach_fat_writer.proofs.into.set.Goals as goal

pub returns-clause-rest : goal.returns-clause-rest
returns-clause-rest c = λ n less.
    let room = c.requires in
    drop-put_mid c.args.at (c.args.at + length c.args.bytes.now - c.args.at) c.args.out.now c.copy_from_slice.new.self n (omega (arith, less))
    (omega (arith, room)) (ap length c.copy_from_slice.ensures.after ∙ omega arith)
