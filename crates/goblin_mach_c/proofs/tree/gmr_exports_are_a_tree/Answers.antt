use Rattle.goblin_mach_c.specs.ExportRows.{WalkFault}
use Rattle.goblin_mach_c.specs.Opened.{lossy_mode}
use Rattle.goblin_mach_c.proofs.OpenedImage.{refusal_of}
use Rattle.goblin_mach_c.proofs.tree.gmr_exports_are_a_tree.Goals as goal

pub returns-in-Err-clause-refused : goal.returns-in-Err-clause-refused
returns-in-Err-clause-refused c = λ _.
    let image = c.args.image.now in
    refusal_of (WalkFault (lossy_mode image.is_lossy) c.args.bytes.now image.offset) c.in-Err.why c.refuse.result c.refuse.ensures.code c.in-Err.ensures.refused
