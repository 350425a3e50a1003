use Rattle.goblin_mach.proofs.NearestItems.{no_function}
use Rattle.goblin_mach.proofs.macho.nearest.function_in.Goals as goal

pub returns-in_err-start : goal.returns-in_err-start
returns-in_err-start c =
    rw c.from_residual.ensures (no_function _ c.args.section.now c.args.address _ c.starts_around-begin.result.0 _ c.starts_around-begin.ensures
    (rw c.in_err-start.was tt))

pub returns-then-start-section : goal.returns-then-start-section
returns-then-start-section c =
    no_function _ c.args.section.now c.args.address _ c.starts_around-begin.result.0 _ c.starts_around-begin.ensures
    (rw c.in_ok-start.was c.if-start-section.true)
