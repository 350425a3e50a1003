use Rattle.goblin_mach.proofs.Changes.{last_reports}
use Rattle.goblin_mach.proofs.addresses.stretches.holder_after.Goals as goal

pub returns-in-Some : goal.returns-in-Some
returns-in-Some c = λ x up_to.
    last_reports c.args.changes.now c.args.passed c.in-Some.last x _ c.requires c.in-Some.ensures.0 c.in-Some.ensures.1 up_to
