use Rattle.std.proofs.Common.{sym}
use Rattle.goblin_mach.specs.FixupsLeft.{image_fixups_left}
use Rattle.machfixups.proofs.KeptFixups.{nothing_kept}
use Rattle.machfixups.proofs.kept_fixups.KeptFixupsIterator.next.Goals as goal

pub returns-then-not-has_some-clause-steps : goal.returns-then-not-has_some-clause-steps
returns-then-not-has_some-clause-steps c =
    let all = c.args.self.now in
    let none = nothing_kept all.kinds (sym c.if-not-has_some.ensures) (image_fixups_left all.fixups) in (none, none)
