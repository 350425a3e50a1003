use Rattle.std.proofs.Common.{refl}
use Rattle.mach_chained.specs.Chained.{fixup_items}
use Rattle.mach_chained.proofs.header.ChainedFixups.bindings.Goals as goal

pub returns : goal.returns
returns c =
    let it = c.start_bindings.ensures in (fixup_items it.0 it.1, (it.0, it.1, it.2, refl), it.3)
