use Rattle.goblin_mach.proofs.AddressMaps.{found_is}
use Rattle.goblin_mach.proofs.addresses.FoundAt.look_up.Goals as goal

pub returns : goal.returns
returns g c = λ bytes opened.
    found_is c.args.image.now bytes c.args.address _ opened c.section_at.ensures c.symbol_at.ensures c.function_at.ensures
