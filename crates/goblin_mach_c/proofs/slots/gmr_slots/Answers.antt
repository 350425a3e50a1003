use Rattle.std.proofs.Common.{subst}
use Rattle.mach_parts.specs.SlotsLeft.{slots_left}
use Rattle.goblin_mach_c.specs.Fill.{Fills}
use Rattle.goblin_mach_c.proofs.slots.gmr_slots.Goals as goal

pub returns-in-Ok-clause-written : goal.returns-in-Ok-clause-written
returns-in-Ok-clause-written c = λ _.
    let items = slots_left c.symbol_slots.result in
    record {
      items = items;
      has = (c.slots_of_image.ensures.lossy c.args.bytes.now c.args.image.now.offset c.in-Ok.ensures.opened items).1 c.symbol_slots.ensures;
      rows = subst (λ l. Fills l c.args.out.now c.fill.new.out c.fill.result) c.skip.ensures c.fill.ensures.filled;
    }
