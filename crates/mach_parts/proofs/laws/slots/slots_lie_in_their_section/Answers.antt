use Rattle.mach_parts.proofs.SlotLaws.{in_their_section}
use Rattle.mach_parts.proofs.laws.slots.slots_lie_in_their_section.Goals as goal

pub returns : goal.returns
returns c = in_their_section
