use Rattle.mach_base.proofs.Fronts.{record_at_offset}
use Rattle.mach_base.proofs.laws.record_at_an_offset.Goals as goal

pub returns : goal.returns
returns c = record_at_offset
