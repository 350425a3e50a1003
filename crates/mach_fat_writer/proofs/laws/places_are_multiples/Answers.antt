use Rattle.mach_fat_writer.proofs.Places.{first_multiple}
use Rattle.mach_fat_writer.proofs.laws.places_are_multiples.Goals as goal

pub returns : goal.returns
returns c = first_multiple
