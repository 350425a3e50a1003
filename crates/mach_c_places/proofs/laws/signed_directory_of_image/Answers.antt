use Rattle.mach_c_places.proofs.PlacesHeld.{signed_directory_is}
use Rattle.mach_c_places.proofs.laws.signed_directory_of_image.Goals as goal

pub returns : goal.returns
returns g c = signed_directory_is c.args.image.now
