use Rattle.goblin_mach.proofs.Views.{image-links, image-fails}
use Rattle.goblin_mach.proofs.laws.links.links_of_image.Goals as goal

pub returns-clause-listed : goal.returns-clause-listed
returns-clause-listed g c = λ bytes list imports p exported imported. image-links bytes c.args.image.now list imports p exported imported

pub returns-clause-refused : goal.returns-clause-refused
returns-clause-refused g c = λ bytes f p fault. image-fails bytes c.args.image.now f p fault
