use Rattle.goblin_mach.proofs.Views.{archive_item, entry_of_image}
use Rattle.goblin_mach.proofs.view.opened_item.Goals as goal

pub returns-in-Archive-clause-item : goal.returns-in-Archive-clause-item
returns-in-Archive-clause-item g c = λ e is. archive_item _ _ _ e (rw c.in-Archive.is at is)

pub returns-in-MachO-clause-item : goal.returns-in-MachO-clause-item
returns-in-MachO-clause-item g c = λ e is. entry_of_image c.image_item.result _ e (rw c.in-MachO.is at is) c.image_item.ensures.item
