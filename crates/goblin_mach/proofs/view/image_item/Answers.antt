use Rattle.std.proofs.Common.{Ok, refl}
use Rattle.goblin_mach.specs.FatEntry.{image}
use Rattle.goblin_mach.specs.View.{ItemFault, FaultHeld}
use Rattle.goblin_mach.proofs.Views.{reports, image-links, item_fault}
use Rattle.goblin_mach.proofs.view.image_item.Goals as goal

pub returns-in_ok-reported-in-Err-clause-item : goal.returns-in_ok-reported-in-Err-clause-item
returns-in_ok-reported-in-Err-clause-item g c =
    λ bytes opened.
    let same = c.in_ok-reported-in-Err.ensures.same in
    reports (FaultHeld c.args.opened.now) (ItemFault (Ok (image bytes))) c.in_ok-reported-in-Err.field-0 same.1
    (λ f fault. item_fault bytes c.args.opened.now f opened fault) (rw same.0 c.in-Err.ensures.refused)

pub returns-in-Ok-clause-item : goal.returns-in-Ok-clause-item
returns-in-Ok-clause-item g c =
    λ bytes opened.
    let held = c.in-Ok.ensures.held in
    (image bytes, refl, image-links bytes c.args.opened.now _ _ opened held.exports held.imports)
