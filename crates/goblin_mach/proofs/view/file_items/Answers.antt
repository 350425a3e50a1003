use Rattle.std.proofs.Common.{[], ◌∷◌, List, Result, Ok, IsOk, refl}
use Rattle.std.proofs.lemmas.Result.{IfOk-weaker}
use Rattle.mach_base.specs.Fault.{Fault}
use Rattle.goblin_mach.specs.FatEntry.{FatEntry, entries_of, image}
use Rattle.goblin_mach.specs.FatFile.{arches_in, file_view}
use Rattle.goblin_mach.specs.View.{HasEntries, ViewFault, of_table, fat_table, AreViewItems}
use Rattle.goblin_mach.proofs.WholeFiles.{entries_of_image}
use Rattle.goblin_mach.proofs.Exits.{exit_failed}
use Rattle.goblin_mach.proofs.view.file_items.Goals as goal

pub returns-in_err-arches-in-Fat-clause-refused : goal.returns-in_err-arches-in-Fat-clause-refused
returns-in_err-arches-in-Fat-clause-refused g c = λ bytes is.
    let file = file_view c.in-Fat.container in
    let fat = rw c.in-Fat.is at is in
    exit_failed (ViewFault bytes) _ _ c.from_residual-in_err-arches-in-Fat.ensures.1 (arches_in file)
    (λ f bad. of_table file f fat.magic fat.file bad) c.in_err-arches-in-Fat.ensures

pub returns-in_ok-push-in-Binary-clause-viewed : goal.returns-in_ok-push-in-Binary-clause-viewed
returns-in_ok-push-in-Binary-clause-viewed g c = λ bytes is.
    let opened = rw c.in-Binary.is at is in
    let item = c.in_ok-image_item-in-Binary.ensures.item bytes opened in
    rw (c.in_ok-push-in-Binary.ensures.items, c.new-items.ensures.items)
    (Ok (image bytes) ∷ [], entries_of_image bytes (opened.ctx, _, opened.opens), (item, tt))

pub returns-in_ok-arches-in-Fat-clause-viewed : goal.returns-in_ok-arches-in-Fat-clause-viewed
returns-in_ok-arches-in-Fat-clause-viewed g c = λ bytes is.
    let file = file_view c.in-Fat.container in
    let fat = rw c.in-Fat.is at is in
    let table : IsOk (arches_in file) = rw c.in_ok-arches-in-Fat.ensures refl in
    IfOk-weaker c.entry_items.result (λ v. AreViewItems (entries_of file) v.items)
    (λ v. (entries : List (Result FatEntry Fault)) × HasEntries bytes entries × AreViewItems entries v.items)
    (λ v items. (entries_of file, fat_table file fat.magic fat.file table, items)) c.entry_items.ensures.items
