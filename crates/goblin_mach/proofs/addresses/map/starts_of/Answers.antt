use Rattle.std.proofs.Common.{◌∙◌, ap}
use Rattle.std.proofs.lemmas.Result.{IfOk-weaker}
use Rattle.mach_load.specs.TablesLeft.{starts_left}
use Rattle.goblin_mach.specs.AddressMaps.{starts_in}
use Rattle.goblin_mach.specs.Fixups.{base_view}
use Rattle.goblin_mach.specs.OpenImage.{bytes_view, commands_view}
use Rattle.goblin_mach.specs.Tables.{starts_place_in}
use Rattle.goblin_mach.proofs.AddressMaps.{starts_sorted}
use Rattle.goblin_mach.proofs.NearestItems.{image_starts_ascend, image_starts_one}
use Rattle.goblin_mach.proofs.addresses.map.starts_of.Goals as goal

pub returns : goal.returns
returns g c =
    let bytes = bytes_view c.args.image.now in
    let place = starts_place_in (commands_view c.args.image.now) in
    let base = base_view c.args.image.now in
    let all = starts_left c.function_starts.result in
    IfOk-weaker c.readable_starts.result _ _ (λ v is. record {
      sorted = rw is (starts_sorted all (image_starts_ascend bytes place base all c.function_starts.ensures));
      all = λ items are. is ∙ ap starts_in (image_starts_one bytes place base all items c.function_starts.ensures are);
    }) c.readable_starts.ensures
