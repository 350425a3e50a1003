use Rattle.std.proofs.Common.{◌∙◌, sym}
use Rattle.mach_load.specs.TablesLeft.{starts_left}
use Rattle.goblin_mach.specs.Fixups.{base_view}
use Rattle.goblin_mach.specs.OpenImage.{bytes_view, commands_view}
use Rattle.goblin_mach.specs.Tables.{starts_place_in}
use Rattle.goblin_mach.proofs.NearestItems.{function_found, image_starts_ascend, image_starts_one}
use Rattle.goblin_mach.proofs.macho.MachO.function_at.Goals as goal

pub function_in-requires : goal.function_in-requires
function_in-requires g c =
    image_starts_ascend (bytes_view c.args.self.now) (starts_place_in (commands_view c.args.self.now)) (base_view c.args.self.now)
    (starts_left c.function_starts.result) c.function_starts.ensures

pub returns : goal.returns
returns g c = λ items are.
    function_found _ c.in_ok-found.found items (starts_left c.function_starts.result) c.args.address c.function_in.result
    (sym c.section_at.ensures ∙ c.in_ok-found.was)
    (image_starts_one (bytes_view c.args.self.now) (starts_place_in (commands_view c.args.self.now)) (base_view c.args.self.now)
    (starts_left c.function_starts.result) items c.function_starts.ensures are)
    c.function_in.ensures
