use Rattle.std.proofs.Common.{◌∙◌, ap}
use Rattle.goblin_mach_c.specs.SymbolFinds.{found_symbol_row}
use Rattle.goblin_mach_c.proofs.OrderedSymbols.{order_of_image}
use Rattle.goblin_mach_c.proofs.symbol_map.gmr_symbol_in_map.Goals as goal

pub returns-in-Ok-clause-found : goal.returns-in-Ok-clause-found
returns-in-Ok-clause-found c = λ _ ordered.
    let bytes = c.args.bytes.now in
    let o = c.args.image.now.offset in
    let opened = c.in-Ok.ensures.opened in
    let found = c.symbol_in_map.result in
    let is = c.symbol_in_map.ensures.nearest (order_of_image bytes o c.in-Ok.found c.args.order.now opened ordered) in (
      found,
      ((c.symbol_at_of_image.ensures c.args.address).lossy bytes o opened found).1 is,
      c.row_of.ensures ∙ ap (found_symbol_row bytes c.args.image.now) c.place_of_nearest-place.ensures,
    )
