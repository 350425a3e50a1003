use Rattle.std.proofs.Common.{◌≡◌, ◌∙◌, Option, Some, None, ap, option_map, refl}
use Rattle.goblin_mach.specs.SymbolAtAddress.{SymbolBelow, symbol_below}
use Rattle.goblin_mach.specs.declared.macho.nearest.SymbolAt.{SymbolAt}
use Rattle.machinfo.specs.Parts.{symbol_seen}
use Rattle.machinfo.proofs.initializers.symbol_in.Goals as goal

seen_below : (found : Option SymbolAt) → symbol_seen found ≡ option_map (λ s. (s.name, s.distance)) (option_map symbol_below found)
seen_below None = refl
seen_below (Some x) = refl

pub returns-in-Some : goal.returns-in-Some
returns-in-Some g c = rw c.in-Some.is (c.symbol_to_show.ensures ∙ (seen_below c.symbol_at.result
    ∙ ap (option_map (λ (s : SymbolBelow). (s.name, s.distance))) c.symbol_at.ensures.determined))
