use Rattle.std.proofs.Common.{sym, subst}
use Rattle.goblin_mach.specs.ImageSlots.{symbol_table_view}
use Rattle.goblin_mach.specs.NamedParts.{symbols_within, IsFirstNamed}
use Rattle.tests_callers.proofs.tests.looked_up.first_named.Goals as goal

pub returns : goal.returns
returns g =
    let items = symbols_within (symbol_table_view g.args.image.now) in
    subst (λ found. IsFirstNamed items g.args.name.now found) (sym g.symbol_named.ensures)
    (g.first_symbol_of_a_name.ensures items g.args.name.now)
