use Rattle.tests_callers.proofs.tests.looked_up.symbol_named.Goals as goal

pub returns : goal.returns
returns g = λ bytes o opened. ((g.named_symbol_of_image.ensures g.args.name.now).strict bytes o opened _).1 g.symbol_named.ensures
