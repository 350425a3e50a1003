use Rattle.tests_callers.proofs.tests.looked_up.symbols_named.Goals as goal

pub returns : goal.returns
returns g = λ bytes o opened. ((g.named_symbols_of_image.ensures g.args.name.now).strict bytes o opened _).1 g.symbols_named.ensures
