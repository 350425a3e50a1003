use Rattle.tests_callers.proofs.tests.looked_up.function_at.Goals as goal

pub returns : goal.returns
returns g = λ bytes o opened. ((g.function_at_of_image.ensures g.args.address).strict bytes o opened _).1 g.function_at.ensures
