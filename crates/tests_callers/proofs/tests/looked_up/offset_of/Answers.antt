use Rattle.tests_callers.proofs.tests.looked_up.offset_of.Goals as goal

pub returns : goal.returns
returns g = λ bytes o opened. ((g.offset_of_image.ensures g.args.address).strict bytes o opened _).1 g.offset_of_address.ensures
