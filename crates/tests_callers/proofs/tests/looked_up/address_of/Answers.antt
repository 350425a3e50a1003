use Rattle.tests_callers.proofs.tests.looked_up.address_of.Goals as goal

pub returns : goal.returns
returns g = λ bytes o opened. ((g.address_of_image.ensures g.args.offset).strict bytes o opened _).1 g.address_of_offset.ensures
