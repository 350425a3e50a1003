use Rattle.tests_callers.proofs.tests.looked_up.segment_named.Goals as goal

pub returns : goal.returns
returns g = λ bytes o opened. ((g.named_segment_of_image.ensures g.args.name.now).strict bytes o opened _).1 g.segment_named.ensures
