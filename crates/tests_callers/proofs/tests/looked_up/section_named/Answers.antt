use Rattle.tests_callers.proofs.tests.looked_up.section_named.Goals as goal

pub returns : goal.returns
returns g = λ bytes o opened.
    ((g.named_section_of_image.ensures g.args.segment.now g.args.section.now).strict bytes o opened _).1 g.section_named.ensures
