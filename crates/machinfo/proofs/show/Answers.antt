use Rattle.machinfo.proofs.show.Goals as goal

pub returns-else-shown-clause-text : goal.returns-else-shown-clause-text
returns-else-shown-clause-text g c = λ form. let shown = rw (c.as_text.ensures, c.files-call.ensures) at c.show-else-shown.ensures.shown in shown
