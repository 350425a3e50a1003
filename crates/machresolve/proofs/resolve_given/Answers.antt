use Rattle.machresolve.proofs.resolve_given.Goals as goal

pub returns-clause-runs : goal.returns-clause-runs
returns-clause-runs g c = λ small. rw (c.selected_cpu-wanted.ensures, c.most_answered-limit.ensures) at (c.run.ensures.runs small)
