use Rattle.mach_cli.proofs.call.Call.take.Goals as goal

pub returns-in-None-cputype_in-clause-untaken : goal.returns-in-None-cputype_in-clause-untaken
returns-in-None-cputype_in-clause-untaken g c = rw c.in-Cputype.is (λ new takes. c.in-None-cputype_in.ensures.none takes.0 takes.1)
