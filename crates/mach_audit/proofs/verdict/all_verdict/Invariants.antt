use Rattle.std.proofs.Common.{◌≡◌, drop}
use Rattle.mach_audit.specs.Verdicts.{verdict_of_all, verdict_of_both}
use Rattle.mach_audit.proofs.verdict.all_verdict.Given as goal

abbrev pub invariant-things : goal.invariant-things
invariant-things g l =
    let verdict = verdict_of_all g.T.Judged.judgement in verdict_of_both l.verdict (verdict (drop l.thing-index l.things)) ≡ verdict l.fn.things
