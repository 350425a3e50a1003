use Rattle.std.proofs.Common.{◌≡◌, map, take}
use Rattle.std.specs.List.{list_all}
use Rattle.mach_resolve.specs.Answers as answered
use Rattle.mach_resolve.specs.ResolveViews.{answer_view}
use Rattle.mach_resolve.proofs.answers.all_settled.Given as goal

abbrev pub invariant-loop-answer : goal.invariant-loop-answer
invariant-loop-answer l = l.settled ≡ list_all answered.is_settled (map answer_view (take l.answer-index l.answers))
