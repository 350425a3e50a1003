use Rattle.std.proofs.Common.{map, take}
use Rattle.std.specs.Io.KnownBytes.{Appends}
use Rattle.machresolve.specs.Lines.{lines_of}
use Rattle.mach_resolve.specs.ResolveViews.{answer_view}
use Rattle.machresolve.proofs.output.print_answers.Given as goal

abbrev pub invariant-answers : goal.invariant-answers
invariant-answers g l =
    Appends (g.O.Write.contents l.fn.out) (g.O.Write.contents l.out) (lines_of (map answer_view (take l.answer-index l.answers)))
