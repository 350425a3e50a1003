use Rattle.std.proofs.Common.{map, take}
use Rattle.std.specs.Io.KnownBytes.{Appends}
use Rattle.machresolve.specs.Lines.{entries_text}
use Rattle.machresolve.specs.CallViews.{call_view_of}
use Rattle.machresolve.specs.ReportViews.{outcome_view}
use Rattle.machresolve.proofs.output.print_entries.Given as goal

abbrev pub invariant-outcomes : goal.invariant-outcomes
invariant-outcomes g l =
    Appends (g.O.Write.contents l.fn.out) (g.O.Write.contents l.out) (entries_text (call_view_of l.call) 0 (map outcome_view (take l.index l.outcomes)))
