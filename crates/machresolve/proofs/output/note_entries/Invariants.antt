use Rattle.std.proofs.Common.{◌≡◌, map, drop}
use Rattle.machresolve.specs.Lines.{all_notes}
use Rattle.mach_resolve.specs.ResolveViews.{note_view_of}
use Rattle.machresolve.specs.ReportViews.{outcome_view}
use Rattle.machresolve.proofs.output.note_entries.Given as goal

-- adding the notes of the outcomes that are left gives the same as adding all
abbrev pub invariant-outcomes : goal.invariant-outcomes
invariant-outcomes g l =
    all_notes (map note_view_of l.notes.keys) (map outcome_view (drop l.outcome-index l.outcomes)) ≡ all_notes (map note_view_of l.fn.notes.keys)
    (map outcome_view l.outcomes)
