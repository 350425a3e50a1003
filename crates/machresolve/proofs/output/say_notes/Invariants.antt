use Rattle.std.proofs.Common.{map, take}
use Rattle.std.specs.Io.KnownBytes.{Appends}
use Rattle.machresolve.specs.Lines.{message_lines}
use Rattle.machresolve.specs.CallViews.{call_view_of}
use Rattle.mach_resolve.specs.ResolveViews.{note_view_of}
use Rattle.machresolve.proofs.output.say_notes.Given as goal

abbrev pub invariant-notes : goal.invariant-notes
invariant-notes g l =
    Appends (g.E.Write.contents l.fn.err) (g.E.Write.contents l.err) (message_lines (call_view_of l.call) (map note_view_of (take l.note-index l.notes)))
