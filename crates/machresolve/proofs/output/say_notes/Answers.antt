use Rattle.std.proofs.Common.{◌∙◌, map, take, get_or, sym, ap, subst}
use Rattle.std.proofs.lemmas.List.{map_push, take_more}
use Rattle.std.specs.Io.KnownBytes.{Appends}
use Rattle.mach_base.proofs.Written.{Appends-both}
use Rattle.machresolve.specs.Lines.{note_text, message_line, message_lines}
use Rattle.machresolve.specs.CallViews.{call_view_of}
use Rattle.mach_resolve.specs.ResolveViews.{note_view_of}
use Rattle.machresolve.proofs.Printed.{said_push}
use Rattle.machresolve.proofs.output.say_notes.Goals as goal

pub notes-preserved : goal.notes-preserved
notes-preserved g c =
    let call = call_view_of c.args.call.now in
    let notes = c.args.notes.now in
    let i = c.notes.note-index in
    let before = map note_view_of (take i notes) in
    let n = get_or notes i _ in
    let line = message_line (note_text call (note_view_of n)) in
    subst (Appends (g.E.Write.contents c.args.err.now) (g.E.Write.contents c.writeln.new.self))
    (sym (ap (λ xs. message_lines call (map note_view_of xs)) (take_more notes i _ c.notes-test.true)
    ∙ (ap (message_lines call) (map_push note_view_of (take i notes) n) ∙ said_push call before (note_view_of n))))
    (Appends-both _ _ _ (message_lines call before) line c.notes.invariant c.in_ok-writeln.ensures.bytes)
