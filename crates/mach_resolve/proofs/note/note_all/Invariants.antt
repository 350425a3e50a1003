use Rattle.std.proofs.Common.{◌≡◌, map, drop}
use Rattle.mach_resolve.specs.Note.{all_noted}
use Rattle.mach_resolve.specs.ResolveViews.{note_view_of}
use Rattle.mach_resolve.proofs.note.note_all.Given as goal

-- adding the notes that are left gives the same as adding all
abbrev pub invariant-notes : goal.invariant-notes
invariant-notes g l =
    all_noted (map note_view_of l.noted.keys) (map note_view_of (drop l.note-index l.notes))
    ≡ all_noted (map note_view_of l.fn.noted.keys) (map note_view_of l.notes)
