use Rattle.std.proofs.Common.{refl}
use Rattle.mach_resolve.specs.contracts.note.NotePartialEq.TheImpl.{eq-value}
use Rattle.mach_resolve.proofs.Noting.{cases_notes, noted_more}
use Rattle.mach_resolve.proofs.note.note_all.Goals as goal

pub notes-preserved : goal.notes-preserved
notes-preserved g c =
    noted_more {E = eq-value.it} c.notes.noted.keys c.insert.new.self.keys c.args.notes.now c.notes.note-index _ _ c.notes-test.true c.in_ok-insert.ensures.keys
    (cases_notes _ (λ i j x y. refl) (λ i j x d. refl) (λ i j d y. refl) (λ i j d e. refl)) c.notes.invariant
