-- The notes of commands, each with the number of its command.
use Rattle.std.specs.Prelude.{◌≡◌, ℕ, ◌+◌, List, [], ◌∷◌, drop, map, Option, Some, None, Result, Ok}
use Rattle.mach_base.specs.declared.error.Error.{Error}
use Rattle.mach_base.specs.Answer.{◌>>=◌}
use Rattle.mach_base.specs.Fault.{Fault}
use Rattle.mach_base.specs.Items.{read_as}
use Rattle.mach_load.specs.Command.{Command}
use Rattle.mach_load.specs.Variants.{command_of}
use Rattle.mach_load.specs.Notes.{NoteView, note_at, note_range}
use Rattle.mach_load.specs.TablesLeft.{note_view}
use Rattle.goblin_mach.specs.ImageFacts.{OfFacts}
use Rattle.machinfo.specs.declared.notes.NumberedNote.{NumberedNote}
use Rattle.machinfo.specs.declared.notes.NumberedNotes as declared

-- a note, with the number of its command and the place of its bytes
pub record NumberedNoteView : Type 0 where
  pub number : ℕ
  pub place : ℕ
  pub note : NoteView

abbrev pub numbered_note : ℕ → ℕ → NoteView → NumberedNoteView
numbered_note number place note = record { number = number; place = place; note = note }

-- the offset of the bytes of a note with this range
abbrev pub place_in_range : Option (ℕ × ℕ) → ℕ
place_in_range None = 0
place_in_range (Some range) = range.0

-- the offset of the bytes of a command's note
abbrev pub note_place_of : Command → ℕ
note_place_of c = place_in_range (note_range c.kind c.values)

-- the note of a command with this number, if it is a note; its bytes are those of the range
abbrev pub note_in_range : List ℕ → ℕ → Command → Option (ℕ × ℕ) → Option (Result NumberedNoteView Fault)
note_in_range bytes number c None = None
note_in_range bytes number c (Some range) = Some (note_at bytes c.offset range.0 range.1 >>= (λ note. Ok (numbered_note number range.0 note)))

abbrev pub noted_by : List ℕ → ℕ → Command → Option (Result NumberedNoteView Fault)
noted_by bytes number c = note_in_range bytes number c (note_range c.kind c.values)

-- a list, after an item if there is one
abbrev pub led_by : {X : Type 0} → Option X → List X → List X
led_by None others = others
led_by (Some item) others = item ∷ others

-- the notes of some commands, the first of which has this number
abbrev pub numbered_notes_from : List ℕ → ℕ → List Command → List (Result NumberedNoteView Fault)
numbered_notes_from bytes number [] = []
numbered_notes_from bytes number (c ∷ cs) = led_by (noted_by bytes number c) (numbered_notes_from bytes (number + 1) cs)

-- these are the notes of the image at an offset
abbrev pub HasNumberedNotes : List ℕ → ℕ → List (Result NumberedNoteView Fault) → Type 0
HasNumberedNotes bytes o items = OfFacts bytes o (λ f. items ≡ numbered_notes_from f.bytes 0 f.commands)

-- ---- what the code's values mean

abbrev pub numbered_note_view : NumberedNote → NumberedNoteView
numbered_note_view n = record { number = n.number; place = n.place; note = note_view n.note }

abbrev pub numbered_note_read : Result NumberedNote Error → Result NumberedNoteView Fault
numbered_note_read item = read_as numbered_note_view item

abbrev pub notes_numbered_left : declared.NumberedNotes → List (Result NumberedNoteView Fault)
notes_numbered_left it = numbered_notes_from it.bytes.now it.number (map command_of (drop it.number it.commands.now))
