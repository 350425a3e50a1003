-- Notes (`mach-o/loader.h`, struct note_command): bytes that belong to some tool.
use Rattle.std.specs.Prelude.{◌==◌, ℕ, List, [], Option, Some, None, Result, Ok, if◌then◌else◌}
use Rattle.std.specs.List.{filter_map}
use Rattle.mach_base.specs.Answer.{◌>>=◌}
use Rattle.mach_base.specs.Fault.{Fault}
use Rattle.mach_base.specs.Number.{place_after, slice_at}
use Rattle.mach_base.specs.Record.{Value, number_among}
use Rattle.mach_base.specs.Text.{text_at}
use Rattle.mach_load.specs.Command.{Command}
use Rattle.mach_load.specs.Commands.{Kind, note}

-- A note: its owner and its bytes.
pub record NoteView : Type 0 where
  pub owner : List ℕ
  pub data_bytes : List ℕ

-- the owner's name: the text with which 16 bytes begin
abbrev pub note_owner_at : List ℕ → ℕ → Result (List ℕ) Fault
note_owner_at bytes s = slice_at 16 bytes s >>= (λ field. text_at field 0)

-- the bytes of a note; the place of an empty one is not tested
abbrev pub note_bytes : List ℕ → (offset size : ℕ) → Result (List ℕ) Fault
note_bytes bytes offset size = if size == 0 then Ok [] else slice_at size bytes offset

-- the note of the command at `place`
unfoldable pub note_at : List ℕ → (place offset size : ℕ) → Result NoteView Fault
note_at bytes place offset size = do
  owner ← note_owner_at bytes (place_after place 8)
  found ← note_bytes bytes offset size
  Ok (record { owner = owner; data_bytes = found })

-- the place and the size of the bytes of a command, if it is a note
abbrev pub note_range : Kind → List Value → Option (ℕ × ℕ)
note_range note values = Some (number_among values 3, number_among values 4)
note_range _ values = None

abbrev pub note_in : List ℕ → ℕ → Option (ℕ × ℕ) → Option (Result NoteView Fault)
note_in bytes place None = None
note_in bytes place (Some range) = Some (note_at bytes place range.0 range.1)

-- the note of a command, if it is one
abbrev pub note_by : List ℕ → Command → Option (Result NoteView Fault)
note_by bytes c = note_in bytes c.offset (note_range c.kind c.values)

-- the notes of all commands
abbrev pub notes_of_commands : List ℕ → List Command → List (Result NoteView Fault)
notes_of_commands bytes cs = filter_map (note_by bytes) cs
