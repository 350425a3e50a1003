-- The fields of a load command with their values.
use Rattle.std.specs.Prelude.{◌==◌, ◌+◌, ◌-◌, ◌++◌, ℕ, min, List, [], ◌∷◌, length, take, drop, map, replicate, Option, Some, None, nat_le, if◌then◌else◌}
use Rattle.std.specs.List.{before_first}
use Rattle.mach_base.specs.declared.context.Endian.{Endian}
use Rattle.mach_base.specs.Number.{number, place_after}
use Rattle.mach_base.specs.Text.{is_zero, run_at}
use Rattle.mach_command_fields.specs.CommandTables.{FieldPlace, field_place, fields_of_command}
use Rattle.mach_command_fields.specs.declared.kind.FieldKind.{FieldKind}
use Rattle.mach_command_fields.specs.declared.kind.FieldKind.TheVariants as kind
use Rattle.mach_command_fields.specs.declared.fields.CommandField.{CommandField}
use Rattle.mach_command_fields.specs.declared.fields.CommandFields.{CommandFields}

-- A field with its number. Its bytes are a place and a length, if it names bytes and the command has them.
pub record CommandFieldView : Type 0 where
  pub name : List ℕ
  pub kind : FieldKind
  pub width : ℕ
  pub number : ℕ
  pub bytes : Option (ℕ × ℕ)

-- the number of a field of four or of eight bytes; others have none
abbrev pub number_in_field : Endian → (width : ℕ) → (bytes : List ℕ) → ℕ
number_in_field le width bytes = if width == 4 then number le 4 bytes else (if width == 8 then number le 8 bytes else 0)

-- the text at an offset of a command with these bytes at a place: it ends before a zero byte or with the command (union lc_str)
abbrev pub text_bytes_in : (own : List ℕ) → (place offset : ℕ) → Option (ℕ × ℕ)
text_bytes_in own place offset = if nat_le (length own) offset then None else Some (place_after place offset, length (run_at own offset))

-- The bytes that a field names, of a command with these bytes at a place, in which a record begins. A name ends before a zero byte or with its
-- field. The number of a text is its offset in the command.
abbrev pub field_bytes_in : FieldKind → (entry own : List ℕ) → (place offset width number : ℕ) → Option (ℕ × ℕ)
field_bytes_in kind.Name entry own place offset width n = Some (place_after place offset, length (before_first is_zero (take width (drop offset entry))))
field_bytes_in kind.Uuid entry own place offset width n = Some (place_after place offset, width)
field_bytes_in kind.Text entry own place offset width n = text_bytes_in own place n
field_bytes_in _ entry own place offset width n = None

-- a field of a record with these bytes, in a command with these bytes at a place
abbrev pub field_in : Endian → (entry own : List ℕ) → (place : ℕ) → FieldPlace → CommandFieldView
field_in le entry own place f =
    record {
      name = f.name;
      kind = f.kind;
      width = f.width;
      number = number_in_field le f.width (drop f.offset entry);
      bytes = field_bytes_in f.kind entry own place f.offset f.width (number_in_field le f.width (drop f.offset entry));
    }

-- the fields that lie in the first n bytes, up to the first that doesn't
abbrev pub fields_within : (n : ℕ) → List FieldPlace → List FieldPlace
fields_within n [] = []
fields_within n (f ∷ fs) = if nat_le (f.offset + f.width) n then f ∷ fields_within n fs else []

-- these fields of a record, as far as its bytes hold them
abbrev pub fields_in : Endian → (entry own : List ℕ) → (place : ℕ) → List FieldPlace → List CommandFieldView
fields_in le entry own place fields = map (field_in le entry own place) (fields_within (length entry) fields)

-- the bytes of the command of `size` bytes at a place; no more bytes count than are there
abbrev pub command_slice : List ℕ → (place size : ℕ) → List ℕ
command_slice bytes place size = take size (drop place bytes)

-- its fields, by its number: those that its bytes hold
abbrev pub fields_at : Endian → List ℕ → (place size cmd : ℕ) → List CommandFieldView
fields_at le bytes place size cmd =
    fields_in le (command_slice bytes place size) (command_slice bytes place size) place (fields_of_command cmd)

-- The same of its record as it is read, whatever its size: those that the bytes from its place on hold. Texts lie in the command.
abbrev pub record_fields_at : Endian → List ℕ → (place size cmd : ℕ) → List CommandFieldView
record_fields_at le bytes place size cmd = fields_in le (drop place bytes) (command_slice bytes place size) place (fields_of_command cmd)

-- what a caller sees of a field
abbrev pub field_seen : CommandField → CommandFieldView
field_seen f = record { name = f.name.now; kind = f.kind; width = f.width; number = f.number; bytes = f.bytes }

-- the fields that are left
abbrev pub fields_left : CommandFields → List CommandFieldView
fields_left it = fields_in it.le it.entry.now it.own.now it.place (map field_place it.rest.now)

-- a name as a text of 24 bytes: its first bytes, 23 at most, and zeros
abbrev pub padded_name : List ℕ → List ℕ
padded_name name = take (min (length name) 23) name ++ replicate (24 - min (length name) 23) 0
