-- What is shown of a load command's record, field by field (`mach-o/loader.h`).
use Rattle.std.specs.Prelude.{◌∷◌, ◌++◌, ◌%◌, ◌^◌, ℕ, List, [], codes, bytes_eq, nat_le, length, take, Option, Some, None, unwrap_or, if◌then◌else◌}
use Rattle.std.specs.Borrow.{Bor}
use Rattle.std.specs.List.{flat_map}
use Rattle.std.specs.Result.{result_ok}
use Rattle.mach_base.specs.declared.context.Endian.{Endian}
use Rattle.mach_base.specs.Text.{text_at}
use Rattle.mach_records.specs.NumberNames.{platform_name, rights_text}
use Rattle.mach_command_fields.specs.FieldRows.{CommandFieldView, command_slice, fields_left, record_fields_at}
use Rattle.mach_command_fields.specs.declared.kind.FieldKind.{FieldKind}
use Rattle.mach_command_fields.specs.declared.kind.FieldKind.TheVariants as kind
use Rattle.mach_cli.specs.Fields.{ValueView, hex, named, number, optional_text, source_version, uuid, version}
use Rattle.mach_cli.specs.JsonText.{name_in_field}
use Rattle.mach_cli.specs.declared.record_fields.RecordFields.{RecordFields}

-- the bytes that a field names, by their place and their length
abbrev pub bytes_named : (bytes : List ℕ) → Option (ℕ × ℕ) → List ℕ
bytes_named bytes None = []
bytes_named bytes (Some place) = command_slice bytes place.0 place.1

-- a UUID, if there are as many bytes
abbrev pub uuid_value : List ℕ → ValueView
uuid_value bytes = if nat_le 16 (length bytes) then uuid (take 16 bytes) else optional_text None

-- the low 32 bits, which are all of a number of four bytes
abbrev pub low : ℕ → ℕ
low n = n % 2 ^ 32

-- the value of a field, of a command with its own bytes among these bytes
abbrev pub value_by : FieldKind → (bytes own : List ℕ) → CommandFieldView → ValueView
value_by kind.Number bytes own f = number f.number
value_by kind.Hexadecimal bytes own f = hex f.number
value_by kind.Version bytes own f = version (low f.number)
value_by kind.SourceVersion bytes own f = source_version f.number
value_by kind.Platform bytes own f = named (low f.number) (unwrap_or (platform_name (low f.number)) [])
value_by kind.Protection bytes own f = named (low f.number) (rights_text (low f.number))
value_by kind.Name bytes own f = optional_text (name_in_field (bytes_named bytes f.bytes))
value_by kind.Text bytes own f = optional_text (result_ok (text_at own f.number))
value_by kind.Uuid bytes own f = uuid_value (bytes_named bytes f.bytes)

-- the name of the member that has the offset of a text
abbrev pub offset_name : List ℕ → List ℕ
offset_name name =
    if bytes_eq name (codes "umbrella") then codes "umbrella_offset"
    else (if bytes_eq name (codes "sub_umbrella") then codes "sub_umbrella_offset"
    else (if bytes_eq name (codes "client") then codes "client_offset"
    else (if bytes_eq name (codes "sub_library") then codes "sub_library_offset"
    else (if bytes_eq name (codes "path") then codes "path_offset"
    else (if bytes_eq name (codes "entry_id") then codes "entry_id_offset"
    else (if bytes_eq name (codes "triple") then codes "triple_offset"
    else codes "name_offset"))))))

-- a text has its offset after it
abbrev pub offset_shown : FieldKind → CommandFieldView → List (List ℕ × ValueView)
offset_shown kind.Text f = (offset_name f.name, number f.number) ∷ []
offset_shown _ f = []

-- the name and the value of a field
abbrev pub field_shown : (bytes own : List ℕ) → CommandFieldView → List (List ℕ × ValueView)
field_shown bytes own f = (f.name, value_by f.kind bytes own f) ∷ offset_shown f.kind f

-- The fields of the record of the command of `size` bytes at a place, by the table of its number. The record is read whatever the size,
-- and the command's bytes have its texts.
abbrev pub record_shown : Endian → (bytes : List ℕ) → (place size cmd : ℕ) → List (List ℕ × ValueView)
record_shown le bytes place size cmd = flat_map (field_shown bytes (command_slice bytes place size)) (record_fields_at le bytes place size cmd)

-- ---- the fields left

abbrev pub offset_left : Option (Bor (List ℕ) × ℕ) → List (List ℕ × ValueView)
offset_left (Some it) = (it.0.now, number it.1) ∷ []
offset_left None = []

abbrev pub shown_left : RecordFields → List (List ℕ × ValueView)
shown_left it = offset_left it.offset ++ flat_map (field_shown it.bytes.now it.own.now) (fields_left it.fields)
