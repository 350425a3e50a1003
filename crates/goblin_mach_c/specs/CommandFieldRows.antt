-- The fields of load commands as C sees them.
use Rattle.std.specs.Prelude.{ℕ, List, map, Option, Some, None}
use Rattle.mach_command_fields.specs.FieldRows.{CommandFieldView, fields_at, fields_left, padded_name}
use Rattle.mach_command_fields.specs.declared.kind.FieldKind.{FieldKind}
use Rattle.mach_command_fields.specs.declared.kind.FieldKind.TheVariants as kind
use Rattle.goblin_mach_c.specs.CViews.{gm_ctx_view}
use Rattle.goblin_mach_c.specs.declared.commands.gm_command.{gm_command}
use Rattle.goblin_mach_c.specs.declared.fields.FieldRows.{FieldRows}
use Rattle.goblin_mach_c.specs.declared.fields.gm_command_field.{gm_command_field}
use Rattle.goblin_mach_c.specs.declared.images.gm_image.{gm_image}

-- the number of how a field is read
abbrev pub field_kind_number : FieldKind → ℕ
field_kind_number kind.Number = 0
field_kind_number kind.Hexadecimal = 1
field_kind_number kind.Version = 2
field_kind_number kind.SourceVersion = 3
field_kind_number kind.Platform = 4
field_kind_number kind.Protection = 5
field_kind_number kind.Name = 6
field_kind_number kind.Text = 7
field_kind_number kind.Uuid = 8

-- a field whose bytes are `len` bytes at a place, if it has bytes
abbrev pub field_row_with : CommandFieldView → (place len has_bytes : ℕ) → gm_command_field
field_row_with f place len has_bytes =
    record {
      name = padded_name f.name;
      number = f.number;
      place = place;
      len = len;
      kind = field_kind_number f.kind;
      width = f.width;
      has_bytes = has_bytes;
      reserved = 0;
    }

abbrev pub field_row_by : CommandFieldView → Option (ℕ × ℕ) → gm_command_field
field_row_by f None = field_row_with f 0 0 0
field_row_by f (Some bytes) = field_row_with f bytes.0 bytes.1 1

-- a field as C sees it
abbrev pub command_field_row : CommandFieldView → gm_command_field
command_field_row f = field_row_by f f.bytes

-- the fields of a command of an image
abbrev pub command_field_rows : List ℕ → gm_image → gm_command → List gm_command_field
command_field_rows bytes image c = map command_field_row (fields_at (gm_ctx_view image).le bytes c.offset c.size c.cmd)

-- the rows that are left
abbrev pub field_rows_left : FieldRows → List gm_command_field
field_rows_left it = map command_field_row (fields_left it.fields)
