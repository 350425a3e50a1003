-- What is shown of a load command, field by field (`mach-o/loader.h`).
use Rattle.std.specs.Prelude.{◌∷◌, ◌++◌, ℕ, List, [], codes, map, unwrap_or}
use Rattle.mach_base.specs.declared.context.Endian.{Endian}
use Rattle.mach_records.specs.CommandName.{command_name}
use Rattle.mach_load.specs.Command.{Command, cmd_of, cmdsize_of}
use Rattle.mach_command_fields.specs.FieldRows.{command_slice}
use Rattle.mach_cli.specs.Fields.{FieldView, alone_field, field_of, hex, named, named_value, number, optional_text, wide_field}
use Rattle.mach_cli.specs.RecordFields.{record_shown}

-- its bytes: as many as its cmdsize says, if there are so many
abbrev pub bytes_of_command : (bytes : List ℕ) → Command → List ℕ
bytes_of_command bytes c = command_slice bytes c.offset (cmdsize_of c)

-- the offset of a command, its size and its name, if it has one, and in an object also its number in the format
abbrev pub command_head : Command → List FieldView
command_head c =
    wide_field 7 (field_of (codes "command_offset") (hex c.offset) 2)
    ∷ wide_field 4 (field_of (codes "cmdsize") (number (cmdsize_of c)) 3)
    ∷ field_of (codes "cmd") (named (cmd_of c) (unwrap_or (command_name (cmd_of c)) [])) 4
    ∷ alone_field (codes "command") (optional_text (command_name (cmd_of c)))
    ∷ []

-- a command of an image with these bytes in this order: its number, its head, and the fields of its record
abbrev pub command_fields : Endian → (bytes : List ℕ) → (number : ℕ) → Command → List FieldView
command_fields le bytes n c =
    wide_field 3 (field_of (codes "number") (number n) 1)
    ∷ (command_head c ++ map named_value (record_shown le bytes c.offset (cmdsize_of c) (cmd_of c)))
