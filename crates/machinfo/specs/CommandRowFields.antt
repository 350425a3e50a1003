-- What is shown of a row of load commands, field by field (`mach-o/loader.h`).
use Rattle.std.specs.Prelude.{◌∷◌, ◌++◌, ◌%◌, ℕ, List, [], codes, Option, Some, None}
use Rattle.mach_base.specs.declared.context.Container.{Container}
use Rattle.mach_base.specs.declared.context.Container.TheVariants.{Little, Big}
use Rattle.mach_base.specs.Record.{Value, bytes_among, number_among}
use Rattle.mach_cli.specs.Fields.{FieldView, alone_field, field_of, hex, line_field, named, number, object_field, optional_text, text, wide_field}
use Rattle.mach_cli.specs.JsonText.{name_in_field}
use Rattle.machinfo.specs.CommandRows.{CommandRowView, CommandSectionView, command_itself, register_below, section_below}
use Rattle.machinfo.specs.NumberedCommands.{numbered_command_fields}
use Rattle.machinfo.specs.PartFields.{section_type_name}
use Rattle.machinfo.specs.ThreadRegisters.{RegisterView}

-- ---- sections

-- the fields of a section (struct section), and the one more of a wide one (struct section_64), by the values of its record
abbrev pub narrow_section_shown : List Value → List FieldView
narrow_section_shown v =
    object_field (codes "sectname") (optional_text (name_in_field (bytes_among v 0)))
    ∷ object_field (codes "segname") (optional_text (name_in_field (bytes_among v 1)))
    ∷ object_field (codes "addr") (hex (number_among v 2))
    ∷ object_field (codes "size") (hex (number_among v 3))
    ∷ object_field (codes "offset") (hex (number_among v 4))
    ∷ object_field (codes "align") (number (number_among v 5))
    ∷ object_field (codes "reloff") (hex (number_among v 6))
    ∷ object_field (codes "nreloc") (number (number_among v 7))
    ∷ object_field (codes "flags") (hex (number_among v 8))
    ∷ object_field (codes "reserved1") (number (number_among v 9))
    ∷ object_field (codes "reserved2") (number (number_among v 10))
    ∷ []

abbrev pub section_shown : Container → List Value → List FieldView
section_shown Little v = narrow_section_shown v
section_shown Big v = narrow_section_shown v ++ object_field (codes "reserved3") (number (number_among v 11)) ∷ []

-- the type in the flags (SECTION_TYPE), in words
abbrev pub section_kind : (flags : ℕ) → FieldView
section_kind flags = object_field (codes "type") (named (flags % 0x100) (section_type_name (flags % 0x100)))

-- the number of its command, and its own there
abbrev pub section_head : (command k : ℕ) → List FieldView
section_head command k =
    alone_field (codes "number") (number command)
    ∷ wide_field 16 (line_field (text []) 1)
    ∷ line_field (text (codes "section")) 2
    ∷ field_of (codes "section") (number k) 3
    ∷ []

-- the fields of its record, and the type
abbrev pub section_record_shown : Container → List Value → List FieldView
section_record_shown width values = section_shown width values ++ section_kind (number_among values 8) ∷ []

abbrev pub command_section_fields : CommandSectionView → List FieldView
command_section_fields s = section_head s.command s.number ++ section_record_shown s.width s.values

-- ---- registers

-- a register by its name, or else by the number of its word
abbrev pub register_label : Option (List ℕ) → (word : ℕ) → FieldView
register_label (Some name) word = wide_field 6 (line_field (text name) 2)
register_label None word = wide_field 6 (line_field (number word) 2)

-- the number of its command, its name, its value, and the number of its first word
abbrev pub register_fields : RegisterView → List FieldView
register_fields r =
    alone_field (codes "number") (number r.command)
    ∷ wide_field 16 (line_field (text []) 1)
    ∷ register_label r.name r.word
    ∷ alone_field (codes "register") (optional_text r.name)
    ∷ field_of (codes "value") (hex r.value) 3
    ∷ alone_field (codes "word") (number r.word)
    ∷ []

-- ---- rows

abbrev pub command_row_fields : CommandRowView → List FieldView
command_row_fields (command_itself command) = numbered_command_fields command
command_row_fields (section_below s) = command_section_fields s
command_row_fields (register_below r) = register_fields r
