-- The load commands that only later headers have (`mach-o/loader.h`), which goblin's table lacks. Of such a command a `Command`
-- has cmd and cmdsize alone, and its kind is `unimplemented`.
use Rattle.std.specs.Prelude.{◌==◌, ℕ, List, Option, Some, None, option_and_then, Result, Ok, Err, if◌then◌else◌}
use Rattle.mach_base.specs.declared.context.Endian.{Endian}
use Rattle.mach_base.specs.Fault.{Fault}
use Rattle.mach_base.specs.Record.{Field, Value, record_at}
use Rattle.mach_records.specs.Contents.{target_triple_command_fields}
use Rattle.mach_records.specs.Linkedit.{linkedit_data_command_fields}
use Rattle.mach_load.specs.Command.{Command, cmd_of}
use Rattle.mach_load.specs.Commands.{Kind, unimplemented}

pub data NewerKind : Type 0 where
  atom_info : NewerKind
  function_variants : NewerKind
  function_variant_fixups : NewerKind
  target_triple : NewerKind

-- the kind of such a command, by its number
abbrev pub newer_kind : ℕ → Option NewerKind
newer_kind cmd =
    if cmd == 0x36 then Some atom_info
    else (if cmd == 0x37 then Some function_variants
    else (if cmd == 0x38 then Some function_variant_fixups
    else (if cmd == 0x39 then Some target_triple else None)))

-- the fields of its record
abbrev pub newer_fields : NewerKind → List Field
newer_fields atom_info = linkedit_data_command_fields
newer_fields function_variants = linkedit_data_command_fields
newer_fields function_variant_fixups = linkedit_data_command_fields
newer_fields target_triple = target_triple_command_fields

-- such a command: its kind, and the values of its record
pub record Newer : Type 0 where
  pub kind : NewerKind
  pub values : List Value

abbrev pub newer_by : NewerKind → Result (List Value) Fault → Option Newer
newer_by kind (Ok values) = Some (record { kind = kind; values = values })
newer_by kind (Err f) = None

-- the command with a number whose record is at a place, if it is such a command and the bytes have the record
abbrev pub newer_record_at : Endian → List ℕ → (place cmd : ℕ) → Option Newer
newer_record_at le bytes place cmd = option_and_then (λ kind. newer_by kind (record_at le (newer_fields kind) bytes place)) (newer_kind cmd)

abbrev pub newer_of_kind : Kind → Endian → List ℕ → (place cmd : ℕ) → Option Newer
newer_of_kind unimplemented le bytes place cmd = newer_record_at le bytes place cmd
newer_of_kind _ le bytes place cmd = None

-- what a command of an image is, if it is such a command and the bytes have its record, which is read whatever the cmdsize
abbrev pub newer_at : Endian → List ℕ → Command → Option Newer
newer_at le bytes c = newer_of_kind c.kind le bytes c.offset (cmd_of c)
