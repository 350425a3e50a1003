-- The names that load commands give an image as a library (LC_ID_DYLIB, struct dylib_command in `mach-o/loader.h`).
use Rattle.std.specs.Prelude.{ℕ, List, [], ◌∷◌, ◌++◌, codes, drop, map, Option, Some, None, Result, Ok, if◌then◌else◌}
use Rattle.std.specs.List.{filter_map}
use Rattle.mach_base.specs.Answer.{◌>>=◌}
use Rattle.mach_base.specs.Fault.{Fault}
use Rattle.mach_base.specs.Items.{read_as}
use Rattle.mach_base.specs.Text.{text_at}
use Rattle.mach_base.specs.declared.error.Error.{Error}
use Rattle.mach_load.specs.Command.{Command}
use Rattle.mach_load.specs.Commands.{is_id}
use Rattle.mach_load.specs.Variants.{command_of}
use Rattle.mach_records.specs.declared.libraries.Dylib.{Dylib}
use Rattle.goblin_mach.specs.Libraries.{dylib_of_values}
use Rattle.goblin_mach.specs.Subjects.{name_place}
use Rattle.mach_cli.specs.Fields.{FieldView, field_of, line_field, number, object_field, text, version}
use Rattle.machinfo.specs.declared.own_names.OwnName.{OwnName}
use Rattle.machinfo.specs.declared.own_names.OwnNames.{OwnNames}

-- a name, and the command's struct dylib, which has the versions
pub record OwnNameView : Type 0 where
  pub name : List ℕ
  pub dylib : Dylib

abbrev pub named_so : Dylib → List ℕ → OwnNameView
named_so dylib name = record { name = name; dylib = dylib }

-- the name that a command gives the image, or why it can't be read; nothing if the command gives none
abbrev pub own_name_by : List ℕ → Command → Option (Result OwnNameView Fault)
own_name_by bytes c =
    if is_id c.kind then Some (text_at bytes (name_place c) >>= (λ name. Ok (named_so (dylib_of_values c.values) name))) else None

-- the current version and the oldest compatible one, in a line
abbrev pub version_columns : (current compatible : ℕ) → List FieldView
version_columns current compatible = line_field (version current) 2 ∷ line_field (version compatible) 3 ∷ []

-- the name and the versions, as an object has them; and with those of a line
abbrev pub own_name_members : OwnNameView → List FieldView
own_name_members n =
    field_of (codes "name") (text n.name) 1
    ∷ object_field (codes "compatibility_version") (number n.dylib.compatibility_version)
    ∷ object_field (codes "current_version") (number n.dylib.current_version)
    ∷ []

abbrev pub own_name_fields : OwnNameView → List FieldView
own_name_fields n = own_name_members n ++ version_columns n.dylib.current_version n.dylib.compatibility_version

-- ---- what the code's values mean

abbrev pub own_name_view : OwnName → OwnNameView
own_name_view n = named_so n.dylib n.name.now

abbrev pub own_name_read : Result OwnName Error → Result OwnNameView Fault
own_name_read item = read_as own_name_view item

abbrev pub own_names_left : OwnNames → List (Result OwnNameView Fault)
own_names_left it = filter_map (own_name_by it.bytes.now) (map command_of (drop it.number it.commands.now))
