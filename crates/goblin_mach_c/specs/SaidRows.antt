-- What single commands say of an image as C sees it.
use Rattle.std.specs.Prelude.{ℕ, List, length, Option, Some, None, option_map, Result, Ok, Err, if◌then◌else◌}
use Rattle.mach_base.specs.Fault.{Fault}
use Rattle.mach_base.specs.Number.{place_after}
use Rattle.mach_base.specs.Record.{Value, number_among}
use Rattle.mach_base.specs.Text.{text_at}
use Rattle.mach_load.specs.Command.{Command}
use Rattle.mach_load.specs.Commands.{Kind, fileset_entry}
use Rattle.goblin_mach.specs.Said.{build_version_said, is_dyld_environment, is_load_dylinker}
use Rattle.goblin_mach.specs.Subjects.{name_place}
use Rattle.goblin_mach.specs.declared.said.BuildVersion.{BuildVersion}
use Rattle.goblin_mach.specs.declared.said.Encryption.{Encryption}
use Rattle.goblin_mach_c.specs.Codes.{code_of_fault}
use Rattle.goblin_mach_c.specs.CommandRows.{gm_commands_view}
use Rattle.goblin_mach_c.specs.PartRows.{rows_of}
use Rattle.goblin_mach_c.specs.declared.images.gm_image.{gm_image}
use Rattle.goblin_mach_c.specs.declared.stated.gm_build_version.{gm_build_version}
use Rattle.goblin_mach_c.specs.declared.stated.gm_command_text.{gm_command_text}
use Rattle.goblin_mach_c.specs.declared.stated.gm_encrypted_part.{gm_encrypted_part}
use Rattle.goblin_mach_c.specs.declared.stated.gm_fileset_entry.{gm_fileset_entry}
use Rattle.goblin_mach_c.specs.declared.stated.gm_image_uuid.{gm_image_uuid}

abbrev pub uuid_row : List ℕ → gm_image_uuid
uuid_row uuid = record { bytes = uuid }

abbrev pub encryption_row : Encryption → gm_encrypted_part
encryption_row e = record { offset = e.offset; size = e.size; id = e.id }

-- ---- systems

abbrev pub build_version_row : ℕ → BuildVersion → gm_build_version
build_version_row command v = record { command = command; platform = v.platform; minos = v.minos; sdk = v.sdk; reserved = 0 }

abbrev pub build_version_row_by : (cputype : ℕ) → Command → Option gm_build_version
build_version_row_by cputype c = option_map (build_version_row c.offset) (build_version_said cputype c)

-- the rows of an image
abbrev pub build_version_rows : List ℕ → gm_image → List gm_build_version
build_version_rows bytes image = rows_of (build_version_row_by image.cputype) (gm_commands_view bytes image)

-- ---- texts

-- a text at a place in the command at another, or why it can't be read
abbrev pub command_text_row : (command text : ℕ) → Result (List ℕ) Fault → gm_command_text
command_text_row command text (Ok found) = record { command = command; text = text; text_len = length found; code = 0; reserved = 0 }
command_text_row command text (Err f) = record { command = command; text = 0; text_len = 0; code = code_of_fault f; reserved = 0 }

abbrev pub text_row_at : List ℕ → (command text : ℕ) → gm_command_text
text_row_at bytes command text = command_text_row command text (text_at bytes text)

-- the path of the dynamic linker in a command, if it names one; and the setting for it
abbrev pub dylinker_row_by : List ℕ → Command → Option gm_command_text
dylinker_row_by bytes c = if is_load_dylinker c.kind then Some (text_row_at bytes c.offset (name_place c)) else None

abbrev pub dyld_setting_row_by : List ℕ → Command → Option gm_command_text
dyld_setting_row_by bytes c = if is_dyld_environment c.kind then Some (text_row_at bytes c.offset (name_place c)) else None

abbrev pub dyld_environment_rows : List ℕ → gm_image → List gm_command_text
dyld_environment_rows bytes image = rows_of (dyld_setting_row_by bytes) (gm_commands_view bytes image)

-- ---- the images of a file set

-- the one at an address and an offset, whose name is at a place
abbrev pub fileset_entry_row : (address offset place : ℕ) → Result (List ℕ) Fault → gm_fileset_entry
fileset_entry_row address offset place (Ok name) =
    record { address = address; offset = offset; name = place; name_len = length name; code = 0; reserved = 0 }
fileset_entry_row address offset place (Err f) =
    record { address = address; offset = offset; name = 0; name_len = 0; code = code_of_fault f; reserved = 0 }

abbrev pub fileset_entry_row_of : List ℕ → (start : ℕ) → Kind → List Value → Option gm_fileset_entry
fileset_entry_row_of bytes start fileset_entry values =
    let place = place_after start (number_among values 4) in
    Some (fileset_entry_row (number_among values 2) (number_among values 3) place (text_at bytes place))
fileset_entry_row_of bytes start _ values = None

abbrev pub fileset_entry_row_by : List ℕ → Command → Option gm_fileset_entry
fileset_entry_row_by bytes c = fileset_entry_row_of bytes c.offset c.kind c.values

abbrev pub fileset_entry_rows : List ℕ → gm_image → List gm_fileset_entry
fileset_entry_rows bytes image = rows_of (fileset_entry_row_by bytes) (gm_commands_view bytes image)
