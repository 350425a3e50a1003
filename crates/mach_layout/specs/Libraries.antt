-- Rules of the texts of commands and of the names of libraries (`mach-o/loader.h`, union lc_str and struct dylib_command;
-- dyld and LLVM reject an image that breaks one).
use Rattle.std.specs.Prelude.{◌==◌, ◌&&◌, ◌||◌, not, ℕ, ◌+◌, ◌-◌, Bool, true, false, nat_lt, nat_le, take, drop, List, []}
use Rattle.std.specs.Prelude.{◌∷◌, Option, Some, None, option_and_then}
use Rattle.std.specs.List.{list_any}
use Rattle.mach_base.specs.Record.{Value, number_among, size}
use Rattle.mach_base.specs.Text.{is_zero}
use Rattle.mach_load.specs.Command.{Command, cmdsize_of}
use Rattle.mach_load.specs.Commands.{Kind, is_id}
use Rattle.mach_load.specs.Commands as kind
use Rattle.mach_load.specs.Newer.{Newer, NewerKind, target_triple}
use Rattle.mach_records.specs.Contents.{fileset_entry_command_fields, target_triple_command_fields}
use Rattle.mach_records.specs.Libraries.{dylib_command_fields, dylinker_command_fields, fvmfile_command_fields, fvmlib_command_fields}
use Rattle.mach_records.specs.Libraries.{prebound_dylib_command_fields, rpath_command_fields}
use Rattle.mach_records.specs.Umbrellas.{sub_client_command_fields, sub_framework_command_fields, sub_library_command_fields, sub_umbrella_command_fields}
use Rattle.mach_layout.specs.Laid.{Laid, newer_of}
use Rattle.mach_layout.specs.Rules.{measured}
use Rattle.mach_layout.specs.declared.libraries.CommandText.{CommandText}
use Rattle.mach_layout.specs.declared.rules.RuleOutcome.{RuleOutcome}

-- ---- the texts of commands

-- A text whose offset, counted from its command, is number k of the values, after a struct of `struct` bytes (union lc_str).
abbrev pub text_after : ℕ → ℕ → List Value → Option CommandText
text_after k struct values = Some (record { offset = number_among values k; struct_size = struct; is_read = true })

-- the text of a command that goblin's table lacks
abbrev pub newer_text_of : NewerKind → List Value → Option CommandText
newer_text_of target_triple values = text_after 2 (size target_triple_command_fields) values
newer_text_of _ values = None

abbrev pub newer_text : Newer → Option CommandText
newer_text c = newer_text_of c.kind c.values

-- The text of a command, if it has one, by its kind and its values, or by what it is if goblin's table lacks it. That of
-- LC_PREBOUND_DYLIB isn't read.
abbrev pub text_of : Kind → List Value → Option Newer → Option CommandText
text_of kind.load_fvmlib values newer = text_after 2 (size fvmlib_command_fields) values
text_of kind.id_fvmlib values newer = text_after 2 (size fvmlib_command_fields) values
text_of kind.fvmfile values newer = text_after 2 (size fvmfile_command_fields) values
text_of kind.load_dylib values newer = text_after 2 (size dylib_command_fields) values
text_of kind.id_dylib values newer = text_after 2 (size dylib_command_fields) values
text_of kind.lazy_load_dylib values newer = text_after 2 (size dylib_command_fields) values
text_of kind.load_weak_dylib values newer = text_after 2 (size dylib_command_fields) values
text_of kind.reexport_dylib values newer = text_after 2 (size dylib_command_fields) values
text_of kind.load_upward_dylib values newer = text_after 2 (size dylib_command_fields) values
text_of kind.load_dylinker values newer = text_after 2 (size dylinker_command_fields) values
text_of kind.id_dylinker values newer = text_after 2 (size dylinker_command_fields) values
text_of kind.dyld_environment values newer = text_after 2 (size dylinker_command_fields) values
text_of kind.sub_framework values newer = text_after 2 (size sub_framework_command_fields) values
text_of kind.sub_umbrella values newer = text_after 2 (size sub_umbrella_command_fields) values
text_of kind.sub_client values newer = text_after 2 (size sub_client_command_fields) values
text_of kind.sub_library values newer = text_after 2 (size sub_library_command_fields) values
text_of kind.rpath values newer = text_after 2 (size rpath_command_fields) values
text_of kind.fileset_entry values newer = text_after 4 (size fileset_entry_command_fields) values
text_of kind.prebound_dylib values newer =
    Some (record { offset = number_among values 2; struct_size = size prebound_dylib_command_fields; is_read = false })
text_of kind.unimplemented values newer = option_and_then newer_text newer
text_of _ values newer = None

abbrev pub command_text : Laid → Command → Option CommandText
command_text laid c = text_of c.kind c.values (newer_of laid c)

-- the text begins after the struct of its command, and before the command's end
abbrev pub begins_inside : Command → CommandText → Bool
begins_inside c t = nat_le t.struct_size t.offset && nat_lt t.offset (cmdsize_of c)

-- the bytes of the command from the text on
abbrev pub bytes_from_text : List ℕ → Command → CommandText → List ℕ
bytes_from_text bytes c t = take (cmdsize_of c - t.offset) (drop (c.offset + t.offset) bytes)

-- a zero byte ends the text, if it is read
abbrev pub ends_inside : List ℕ → Command → CommandText → Bool
ends_inside bytes c t = not t.is_read || list_any is_zero (bytes_from_text bytes c t)

abbrev pub lies_inside : List ℕ → Command → CommandText → Bool
lies_inside bytes c t = begins_inside c t && ends_inside bytes c t

abbrev pub begins_with_zero : List ℕ → Bool
begins_with_zero [] = false
begins_with_zero (b ∷ bs) = is_zero b

-- the text lies in its command, is read, and is empty
abbrev pub is_empty_text : List ℕ → Command → CommandText → Bool
is_empty_text bytes c t = lies_inside bytes c t && (t.is_read && begins_with_zero (bytes_from_text bytes c t))

-- the checks of a text: it lies in its command, and it isn't empty
abbrev pub place_sees : List ℕ → Command → CommandText → RuleOutcome
place_sees bytes c t = measured (lies_inside bytes c t) t.offset (cmdsize_of c)

abbrev pub text_sees : List ℕ → Command → CommandText → RuleOutcome
text_sees bytes c t = measured (not (is_empty_text bytes c t)) t.offset (cmdsize_of c)

-- ---- the names of libraries

-- a library or a stub library (MH_DYLIB, MH_DYLIB_STUB)
abbrev pub is_library_file : Laid → Bool
is_library_file laid = laid.header.filetype == 6 || laid.header.filetype == 9

abbrev pub says_id : Command → Bool
says_id c = is_id c.kind
