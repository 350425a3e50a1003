-- Further facts about an image (`mach-o/loader.h`).
-- For each record: its fields in order, and their values.
use Rattle.std.specs.Prelude.{List, [], ◌∷◌}
use Rattle.mach_base.specs.Record.{Field, num, arr, Value, number_is, bytes_are}
use Rattle.mach_records.specs.declared.contents.UuidCommand.{UuidCommand}
use Rattle.mach_records.specs.declared.contents.EntryPointCommand.{EntryPointCommand}
use Rattle.mach_records.specs.declared.contents.TargetTripleCommand.{TargetTripleCommand}
use Rattle.mach_records.specs.declared.contents.FilesetEntryCommand.{FilesetEntryCommand}
use Rattle.mach_records.specs.declared.contents.NoteCommand.{NoteCommand}
use Rattle.mach_records.specs.declared.contents.PrebindCksumCommand.{PrebindCksumCommand}
use Rattle.mach_records.specs.declared.contents.LinkerOptionCommand.{LinkerOptionCommand}
use Rattle.mach_records.specs.declared.contents.IdentCommand.{IdentCommand}

-- struct uuid_command
abbrev pub uuid_command_fields : List Field
uuid_command_fields = num 4 ∷ num 4 ∷ arr 16 ∷ []

abbrev pub uuid_command_values : UuidCommand → List Value
uuid_command_values r = number_is r.cmd ∷ number_is r.cmdsize ∷ bytes_are r.uuid ∷ []

-- struct target_triple_command
abbrev pub target_triple_command_fields : List Field
target_triple_command_fields = num 4 ∷ num 4 ∷ num 4 ∷ []

abbrev pub target_triple_command_values : TargetTripleCommand → List Value
target_triple_command_values r = number_is r.cmd ∷ number_is r.cmdsize ∷ number_is r.triple ∷ []

-- struct entry_point_command
abbrev pub entry_point_command_fields : List Field
entry_point_command_fields = num 4 ∷ num 4 ∷ num 8 ∷ num 8 ∷ []

abbrev pub entry_point_command_values : EntryPointCommand → List Value
entry_point_command_values r =
    number_is r.cmd ∷ number_is r.cmdsize ∷ number_is r.entryoff ∷ number_is r.stacksize ∷ []

-- struct fileset_entry_command
abbrev pub fileset_entry_command_fields : List Field
fileset_entry_command_fields = num 4 ∷ num 4 ∷ num 8 ∷ num 8 ∷ num 4 ∷ num 4 ∷ []

abbrev pub fileset_entry_command_values : FilesetEntryCommand → List Value
fileset_entry_command_values r =
    number_is r.cmd ∷ number_is r.cmdsize ∷ number_is r.vmaddr ∷ number_is r.fileoff
    ∷ number_is r.entry_id ∷ number_is r.reserved ∷ []

-- struct note_command
abbrev pub note_command_fields : List Field
note_command_fields = num 4 ∷ num 4 ∷ arr 16 ∷ num 8 ∷ num 8 ∷ []

abbrev pub note_command_values : NoteCommand → List Value
note_command_values r =
    number_is r.cmd ∷ number_is r.cmdsize ∷ bytes_are r.data_owner ∷ number_is r.offset
    ∷ number_is r.size ∷ []

-- struct prebind_cksum_command
abbrev pub prebind_cksum_command_fields : List Field
prebind_cksum_command_fields = num 4 ∷ num 4 ∷ num 4 ∷ []

abbrev pub prebind_cksum_command_values : PrebindCksumCommand → List Value
prebind_cksum_command_values r = number_is r.cmd ∷ number_is r.cmdsize ∷ number_is r.cksum ∷ []

-- struct linker_option_command
abbrev pub linker_option_command_fields : List Field
linker_option_command_fields = num 4 ∷ num 4 ∷ num 4 ∷ []

abbrev pub linker_option_command_values : LinkerOptionCommand → List Value
linker_option_command_values r = number_is r.cmd ∷ number_is r.cmdsize ∷ number_is r.count ∷ []

-- struct ident_command
abbrev pub ident_command_fields : List Field
ident_command_fields = num 4 ∷ num 4 ∷ []

abbrev pub ident_command_values : IdentCommand → List Value
ident_command_values r = number_is r.cmd ∷ number_is r.cmdsize ∷ []
