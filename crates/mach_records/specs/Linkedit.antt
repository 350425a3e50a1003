-- The tables of the link-edit segment, and encrypted bytes (`mach-o/loader.h`).
-- For each record: its fields in order, and their values.
use Rattle.std.specs.Prelude.{List, [], ◌∷◌}
use Rattle.mach_base.specs.Record.{Field, num, Value, number_is}
use Rattle.mach_records.specs.declared.linkedit.LinkeditDataCommand.{LinkeditDataCommand}
use Rattle.mach_records.specs.declared.linkedit.DyldInfoCommand.{DyldInfoCommand}
use Rattle.mach_records.specs.declared.linkedit.DataInCodeEntry.{DataInCodeEntry}
use Rattle.mach_records.specs.declared.linkedit.EncryptionInfoCommand32.{EncryptionInfoCommand32}
use Rattle.mach_records.specs.declared.linkedit.EncryptionInfoCommand64.{EncryptionInfoCommand64}

-- struct linkedit_data_command
abbrev pub linkedit_data_command_fields : List Field
linkedit_data_command_fields = num 4 ∷ num 4 ∷ num 4 ∷ num 4 ∷ []

abbrev pub linkedit_data_command_values : LinkeditDataCommand → List Value
linkedit_data_command_values r =
    number_is r.cmd ∷ number_is r.cmdsize ∷ number_is r.dataoff ∷ number_is r.datasize ∷ []

-- struct dyld_info_command
abbrev pub dyld_info_command_fields : List Field
dyld_info_command_fields =
    num 4 ∷ num 4 ∷ num 4 ∷ num 4 ∷ num 4 ∷ num 4 ∷ num 4 ∷ num 4 ∷ num 4 ∷ num 4 ∷ num 4 ∷ num 4
    ∷ []

abbrev pub dyld_info_command_values : DyldInfoCommand → List Value
dyld_info_command_values r =
    number_is r.cmd ∷ number_is r.cmdsize ∷ number_is r.rebase_off ∷ number_is r.rebase_size
    ∷ number_is r.bind_off ∷ number_is r.bind_size ∷ number_is r.weak_bind_off
    ∷ number_is r.weak_bind_size ∷ number_is r.lazy_bind_off ∷ number_is r.lazy_bind_size
    ∷ number_is r.export_off ∷ number_is r.export_size ∷ []

-- struct data_in_code_entry
abbrev pub data_in_code_entry_fields : List Field
data_in_code_entry_fields = num 4 ∷ num 2 ∷ num 2 ∷ []

abbrev pub data_in_code_entry_values : DataInCodeEntry → List Value
data_in_code_entry_values r = number_is r.offset ∷ number_is r.length ∷ number_is r.kind ∷ []

-- struct encryption_info_command
abbrev pub encryption_info_command32_fields : List Field
encryption_info_command32_fields = num 4 ∷ num 4 ∷ num 4 ∷ num 4 ∷ num 4 ∷ []

abbrev pub encryption_info_command32_values : EncryptionInfoCommand32 → List Value
encryption_info_command32_values r =
    number_is r.cmd ∷ number_is r.cmdsize ∷ number_is r.cryptoff ∷ number_is r.cryptsize
    ∷ number_is r.cryptid ∷ []

-- struct encryption_info_command_64
abbrev pub encryption_info_command64_fields : List Field
encryption_info_command64_fields = num 4 ∷ num 4 ∷ num 4 ∷ num 4 ∷ num 4 ∷ num 4 ∷ []

abbrev pub encryption_info_command64_values : EncryptionInfoCommand64 → List Value
encryption_info_command64_values r =
    number_is r.cmd ∷ number_is r.cmdsize ∷ number_is r.cryptoff ∷ number_is r.cryptsize
    ∷ number_is r.cryptid ∷ number_is r.pad ∷ []
