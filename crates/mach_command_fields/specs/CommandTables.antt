-- The fields of load commands (`mach-o/loader.h`) by their names: where each lies in its command, and how it is read.
use Rattle.std.specs.Prelude.{◌==◌, ◌+◌, ℕ, List, [], ◌∷◌, codes, drop, if◌then◌else◌}
use Rattle.std.specs.Borrow.{Bor}
use Rattle.mach_base.specs.Record.{Field, width}
use Rattle.mach_records.specs.Contents.{entry_point_command_fields, fileset_entry_command_fields, linker_option_command_fields, note_command_fields}
use Rattle.mach_records.specs.Contents.{prebind_cksum_command_fields, target_triple_command_fields, uuid_command_fields}
use Rattle.mach_records.specs.Libraries.{dylib_command_fields, dylinker_command_fields, fvmfile_command_fields, fvmlib_command_fields}
use Rattle.mach_records.specs.Libraries.{prebound_dylib_command_fields, rpath_command_fields}
use Rattle.mach_records.specs.Linkedit.{dyld_info_command_fields, encryption_info_command32_fields, encryption_info_command64_fields}
use Rattle.mach_records.specs.Linkedit.{linkedit_data_command_fields}
use Rattle.mach_records.specs.Modules.{routines_command32_fields, routines_command64_fields}
use Rattle.mach_records.specs.Segments.{segment_command32_fields, segment_command64_fields}
use Rattle.mach_records.specs.SymbolTables.{dysymtab_command_fields, symseg_command_fields, symtab_command_fields, twolevel_hints_command_fields}
use Rattle.mach_load.specs.ThreadState.{thread_fields}
use Rattle.mach_records.specs.Umbrellas.{sub_client_command_fields, sub_framework_command_fields, sub_library_command_fields}
use Rattle.mach_records.specs.Umbrellas.{sub_umbrella_command_fields}
use Rattle.mach_records.specs.Versions.{build_version_command_fields, source_version_command_fields, version_min_command_fields}
use Rattle.mach_command_fields.specs.declared.kind.FieldKind.{FieldKind}
use Rattle.mach_command_fields.specs.declared.kind.FieldKind.TheVariants as kind

-- a field's name in the format, and how it is read
pub record NamedField : Type 0 where
  pub name : List ℕ
  pub kind : FieldKind

-- the same with the place in its command, and the number of its bytes
pub record FieldPlace : Type 0 where
  pub name : List ℕ
  pub kind : FieldKind
  pub offset : ℕ
  pub width : ℕ

abbrev pub named_field : (name : List ℕ) → FieldKind → NamedField
named_field name kind = record { name = name; kind = kind }

-- named fields one after another from a place on, as many as the record has
abbrev pub placed_fields : (place : ℕ) → List NamedField → List Field → List FieldPlace
placed_fields place [] fields = []
placed_fields place (n ∷ ns) [] = []
placed_fields place (n ∷ ns) (f ∷ fs) =
    record { name = n.name; kind = n.kind; offset = place; width = width f } ∷ placed_fields (place + width f) ns fs

-- ---- the names of each record after cmd and cmdsize

-- a segment of a 32-bit image (struct segment_command)
abbrev pub segment32_named : List NamedField
segment32_named =
    named_field (codes "segname") kind.Name ∷ named_field (codes "vmaddr") kind.Hexadecimal ∷ named_field (codes "vmsize") kind.Hexadecimal
    ∷ named_field (codes "fileoff") kind.Hexadecimal ∷ named_field (codes "filesize") kind.Hexadecimal ∷ named_field (codes "maxprot") kind.Protection
    ∷ named_field (codes "initprot") kind.Protection ∷ named_field (codes "nsects") kind.Number ∷ named_field (codes "flags") kind.Hexadecimal ∷ []

-- a segment of a 64-bit image (struct segment_command_64)
abbrev pub segment64_named : List NamedField
segment64_named =
    named_field (codes "segname") kind.Name ∷ named_field (codes "vmaddr") kind.Hexadecimal ∷ named_field (codes "vmsize") kind.Hexadecimal
    ∷ named_field (codes "fileoff") kind.Hexadecimal ∷ named_field (codes "filesize") kind.Hexadecimal ∷ named_field (codes "maxprot") kind.Protection
    ∷ named_field (codes "initprot") kind.Protection ∷ named_field (codes "nsects") kind.Number ∷ named_field (codes "flags") kind.Hexadecimal ∷ []

-- the symbol table (struct symtab_command)
abbrev pub symtab_named : List NamedField
symtab_named =
    named_field (codes "symoff") kind.Hexadecimal ∷ named_field (codes "nsyms") kind.Number ∷ named_field (codes "stroff") kind.Hexadecimal
    ∷ named_field (codes "strsize") kind.Number ∷ []

-- symbols for gdb (struct symseg_command)
abbrev pub symseg_named : List NamedField
symseg_named =
    named_field (codes "offset") kind.Hexadecimal ∷ named_field (codes "size") kind.Number ∷ []

-- the state of a thread, but for its words (struct thread_command)
abbrev pub thread_named : List NamedField
thread_named =
    named_field (codes "flavor") kind.Number ∷ named_field (codes "count") kind.Number ∷ []

-- a library at a fixed address (struct fvmlib_command)
abbrev pub fvmlib_named : List NamedField
fvmlib_named =
    named_field (codes "name") kind.Text ∷ named_field (codes "minor_version") kind.Number ∷ named_field (codes "header_addr") kind.Hexadecimal ∷ []

-- a file at a fixed address (struct fvmfile_command)
abbrev pub fvmfile_named : List NamedField
fvmfile_named =
    named_field (codes "name") kind.Text ∷ named_field (codes "header_addr") kind.Hexadecimal ∷ []

-- the tables of the dynamic linker (struct dysymtab_command)
abbrev pub dysymtab_named : List NamedField
dysymtab_named =
    named_field (codes "ilocalsym") kind.Number ∷ named_field (codes "nlocalsym") kind.Number ∷ named_field (codes "iextdefsym") kind.Number
    ∷ named_field (codes "nextdefsym") kind.Number ∷ named_field (codes "iundefsym") kind.Number ∷ named_field (codes "nundefsym") kind.Number
    ∷ named_field (codes "tocoff") kind.Hexadecimal ∷ named_field (codes "ntoc") kind.Number ∷ named_field (codes "modtaboff") kind.Hexadecimal
    ∷ named_field (codes "nmodtab") kind.Number ∷ named_field (codes "extrefsymoff") kind.Hexadecimal ∷ named_field (codes "nextrefsyms") kind.Number
    ∷ named_field (codes "indirectsymoff") kind.Hexadecimal ∷ named_field (codes "nindirectsyms") kind.Number
    ∷ named_field (codes "extreloff") kind.Hexadecimal ∷ named_field (codes "nextrel") kind.Number ∷ named_field (codes "locreloff") kind.Hexadecimal
    ∷ named_field (codes "nlocrel") kind.Number ∷ []

-- a library (struct dylib_command)
abbrev pub dylib_named : List NamedField
dylib_named =
    named_field (codes "name") kind.Text ∷ named_field (codes "timestamp") kind.Number ∷ named_field (codes "current_version") kind.Version
    ∷ named_field (codes "compatibility_version") kind.Version ∷ []

-- a dynamic linker, or a variable of its environment (struct dylinker_command)
abbrev pub dylinker_named : List NamedField
dylinker_named =
    named_field (codes "name") kind.Text ∷ []

-- a prebound library (struct prebound_dylib_command)
abbrev pub prebound_dylib_named : List NamedField
prebound_dylib_named =
    named_field (codes "name") kind.Text ∷ named_field (codes "nmodules") kind.Number ∷ named_field (codes "linked_modules_offset") kind.Number ∷ []

-- the initialization routine of a 32-bit image (struct routines_command)
abbrev pub routines32_named : List NamedField
routines32_named =
    named_field (codes "init_address") kind.Hexadecimal ∷ named_field (codes "init_module") kind.Number ∷ named_field (codes "reserved1") kind.Number
    ∷ named_field (codes "reserved2") kind.Number ∷ named_field (codes "reserved3") kind.Number ∷ named_field (codes "reserved4") kind.Number
    ∷ named_field (codes "reserved5") kind.Number ∷ named_field (codes "reserved6") kind.Number ∷ []

-- the initialization routine of a 64-bit image (struct routines_command_64)
abbrev pub routines64_named : List NamedField
routines64_named =
    named_field (codes "init_address") kind.Hexadecimal ∷ named_field (codes "init_module") kind.Number ∷ named_field (codes "reserved1") kind.Number
    ∷ named_field (codes "reserved2") kind.Number ∷ named_field (codes "reserved3") kind.Number ∷ named_field (codes "reserved4") kind.Number
    ∷ named_field (codes "reserved5") kind.Number ∷ named_field (codes "reserved6") kind.Number ∷ []

-- an umbrella that the image is a part of (struct sub_framework_command)
abbrev pub sub_framework_named : List NamedField
sub_framework_named =
    named_field (codes "umbrella") kind.Text ∷ []

-- an umbrella within this one (struct sub_umbrella_command)
abbrev pub sub_umbrella_named : List NamedField
sub_umbrella_named =
    named_field (codes "sub_umbrella") kind.Text ∷ []

-- a client (struct sub_client_command)
abbrev pub sub_client_named : List NamedField
sub_client_named =
    named_field (codes "client") kind.Text ∷ []

-- a library within this umbrella (struct sub_library_command)
abbrev pub sub_library_named : List NamedField
sub_library_named =
    named_field (codes "sub_library") kind.Text ∷ []

-- the hints of two-level name spaces (struct twolevel_hints_command)
abbrev pub twolevel_hints_named : List NamedField
twolevel_hints_named =
    named_field (codes "offset") kind.Hexadecimal ∷ named_field (codes "nhints") kind.Number ∷ []

-- the checksum of prebinding (struct prebind_cksum_command)
abbrev pub prebind_cksum_named : List NamedField
prebind_cksum_named =
    named_field (codes "cksum") kind.Hexadecimal ∷ []

-- the UUID (struct uuid_command)
abbrev pub uuid_named : List NamedField
uuid_named =
    named_field (codes "uuid") kind.Uuid ∷ []

-- a run path (struct rpath_command)
abbrev pub rpath_named : List NamedField
rpath_named =
    named_field (codes "path") kind.Text ∷ []

-- a range of the link-edit segment (struct linkedit_data_command)
abbrev pub linkedit_data_named : List NamedField
linkedit_data_named =
    named_field (codes "dataoff") kind.Hexadecimal ∷ named_field (codes "datasize") kind.Number ∷ []

-- an encrypted range of a 32-bit image (struct encryption_info_command)
abbrev pub encryption32_named : List NamedField
encryption32_named =
    named_field (codes "cryptoff") kind.Hexadecimal ∷ named_field (codes "cryptsize") kind.Number ∷ named_field (codes "cryptid") kind.Number ∷ []

-- an encrypted range of a 64-bit image (struct encryption_info_command_64)
abbrev pub encryption64_named : List NamedField
encryption64_named =
    named_field (codes "cryptoff") kind.Hexadecimal ∷ named_field (codes "cryptsize") kind.Number ∷ named_field (codes "cryptid") kind.Number
    ∷ named_field (codes "pad") kind.Number ∷ []

-- the ranges of the dynamic linker's information (struct dyld_info_command)
abbrev pub dyld_info_named : List NamedField
dyld_info_named =
    named_field (codes "rebase_off") kind.Hexadecimal ∷ named_field (codes "rebase_size") kind.Number ∷ named_field (codes "bind_off") kind.Hexadecimal
    ∷ named_field (codes "bind_size") kind.Number ∷ named_field (codes "weak_bind_off") kind.Hexadecimal
    ∷ named_field (codes "weak_bind_size") kind.Number ∷ named_field (codes "lazy_bind_off") kind.Hexadecimal
    ∷ named_field (codes "lazy_bind_size") kind.Number ∷ named_field (codes "export_off") kind.Hexadecimal
    ∷ named_field (codes "export_size") kind.Number ∷ []

-- the oldest version of the system (struct version_min_command)
abbrev pub version_min_named : List NamedField
version_min_named =
    named_field (codes "version") kind.Version ∷ named_field (codes "sdk") kind.Version ∷ []

-- the place at which the program begins (struct entry_point_command)
abbrev pub entry_point_named : List NamedField
entry_point_named =
    named_field (codes "entryoff") kind.Hexadecimal ∷ named_field (codes "stacksize") kind.Number ∷ []

-- the version of the sources (struct source_version_command)
abbrev pub source_version_named : List NamedField
source_version_named =
    named_field (codes "version") kind.SourceVersion ∷ []

-- options for the linker; their texts follow the record (struct linker_option_command)
abbrev pub linker_option_named : List NamedField
linker_option_named =
    named_field (codes "count") kind.Number ∷ []

-- a note (struct note_command)
abbrev pub note_named : List NamedField
note_named =
    named_field (codes "data_owner") kind.Name ∷ named_field (codes "offset") kind.Hexadecimal ∷ named_field (codes "size") kind.Number ∷ []

-- a platform; its tools follow the record (struct build_version_command)
abbrev pub build_version_named : List NamedField
build_version_named =
    named_field (codes "platform") kind.Platform ∷ named_field (codes "minos") kind.Version ∷ named_field (codes "sdk") kind.Version
    ∷ named_field (codes "ntools") kind.Number ∷ []

-- an image within a file set (struct fileset_entry_command)
abbrev pub fileset_entry_named : List NamedField
fileset_entry_named =
    named_field (codes "vmaddr") kind.Hexadecimal ∷ named_field (codes "fileoff") kind.Hexadecimal ∷ named_field (codes "entry_id") kind.Text
    ∷ named_field (codes "reserved") kind.Number ∷ []

-- the target that an image was compiled for (struct target_triple_command)
abbrev pub target_triple_named : List NamedField
target_triple_named =
    named_field (codes "triple") kind.Text ∷ []

-- ---- the table

-- a command's number, the names of its record, and the record
pub record FieldTable : Type 0 where
  pub cmd : ℕ
  pub named : List NamedField
  pub fields : List Field

abbrev pub field_tables : List FieldTable
field_tables =
    record { cmd = 0x1; named = segment32_named; fields = segment_command32_fields }
    ∷ record { cmd = 0x2; named = symtab_named; fields = symtab_command_fields }
    ∷ record { cmd = 0x3; named = symseg_named; fields = symseg_command_fields }
    ∷ record { cmd = 0x4; named = thread_named; fields = thread_fields }
    ∷ record { cmd = 0x5; named = thread_named; fields = thread_fields }
    ∷ record { cmd = 0x6; named = fvmlib_named; fields = fvmlib_command_fields }
    ∷ record { cmd = 0x7; named = fvmlib_named; fields = fvmlib_command_fields }
    ∷ record { cmd = 0x9; named = fvmfile_named; fields = fvmfile_command_fields }
    ∷ record { cmd = 0xb; named = dysymtab_named; fields = dysymtab_command_fields }
    ∷ record { cmd = 0xc; named = dylib_named; fields = dylib_command_fields }
    ∷ record { cmd = 0xd; named = dylib_named; fields = dylib_command_fields }
    ∷ record { cmd = 0xe; named = dylinker_named; fields = dylinker_command_fields }
    ∷ record { cmd = 0xf; named = dylinker_named; fields = dylinker_command_fields }
    ∷ record { cmd = 0x10; named = prebound_dylib_named; fields = prebound_dylib_command_fields }
    ∷ record { cmd = 0x11; named = routines32_named; fields = routines_command32_fields }
    ∷ record { cmd = 0x12; named = sub_framework_named; fields = sub_framework_command_fields }
    ∷ record { cmd = 0x13; named = sub_umbrella_named; fields = sub_umbrella_command_fields }
    ∷ record { cmd = 0x14; named = sub_client_named; fields = sub_client_command_fields }
    ∷ record { cmd = 0x15; named = sub_library_named; fields = sub_library_command_fields }
    ∷ record { cmd = 0x16; named = twolevel_hints_named; fields = twolevel_hints_command_fields }
    ∷ record { cmd = 0x17; named = prebind_cksum_named; fields = prebind_cksum_command_fields }
    ∷ record { cmd = 0x19; named = segment64_named; fields = segment_command64_fields }
    ∷ record { cmd = 0x1a; named = routines64_named; fields = routines_command64_fields }
    ∷ record { cmd = 0x1b; named = uuid_named; fields = uuid_command_fields }
    ∷ record { cmd = 0x1d; named = linkedit_data_named; fields = linkedit_data_command_fields }
    ∷ record { cmd = 0x1e; named = linkedit_data_named; fields = linkedit_data_command_fields }
    ∷ record { cmd = 0x20; named = dylib_named; fields = dylib_command_fields }
    ∷ record { cmd = 0x21; named = encryption32_named; fields = encryption_info_command32_fields }
    ∷ record { cmd = 0x22; named = dyld_info_named; fields = dyld_info_command_fields }
    ∷ record { cmd = 0x24; named = version_min_named; fields = version_min_command_fields }
    ∷ record { cmd = 0x25; named = version_min_named; fields = version_min_command_fields }
    ∷ record { cmd = 0x26; named = linkedit_data_named; fields = linkedit_data_command_fields }
    ∷ record { cmd = 0x27; named = dylinker_named; fields = dylinker_command_fields }
    ∷ record { cmd = 0x29; named = linkedit_data_named; fields = linkedit_data_command_fields }
    ∷ record { cmd = 0x2a; named = source_version_named; fields = source_version_command_fields }
    ∷ record { cmd = 0x2b; named = linkedit_data_named; fields = linkedit_data_command_fields }
    ∷ record { cmd = 0x2c; named = encryption64_named; fields = encryption_info_command64_fields }
    ∷ record { cmd = 0x2d; named = linker_option_named; fields = linker_option_command_fields }
    ∷ record { cmd = 0x2e; named = linkedit_data_named; fields = linkedit_data_command_fields }
    ∷ record { cmd = 0x2f; named = version_min_named; fields = version_min_command_fields }
    ∷ record { cmd = 0x30; named = version_min_named; fields = version_min_command_fields }
    ∷ record { cmd = 0x31; named = note_named; fields = note_command_fields }
    ∷ record { cmd = 0x32; named = build_version_named; fields = build_version_command_fields }
    ∷ record { cmd = 0x36; named = linkedit_data_named; fields = linkedit_data_command_fields }
    ∷ record { cmd = 0x37; named = linkedit_data_named; fields = linkedit_data_command_fields }
    ∷ record { cmd = 0x38; named = linkedit_data_named; fields = linkedit_data_command_fields }
    ∷ record { cmd = 0x39; named = target_triple_named; fields = target_triple_command_fields }
    ∷ record { cmd = 0x8000_0018; named = dylib_named; fields = dylib_command_fields }
    ∷ record { cmd = 0x8000_001c; named = rpath_named; fields = rpath_command_fields }
    ∷ record { cmd = 0x8000_001f; named = dylib_named; fields = dylib_command_fields }
    ∷ record { cmd = 0x8000_0022; named = dyld_info_named; fields = dyld_info_command_fields }
    ∷ record { cmd = 0x8000_0023; named = dylib_named; fields = dylib_command_fields }
    ∷ record { cmd = 0x8000_0028; named = entry_point_named; fields = entry_point_command_fields }
    ∷ record { cmd = 0x8000_0033; named = linkedit_data_named; fields = linkedit_data_command_fields }
    ∷ record { cmd = 0x8000_0034; named = linkedit_data_named; fields = linkedit_data_command_fields }
    ∷ record { cmd = 0x8000_0035; named = fileset_entry_named; fields = fileset_entry_command_fields }
    ∷ []

-- the fields of a command by a table; none if the table lacks it
abbrev pub fields_among : List FieldTable → (cmd : ℕ) → List FieldPlace
fields_among [] cmd = []
fields_among (t ∷ ts) cmd = if cmd == t.cmd then placed_fields 8 t.named (drop 2 t.fields) else fields_among ts cmd

-- The fields of a command after cmd and cmdsize. It is closed, so that no fact contains the whole table.
unfoldable pub fields_of_command : (cmd : ℕ) → List FieldPlace
fields_of_command cmd = fields_among field_tables cmd

-- a row of the tables in the code
abbrev pub field_place : Bor (List ℕ) × FieldKind × ℕ × ℕ → FieldPlace
field_place f = record { name = f.0.now; kind = f.1; offset = f.2; width = f.3 }
