-- The command table: which record each load command is read as (`mach-o/loader.h`).
use Rattle.std.specs.Prelude.{◌==◌, ℕ, List, [], ◌∷◌, if◌then◌else◌, Bool, true, false}
use Rattle.mach_base.specs.Record.{Field}
use Rattle.mach_records.specs.Contents.{entry_point_command_fields, fileset_entry_command_fields, ident_command_fields, note_command_fields}
use Rattle.mach_records.specs.Contents.{prebind_cksum_command_fields, uuid_command_fields}
use Rattle.mach_records.specs.Libraries.{dylib_command_fields, dylinker_command_fields, fvmfile_command_fields, fvmlib_command_fields}
use Rattle.mach_records.specs.Libraries.{prebound_dylib_command_fields, rpath_command_fields}
use Rattle.mach_records.specs.Linkedit.{dyld_info_command_fields, encryption_info_command32_fields, encryption_info_command64_fields}
use Rattle.mach_records.specs.Linkedit.{linkedit_data_command_fields}
use Rattle.mach_records.specs.LoadCommandHeader.{header_fields}
use Rattle.mach_records.specs.Modules.{routines_command32_fields, routines_command64_fields}
use Rattle.mach_records.specs.Segments.{segment_command32_fields, segment_command64_fields}
use Rattle.mach_records.specs.SymbolTables.{dysymtab_command_fields, symseg_command_fields, symtab_command_fields, twolevel_hints_command_fields}
use Rattle.mach_records.specs.Umbrellas.{sub_client_command_fields, sub_framework_command_fields, sub_library_command_fields, sub_umbrella_command_fields}
use Rattle.mach_records.specs.Versions.{build_version_command_fields, source_version_command_fields, version_min_command_fields}

-- the kind of a load command; of an unimplemented one only the header is read
pub data Kind : Type 0 where
  segment32 : Kind
  symtab : Kind
  symseg : Kind
  thread : Kind
  unixthread : Kind
  load_fvmlib : Kind
  id_fvmlib : Kind
  ident : Kind
  fvmfile : Kind
  prepage : Kind
  dysymtab : Kind
  load_dylib : Kind
  id_dylib : Kind
  load_dylinker : Kind
  id_dylinker : Kind
  prebound_dylib : Kind
  routines32 : Kind
  sub_framework : Kind
  sub_umbrella : Kind
  sub_client : Kind
  sub_library : Kind
  twolevel_hints : Kind
  prebind_cksum : Kind
  segment64 : Kind
  routines64 : Kind
  uuid : Kind
  code_signature : Kind
  segment_split_info : Kind
  lazy_load_dylib : Kind
  encryption_info32 : Kind
  dyld_info : Kind
  version_min_macosx : Kind
  version_min_iphoneos : Kind
  function_starts : Kind
  dyld_environment : Kind
  data_in_code : Kind
  source_version : Kind
  dylib_code_sign_drs : Kind
  encryption_info64 : Kind
  linker_option : Kind
  linker_optimization_hint : Kind
  version_min_tvos : Kind
  version_min_watchos : Kind
  note : Kind
  build_version : Kind
  load_weak_dylib : Kind
  rpath : Kind
  reexport_dylib : Kind
  dyld_info_only : Kind
  load_upward_dylib : Kind
  main : Kind
  dyld_exports_trie : Kind
  dyld_chained_fixups : Kind
  fileset_entry : Kind
  unimplemented : Kind

-- how a command is read: by the fields of a record, or as the state of a thread
pub data Body : Type 0 where
  by_fields : List Field → Body
  by_thread : Body

-- a command's number, its kind, and how it is read
pub record CommandRow : Type 0 where
  pub cmd : ℕ
  pub kind : Kind
  pub body : Body

abbrev pub command_rows : List CommandRow
command_rows =
    record { cmd = 0x1; kind = segment32; body = by_fields segment_command32_fields }
    ∷ record { cmd = 0x2; kind = symtab; body = by_fields symtab_command_fields }
    ∷ record { cmd = 0x3; kind = symseg; body = by_fields symseg_command_fields }
    ∷ record { cmd = 0x4; kind = thread; body = by_thread }
    ∷ record { cmd = 0x5; kind = unixthread; body = by_thread }
    ∷ record { cmd = 0x6; kind = load_fvmlib; body = by_fields fvmlib_command_fields }
    ∷ record { cmd = 0x7; kind = id_fvmlib; body = by_fields fvmlib_command_fields }
    ∷ record { cmd = 0x8; kind = ident; body = by_fields ident_command_fields }
    ∷ record { cmd = 0x9; kind = fvmfile; body = by_fields fvmfile_command_fields }
    ∷ record { cmd = 0xa; kind = prepage; body = by_fields header_fields }
    ∷ record { cmd = 0xb; kind = dysymtab; body = by_fields dysymtab_command_fields }
    ∷ record { cmd = 0xc; kind = load_dylib; body = by_fields dylib_command_fields }
    ∷ record { cmd = 0xd; kind = id_dylib; body = by_fields dylib_command_fields }
    ∷ record { cmd = 0xe; kind = load_dylinker; body = by_fields dylinker_command_fields }
    ∷ record { cmd = 0xf; kind = id_dylinker; body = by_fields dylinker_command_fields }
    ∷ record { cmd = 0x10; kind = prebound_dylib; body = by_fields prebound_dylib_command_fields }
    ∷ record { cmd = 0x11; kind = routines32; body = by_fields routines_command32_fields }
    ∷ record { cmd = 0x12; kind = sub_framework; body = by_fields sub_framework_command_fields }
    ∷ record { cmd = 0x13; kind = sub_umbrella; body = by_fields sub_umbrella_command_fields }
    ∷ record { cmd = 0x14; kind = sub_client; body = by_fields sub_client_command_fields }
    ∷ record { cmd = 0x15; kind = sub_library; body = by_fields sub_library_command_fields }
    ∷ record { cmd = 0x16; kind = twolevel_hints; body = by_fields twolevel_hints_command_fields }
    ∷ record { cmd = 0x17; kind = prebind_cksum; body = by_fields prebind_cksum_command_fields }
    ∷ record { cmd = 0x19; kind = segment64; body = by_fields segment_command64_fields }
    ∷ record { cmd = 0x1a; kind = routines64; body = by_fields routines_command64_fields }
    ∷ record { cmd = 0x1b; kind = uuid; body = by_fields uuid_command_fields }
    ∷ record { cmd = 0x1d; kind = code_signature; body = by_fields linkedit_data_command_fields }
    ∷ record { cmd = 0x1e; kind = segment_split_info; body = by_fields linkedit_data_command_fields }
    ∷ record { cmd = 0x20; kind = lazy_load_dylib; body = by_fields dylib_command_fields }
    ∷ record { cmd = 0x21; kind = encryption_info32; body = by_fields encryption_info_command32_fields }
    ∷ record { cmd = 0x22; kind = dyld_info; body = by_fields dyld_info_command_fields }
    ∷ record { cmd = 0x24; kind = version_min_macosx; body = by_fields version_min_command_fields }
    ∷ record { cmd = 0x25; kind = version_min_iphoneos; body = by_fields version_min_command_fields }
    ∷ record { cmd = 0x26; kind = function_starts; body = by_fields linkedit_data_command_fields }
    ∷ record { cmd = 0x27; kind = dyld_environment; body = by_fields dylinker_command_fields }
    ∷ record { cmd = 0x29; kind = data_in_code; body = by_fields linkedit_data_command_fields }
    ∷ record { cmd = 0x2a; kind = source_version; body = by_fields source_version_command_fields }
    ∷ record { cmd = 0x2b; kind = dylib_code_sign_drs; body = by_fields linkedit_data_command_fields }
    ∷ record { cmd = 0x2c; kind = encryption_info64; body = by_fields encryption_info_command64_fields }
    ∷ record { cmd = 0x2d; kind = linker_option; body = by_fields linkedit_data_command_fields }
    ∷ record { cmd = 0x2e; kind = linker_optimization_hint; body = by_fields linkedit_data_command_fields }
    ∷ record { cmd = 0x2f; kind = version_min_tvos; body = by_fields version_min_command_fields }
    ∷ record { cmd = 0x30; kind = version_min_watchos; body = by_fields version_min_command_fields }
    ∷ record { cmd = 0x31; kind = note; body = by_fields note_command_fields }
    ∷ record { cmd = 0x32; kind = build_version; body = by_fields build_version_command_fields }
    ∷ record { cmd = 0x8000_0018; kind = load_weak_dylib; body = by_fields dylib_command_fields }
    ∷ record { cmd = 0x8000_001c; kind = rpath; body = by_fields rpath_command_fields }
    ∷ record { cmd = 0x8000_001f; kind = reexport_dylib; body = by_fields dylib_command_fields }
    ∷ record { cmd = 0x8000_0022; kind = dyld_info_only; body = by_fields dyld_info_command_fields }
    ∷ record { cmd = 0x8000_0023; kind = load_upward_dylib; body = by_fields dylib_command_fields }
    ∷ record { cmd = 0x8000_0028; kind = main; body = by_fields entry_point_command_fields }
    ∷ record { cmd = 0x8000_0033; kind = dyld_exports_trie; body = by_fields linkedit_data_command_fields }
    ∷ record { cmd = 0x8000_0034; kind = dyld_chained_fixups; body = by_fields linkedit_data_command_fields }
    ∷ record { cmd = 0x8000_0035; kind = fileset_entry; body = by_fields fileset_entry_command_fields }
    ∷ []

abbrev pub row_among : List CommandRow → ℕ → CommandRow
row_among [] cmd = record { cmd = cmd; kind = unimplemented; body = by_fields header_fields }
row_among (row ∷ rows) cmd = if cmd == row.cmd then row else row_among rows cmd

-- The row of a command. It is closed, so that no fact contains the whole table.
unfoldable pub row_of : ℕ → CommandRow
row_of cmd = row_among command_rows cmd

-- the command that names the image itself
abbrev pub is_id : Kind → Bool
is_id id_dylib = true
is_id _ = false
