-- What a caller sees of load commands that were read.
use Rattle.std.specs.Prelude.{List}
use Rattle.mach_base.specs.Record.{Value}
use Rattle.mach_records.specs.Contents.{entry_point_command_values, fileset_entry_command_values, ident_command_values, note_command_values}
use Rattle.mach_records.specs.Contents.{prebind_cksum_command_values, uuid_command_values}
use Rattle.mach_records.specs.Libraries.{dylib_command_values, dylinker_command_values, fvmfile_command_values, fvmlib_command_values}
use Rattle.mach_records.specs.Libraries.{prebound_dylib_command_values, rpath_command_values}
use Rattle.mach_records.specs.Linkedit.{dyld_info_command_values, encryption_info_command32_values, encryption_info_command64_values}
use Rattle.mach_records.specs.Linkedit.{linkedit_data_command_values}
use Rattle.mach_records.specs.LoadCommandHeader.{header_values}
use Rattle.mach_records.specs.Modules.{routines_command32_values, routines_command64_values}
use Rattle.mach_records.specs.Segments.{segment_command32_values, segment_command64_values}
use Rattle.mach_records.specs.SymbolTables.{dysymtab_command_values, symseg_command_values, symtab_command_values, twolevel_hints_command_values}
use Rattle.mach_records.specs.Umbrellas.{sub_client_command_values, sub_framework_command_values, sub_library_command_values, sub_umbrella_command_values}
use Rattle.mach_records.specs.Versions.{build_version_command_values, source_version_command_values, version_min_command_values}
use Rattle.mach_load.specs.Commands.{Kind}
use Rattle.mach_load.specs.Commands as kind
use Rattle.mach_load.specs.Command.{Command}
use Rattle.mach_load.specs.ThreadState.{thread_values}
use Rattle.mach_load.specs.declared.variant.CommandVariant.{CommandVariant}
use Rattle.mach_load.specs.declared.variant.CommandVariant.TheVariants as v
use Rattle.mach_load.specs.declared.load_command.LoadCommand.{LoadCommand}

-- the values of its record
abbrev pub variant_values : CommandVariant → List Value
variant_values (v.Segment32 c) = segment_command32_values c
variant_values (v.Symtab c) = symtab_command_values c
variant_values (v.Symseg c) = symseg_command_values c
variant_values (v.Thread c) = thread_values c
variant_values (v.Unixthread c) = thread_values c
variant_values (v.LoadFvmlib c) = fvmlib_command_values c
variant_values (v.IdFvmlib c) = fvmlib_command_values c
variant_values (v.Ident c) = ident_command_values c
variant_values (v.Fvmfile c) = fvmfile_command_values c
variant_values (v.Prepage c) = header_values c
variant_values (v.Dysymtab c) = dysymtab_command_values c
variant_values (v.LoadDylib c) = dylib_command_values c
variant_values (v.IdDylib c) = dylib_command_values c
variant_values (v.LoadDylinker c) = dylinker_command_values c
variant_values (v.IdDylinker c) = dylinker_command_values c
variant_values (v.PreboundDylib c) = prebound_dylib_command_values c
variant_values (v.Routines32 c) = routines_command32_values c
variant_values (v.SubFramework c) = sub_framework_command_values c
variant_values (v.SubUmbrella c) = sub_umbrella_command_values c
variant_values (v.SubClient c) = sub_client_command_values c
variant_values (v.SubLibrary c) = sub_library_command_values c
variant_values (v.TwolevelHints c) = twolevel_hints_command_values c
variant_values (v.PrebindCksum c) = prebind_cksum_command_values c
variant_values (v.Segment64 c) = segment_command64_values c
variant_values (v.Routines64 c) = routines_command64_values c
variant_values (v.Uuid c) = uuid_command_values c
variant_values (v.CodeSignature c) = linkedit_data_command_values c
variant_values (v.SegmentSplitInfo c) = linkedit_data_command_values c
variant_values (v.LazyLoadDylib c) = dylib_command_values c
variant_values (v.EncryptionInfo32 c) = encryption_info_command32_values c
variant_values (v.DyldInfo c) = dyld_info_command_values c
variant_values (v.VersionMinMacosx c) = version_min_command_values c
variant_values (v.VersionMinIphoneos c) = version_min_command_values c
variant_values (v.FunctionStarts c) = linkedit_data_command_values c
variant_values (v.DyldEnvironment c) = dylinker_command_values c
variant_values (v.DataInCode c) = linkedit_data_command_values c
variant_values (v.SourceVersion c) = source_version_command_values c
variant_values (v.DylibCodeSignDrs c) = linkedit_data_command_values c
variant_values (v.EncryptionInfo64 c) = encryption_info_command64_values c
variant_values (v.LinkerOption c) = linkedit_data_command_values c
variant_values (v.LinkerOptimizationHint c) = linkedit_data_command_values c
variant_values (v.VersionMinTvos c) = version_min_command_values c
variant_values (v.VersionMinWatchos c) = version_min_command_values c
variant_values (v.Note c) = note_command_values c
variant_values (v.BuildVersion c) = build_version_command_values c
variant_values (v.LoadWeakDylib c) = dylib_command_values c
variant_values (v.Rpath c) = rpath_command_values c
variant_values (v.ReexportDylib c) = dylib_command_values c
variant_values (v.DyldInfoOnly c) = dyld_info_command_values c
variant_values (v.LoadUpwardDylib c) = dylib_command_values c
variant_values (v.Main c) = entry_point_command_values c
variant_values (v.DyldExportsTrie c) = linkedit_data_command_values c
variant_values (v.DyldChainedFixups c) = linkedit_data_command_values c
variant_values (v.FilesetEntry c) = fileset_entry_command_values c
variant_values (v.Unimplemented c) = header_values c

-- its kind
abbrev pub kind_in : CommandVariant → Kind
kind_in (v.Segment32 c) = kind.segment32
kind_in (v.Symtab c) = kind.symtab
kind_in (v.Symseg c) = kind.symseg
kind_in (v.Thread c) = kind.thread
kind_in (v.Unixthread c) = kind.unixthread
kind_in (v.LoadFvmlib c) = kind.load_fvmlib
kind_in (v.IdFvmlib c) = kind.id_fvmlib
kind_in (v.Ident c) = kind.ident
kind_in (v.Fvmfile c) = kind.fvmfile
kind_in (v.Prepage c) = kind.prepage
kind_in (v.Dysymtab c) = kind.dysymtab
kind_in (v.LoadDylib c) = kind.load_dylib
kind_in (v.IdDylib c) = kind.id_dylib
kind_in (v.LoadDylinker c) = kind.load_dylinker
kind_in (v.IdDylinker c) = kind.id_dylinker
kind_in (v.PreboundDylib c) = kind.prebound_dylib
kind_in (v.Routines32 c) = kind.routines32
kind_in (v.SubFramework c) = kind.sub_framework
kind_in (v.SubUmbrella c) = kind.sub_umbrella
kind_in (v.SubClient c) = kind.sub_client
kind_in (v.SubLibrary c) = kind.sub_library
kind_in (v.TwolevelHints c) = kind.twolevel_hints
kind_in (v.PrebindCksum c) = kind.prebind_cksum
kind_in (v.Segment64 c) = kind.segment64
kind_in (v.Routines64 c) = kind.routines64
kind_in (v.Uuid c) = kind.uuid
kind_in (v.CodeSignature c) = kind.code_signature
kind_in (v.SegmentSplitInfo c) = kind.segment_split_info
kind_in (v.LazyLoadDylib c) = kind.lazy_load_dylib
kind_in (v.EncryptionInfo32 c) = kind.encryption_info32
kind_in (v.DyldInfo c) = kind.dyld_info
kind_in (v.VersionMinMacosx c) = kind.version_min_macosx
kind_in (v.VersionMinIphoneos c) = kind.version_min_iphoneos
kind_in (v.FunctionStarts c) = kind.function_starts
kind_in (v.DyldEnvironment c) = kind.dyld_environment
kind_in (v.DataInCode c) = kind.data_in_code
kind_in (v.SourceVersion c) = kind.source_version
kind_in (v.DylibCodeSignDrs c) = kind.dylib_code_sign_drs
kind_in (v.EncryptionInfo64 c) = kind.encryption_info64
kind_in (v.LinkerOption c) = kind.linker_option
kind_in (v.LinkerOptimizationHint c) = kind.linker_optimization_hint
kind_in (v.VersionMinTvos c) = kind.version_min_tvos
kind_in (v.VersionMinWatchos c) = kind.version_min_watchos
kind_in (v.Note c) = kind.note
kind_in (v.BuildVersion c) = kind.build_version
kind_in (v.LoadWeakDylib c) = kind.load_weak_dylib
kind_in (v.Rpath c) = kind.rpath
kind_in (v.ReexportDylib c) = kind.reexport_dylib
kind_in (v.DyldInfoOnly c) = kind.dyld_info_only
kind_in (v.LoadUpwardDylib c) = kind.load_upward_dylib
kind_in (v.Main c) = kind.main
kind_in (v.DyldExportsTrie c) = kind.dyld_exports_trie
kind_in (v.DyldChainedFixups c) = kind.dyld_chained_fixups
kind_in (v.FilesetEntry c) = kind.fileset_entry
kind_in (v.Unimplemented c) = kind.unimplemented

-- a load command that was read
abbrev pub command_of : LoadCommand → Command
command_of c = record { offset = c.offset; kind = kind_in c.command; values = variant_values c.command }
