-- Rules of load commands (`mach-o/loader.h`, struct load_command and the struct of each command). dyld or LLVM rejects an
-- image that breaks one, except the rule on an end before `sizeofcmds`.
use Rattle.std.specs.Prelude.{◌==◌, ◌&&◌, ℕ, zero, suc, ◌+◌, ◌-◌, ◌*◌, ◌%◌, Bool, false, not, ◌||◌, if◌then◌else◌, nat_le, length, take, drop}
use Rattle.std.specs.Prelude.{List, [], ◌∷◌, ◌++◌, Option, Some, None, option_map, option_and_then, find}
use Rattle.std.specs.List.{cons_option, list_any}
use Rattle.mach_base.specs.Context.{pointer_size}
use Rattle.mach_base.specs.Number.{number, place_after}
use Rattle.mach_base.specs.Record.{number_among, size}
use Rattle.mach_base.specs.declared.context.Container.{Container}
use Rattle.mach_base.specs.declared.context.Container.TheVariants.{Little, Big}
use Rattle.mach_base.specs.declared.context.Endian.{Endian}
use Rattle.mach_load.specs.Command.{Command, cmd_of, cmdsize_of}
use Rattle.mach_load.specs.Commands.{Kind}
use Rattle.mach_load.specs.Commands as kind
use Rattle.mach_load.specs.Newer.{NewerKind, newer_kind}
use Rattle.mach_load.specs.Newer as newer
use Rattle.mach_records.specs.Contents.{entry_point_command_fields, fileset_entry_command_fields, linker_option_command_fields, note_command_fields}
use Rattle.mach_records.specs.Contents.{prebind_cksum_command_fields, target_triple_command_fields, uuid_command_fields}
use Rattle.mach_records.specs.Libraries.{dylib_command_fields, dylinker_command_fields, fvmfile_command_fields, fvmlib_command_fields}
use Rattle.mach_records.specs.Libraries.{prebound_dylib_command_fields, rpath_command_fields}
use Rattle.mach_records.specs.Linkedit.{dyld_info_command_fields, encryption_info_command32_fields, encryption_info_command64_fields}
use Rattle.mach_records.specs.Linkedit.{linkedit_data_command_fields}
use Rattle.mach_records.specs.LoadCommandHeader.{header_fields}
use Rattle.mach_records.specs.Modules.{routines_command32_fields, routines_command64_fields}
use Rattle.mach_records.specs.Segments.{section32_fields, section64_fields, segment_command32_fields, segment_command64_fields}
use Rattle.mach_records.specs.SymbolTables.{dysymtab_command_fields, symseg_command_fields, symtab_command_fields, twolevel_hints_command_fields}
use Rattle.mach_records.specs.Umbrellas.{sub_client_command_fields, sub_framework_command_fields, sub_library_command_fields, sub_umbrella_command_fields}
use Rattle.mach_records.specs.Versions.{build_tool_version_fields, build_version_command_fields, source_version_command_fields, version_min_command_fields}
use Rattle.mach_layout.specs.Header.{header_reported}
use Rattle.mach_layout.specs.Laid.{Laid, declared_end}
use Rattle.mach_layout.specs.Libraries.{command_text, place_sees, text_sees, is_library_file, says_id}
use Rattle.mach_layout.specs.Rules.{measured, sound, sees_there, owner_at, reported_over}
use Rattle.mach_layout.specs.declared.commands.sizes.StructSize.{StructSize}
use Rattle.mach_layout.specs.declared.commands.sizes.StructSize.TheVariants.{Exactly, AtLeast}
use Rattle.mach_layout.specs.declared.fault.LayoutFault.{LayoutFault}
use Rattle.mach_layout.specs.declared.fault.Owner.{Owner}
use Rattle.mach_layout.specs.declared.fault.Part.{Part}
use Rattle.mach_layout.specs.declared.fault.Part.TheVariants as part
use Rattle.mach_layout.specs.declared.fault.Rule.{Rule}
use Rattle.mach_layout.specs.declared.fault.Rule.TheVariants as rule
use Rattle.mach_layout.specs.declared.rules.RuleOutcome.{RuleOutcome}

-- ---- the size of a command

-- the same as below, of a command that goblin's table lacks; of an unknown one the struct is its cmd and cmdsize
abbrev pub newer_size : Option NewerKind → StructSize
newer_size (Some newer.target_triple) = AtLeast (size target_triple_command_fields)
newer_size (Some _) = Exactly (size linkedit_data_command_fields)
newer_size None = AtLeast (size header_fields)

-- The number of bytes in the struct of a command, by its kind and its number, and whether texts, sections or other items may
-- follow it. For a thread the struct is only its cmd and cmdsize.
abbrev pub struct_size : Kind → (cmd : ℕ) → StructSize
struct_size kind.segment32 cmd = AtLeast (size segment_command32_fields)
struct_size kind.symtab cmd = Exactly (size symtab_command_fields)
struct_size kind.symseg cmd = Exactly (size symseg_command_fields)
struct_size kind.load_fvmlib cmd = AtLeast (size fvmlib_command_fields)
struct_size kind.id_fvmlib cmd = AtLeast (size fvmlib_command_fields)
struct_size kind.fvmfile cmd = AtLeast (size fvmfile_command_fields)
struct_size kind.dysymtab cmd = Exactly (size dysymtab_command_fields)
struct_size kind.load_dylib cmd = AtLeast (size dylib_command_fields)
struct_size kind.id_dylib cmd = AtLeast (size dylib_command_fields)
struct_size kind.load_dylinker cmd = AtLeast (size dylinker_command_fields)
struct_size kind.id_dylinker cmd = AtLeast (size dylinker_command_fields)
struct_size kind.prebound_dylib cmd = AtLeast (size prebound_dylib_command_fields)
struct_size kind.routines32 cmd = Exactly (size routines_command32_fields)
struct_size kind.sub_framework cmd = AtLeast (size sub_framework_command_fields)
struct_size kind.sub_umbrella cmd = AtLeast (size sub_umbrella_command_fields)
struct_size kind.sub_client cmd = AtLeast (size sub_client_command_fields)
struct_size kind.sub_library cmd = AtLeast (size sub_library_command_fields)
struct_size kind.twolevel_hints cmd = Exactly (size twolevel_hints_command_fields)
struct_size kind.prebind_cksum cmd = Exactly (size prebind_cksum_command_fields)
struct_size kind.segment64 cmd = AtLeast (size segment_command64_fields)
struct_size kind.routines64 cmd = Exactly (size routines_command64_fields)
struct_size kind.uuid cmd = Exactly (size uuid_command_fields)
struct_size kind.code_signature cmd = Exactly (size linkedit_data_command_fields)
struct_size kind.segment_split_info cmd = Exactly (size linkedit_data_command_fields)
struct_size kind.lazy_load_dylib cmd = AtLeast (size dylib_command_fields)
struct_size kind.encryption_info32 cmd = Exactly (size encryption_info_command32_fields)
struct_size kind.dyld_info cmd = Exactly (size dyld_info_command_fields)
struct_size kind.version_min_macosx cmd = Exactly (size version_min_command_fields)
struct_size kind.version_min_iphoneos cmd = Exactly (size version_min_command_fields)
struct_size kind.function_starts cmd = Exactly (size linkedit_data_command_fields)
struct_size kind.dyld_environment cmd = AtLeast (size dylinker_command_fields)
struct_size kind.data_in_code cmd = Exactly (size linkedit_data_command_fields)
struct_size kind.source_version cmd = Exactly (size source_version_command_fields)
struct_size kind.dylib_code_sign_drs cmd = Exactly (size linkedit_data_command_fields)
struct_size kind.encryption_info64 cmd = Exactly (size encryption_info_command64_fields)
struct_size kind.linker_option cmd = AtLeast (size linker_option_command_fields)
struct_size kind.linker_optimization_hint cmd = Exactly (size linkedit_data_command_fields)
struct_size kind.version_min_tvos cmd = Exactly (size version_min_command_fields)
struct_size kind.version_min_watchos cmd = Exactly (size version_min_command_fields)
struct_size kind.note cmd = Exactly (size note_command_fields)
struct_size kind.build_version cmd = AtLeast (size build_version_command_fields)
struct_size kind.load_weak_dylib cmd = AtLeast (size dylib_command_fields)
struct_size kind.rpath cmd = AtLeast (size rpath_command_fields)
struct_size kind.reexport_dylib cmd = AtLeast (size dylib_command_fields)
struct_size kind.dyld_info_only cmd = Exactly (size dyld_info_command_fields)
struct_size kind.load_upward_dylib cmd = AtLeast (size dylib_command_fields)
struct_size kind.main cmd = Exactly (size entry_point_command_fields)
struct_size kind.dyld_exports_trie cmd = Exactly (size linkedit_data_command_fields)
struct_size kind.dyld_chained_fixups cmd = Exactly (size linkedit_data_command_fields)
struct_size kind.fileset_entry cmd = AtLeast (size fileset_entry_command_fields)
struct_size kind.unimplemented cmd = newer_size (newer_kind cmd)
struct_size _ cmd = AtLeast (size header_fields)

-- the size is that of the struct, or more if other items may follow it
abbrev pub size_sees : ℕ → StructSize → RuleOutcome
size_sees size (Exactly n) = measured (size == n) size n
size_sees size (AtLeast n) = measured (nat_le n size) size n

-- The size of a command is a multiple of 8 in an image of 64 bits, of 4 in one of 32 bits (struct load_command). For a
-- thread in a core file of 64 bits a multiple of 4 is enough.
abbrev pub unit_of : Laid → Command → ℕ
unit_of laid c = if laid.header.filetype == 4 && cmd_of c == 4 then 4 else pointer_size laid.ctx.container

-- the bytes of a command after its cmd and cmdsize
abbrev pub after_header : List ℕ → Command → List ℕ
after_header bytes c = take (cmdsize_of c - 8) (drop (c.offset + 8) bytes)

-- the number of bytes in the first thread state: its flavor, its count and as many words as the count states (struct thread_command)
abbrev pub state_size : Endian → List ℕ → ℕ
state_size le rest = 8 + 4 * number le 4 (drop 4 rest)

-- the number of bytes in the thread states that follow each other from the start, at most n of them
abbrev pub states_size : ℕ → Endian → List ℕ → ℕ
states_size zero le rest = 0
states_size (suc n) le rest =
    if nat_le (state_size le rest) (length rest) then state_size le rest + states_size n le (drop (state_size le rest) rest) else 0

-- the size of a thread command with its states
abbrev pub thread_size : Laid → Command → ℕ
thread_size laid c = let rest = after_header laid.bytes c in 8 + states_size (length rest) laid.ctx.le rest

-- the size of a command with the sections, tools or states that it counts, if it counts any
abbrev pub counted_size : Laid → Command → Kind → Option ℕ
counted_size laid c kind.segment32 = Some (size segment_command32_fields + size section32_fields * number_among c.values 9)
counted_size laid c kind.segment64 = Some (size segment_command64_fields + size section64_fields * number_among c.values 9)
counted_size laid c kind.build_version = Some (size build_version_command_fields + size build_tool_version_fields * number_among c.values 5)
counted_size laid c kind.thread = Some (thread_size laid c)
counted_size laid c kind.unixthread = Some (thread_size laid c)
counted_size laid c _ = None

-- ---- what a command is

-- the number of the segment command of a width (LC_SEGMENT_64, LC_SEGMENT), if the command is one of the other width
abbrev pub other_width : Container → Kind → Option ℕ
other_width Big kind.segment32 = Some 0x19
other_width Little kind.segment64 = Some 0x1
other_width container kind = None

-- the same as below, of a command that goblin's table lacks
abbrev pub newer_set : NewerKind → Option ℕ
newer_set newer.atom_info = Some 22
newer_set newer.function_variants = Some 23
newer_set newer.function_variant_fixups = Some 24
newer_set newer.target_triple = None

-- The sets of commands of which an image may have only one, by number: the commands of a set serve the same purpose. A command
-- is given by its kind and its number.
abbrev pub set_of : Kind → (cmd : ℕ) → Option ℕ
set_of kind.symtab cmd = Some 0
set_of kind.dysymtab cmd = Some 1
set_of kind.dyld_info cmd = Some 2
set_of kind.dyld_info_only cmd = Some 2
set_of kind.id_dylib cmd = Some 3
set_of kind.load_dylinker cmd = Some 4
set_of kind.id_dylinker cmd = Some 5
set_of kind.main cmd = Some 6
set_of kind.unixthread cmd = Some 6
set_of kind.uuid cmd = Some 7
set_of kind.source_version cmd = Some 8
set_of kind.version_min_macosx cmd = Some 9
set_of kind.version_min_iphoneos cmd = Some 9
set_of kind.version_min_tvos cmd = Some 9
set_of kind.version_min_watchos cmd = Some 9
set_of kind.routines32 cmd = Some 10
set_of kind.routines64 cmd = Some 10
set_of kind.twolevel_hints cmd = Some 11
set_of kind.prebind_cksum cmd = Some 12
set_of kind.encryption_info32 cmd = Some 13
set_of kind.encryption_info64 cmd = Some 13
set_of kind.code_signature cmd = Some 14
set_of kind.segment_split_info cmd = Some 15
set_of kind.function_starts cmd = Some 16
set_of kind.data_in_code cmd = Some 17
set_of kind.dylib_code_sign_drs cmd = Some 18
set_of kind.linker_optimization_hint cmd = Some 19
set_of kind.dyld_exports_trie cmd = Some 20
set_of kind.dyld_chained_fixups cmd = Some 21
set_of kind.unimplemented cmd = option_and_then newer_set (newer_kind cmd)
set_of _ cmd = None

abbrev pub set_in : Command → Option ℕ
set_in c = set_of c.kind (cmd_of c)

abbrev pub is_number : ℕ → Option ℕ → Bool
is_number n None = false
is_number n (Some m) = m == n

abbrev pub is_of_set : ℕ → Command → Bool
is_of_set set c = is_number set (set_in c)

-- the command as the owner of a fault
abbrev pub command_owner : Command → Owner
command_owner c = owner_at part.Command c.offset 0

-- the fault of a command of a set whose first one is another command
abbrev pub once_more : Command → Owner → LayoutFault
once_more c first = record { rule = rule.CommandAgain; owner = command_owner c; other = Some first; found = cmd_of c; limit = 1 }

-- the first command of a set, among these, as an owner
abbrev pub first_owner : List Command → ℕ → Option Owner
first_owner cs set = option_map command_owner (find (is_of_set set) cs)

-- the fault of a command, if one of its set is among these
abbrev pub command_again : List Command → Command → Option LayoutFault
command_again before c = option_and_then (λ set. option_map (once_more c) (first_owner before set)) (set_in c)

-- those faults of some commands, after others
abbrev pub commands_again : List Command → List Command → List LayoutFault
commands_again before [] = []
commands_again before (c ∷ cs) = cons_option (command_again before c) (commands_again (before ++ c ∷ []) cs)

abbrev pub is_symbols : Command → Bool
is_symbols c = is_of_set 0 c

-- ---- each command by itself

-- the text of a command, or the command for its other faults
abbrev pub command_part : Rule → Part
command_part rule.TextMisplaced = part.Text
command_part rule.TextEmpty = part.Text
command_part _ = part.Command

abbrev pub owner_by : Rule → Command → Owner
owner_by r c = owner_at (command_part r) c.offset 0

-- what each rule of one command sees
abbrev pub command_sees : Laid → Rule → Command → RuleOutcome
-- a command has the size of its struct
command_sees laid rule.CommandSize c = size_sees (cmdsize_of c) (struct_size c.kind (cmd_of c))
-- and its size is a multiple of its unit
command_sees laid rule.CommandUnaligned c = measured (cmdsize_of c % unit_of laid c == 0) (cmdsize_of c) (unit_of laid c)
-- it ends at or before the end of the commands, by the header
command_sees laid rule.CommandOutOfCommands c =
    measured (nat_le (c.offset + cmdsize_of c) (declared_end laid)) (place_after c.offset (cmdsize_of c)) (declared_end laid)
-- its size is the one with the items that it counts
command_sees laid rule.CommandCount c = sees_there (counted_size laid c c.kind) (λ n. measured (cmdsize_of c == n) (cmdsize_of c) n)
-- a segment's command has the image's width
command_sees laid rule.SegmentWidth c = sees_there (other_width laid.ctx.container c.kind) (λ n. measured false (cmd_of c) n)
-- there is LC_DYSYMTAB only if there are symbols (LC_SYMTAB)
command_sees laid rule.DynamicSymbolsAlone c = measured (not (is_of_set 1 c)) (cmd_of c) 2
-- a text lies in its command, after the struct
command_sees laid rule.TextMisplaced c = sees_there (command_text laid c) (place_sees laid.bytes c)
-- and isn't empty, if it is read
command_sees laid rule.TextEmpty c = sees_there (command_text laid c) (text_sees laid.bytes c)
-- only a library states a name of its own
command_sees laid rule.IdUnexpected c = measured (not (says_id c) || is_library_file laid) laid.header.filetype 0
command_sees laid _ c = sound

-- the faults that some of these rules find in the commands
abbrev pub commands_reported : Laid → List Rule → List LayoutFault
commands_reported laid rules = reported_over rules owner_by (command_sees laid) laid.commands

-- LC_DYSYMTAB is checked by its rule if there are no symbols
abbrev pub dynamic_symbols_alone : Laid → List LayoutFault
dynamic_symbols_alone laid = if list_any is_symbols laid.commands then [] else commands_reported laid (rule.DynamicSymbolsAlone ∷ [])

-- ---- all of them

-- the faults of the header and of the commands
abbrev pub command_faults : Laid → List LayoutFault
command_faults laid =
    header_reported laid (rule.FileKind ∷ rule.CommandsOutOfFile ∷ [])
    ++ commands_reported laid (rule.CommandSize ∷ rule.CommandUnaligned ∷ rule.CommandOutOfCommands ∷ rule.CommandCount ∷ rule.SegmentWidth ∷ [])
    ++ header_reported laid (rule.CommandsEndEarly ∷ [])
    ++ commands_again [] laid.commands
    ++ dynamic_symbols_alone laid

-- the faults of texts and names
abbrev pub text_faults : Laid → List LayoutFault
text_faults laid =
    commands_reported laid (rule.TextMisplaced ∷ rule.TextEmpty ∷ [])
    ++ header_reported laid (rule.IdMissing ∷ [])
    ++ commands_reported laid (rule.IdUnexpected ∷ [])
