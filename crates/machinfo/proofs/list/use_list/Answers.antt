use Rattle.std.proofs.Common.{option_map}
use Rattle.goblin_mach.specs.Libraries.{libraries_left}
use Rattle.goblin_mach.specs.RebasesLeft.{rebases_left}
use Rattle.mach_parts.specs.SlotViews.{indirect_left}
use Rattle.mach_parts.specs.SlotsLeft.{slots_left}
use Rattle.mach_dyld.specs.WeakBindsLeft.{weak_binds_left}
use Rattle.mach_load.specs.TablesLeft.{starts_left, data_in_code_left, options_left, build_tools_left}
use Rattle.mach_audit.specs.Security.{findings_left}
use Rattle.machinfo.specs.CommandRows.{command_rows_left}
use Rattle.machinfo.specs.NumberedCommands.{numbered_commands_left}
use Rattle.machinfo.specs.NumberedNotes.{notes_numbered_left}
use Rattle.machinfo.specs.OwnNames.{own_names_left}
use Rattle.machinfo.specs.PartFields.{paths_numbered_left, segments_numbered_left}
use Rattle.machinfo.specs.Parts.{entry_view, uuid_rows_left}
use Rattle.machinfo.specs.ProvidedSymbols.{provided_left}
use Rattle.machinfo.specs.Relocations.{relocation_rows_left}
use Rattle.machinfo.specs.RowFields.{data_fields, fields_read, indirect_fields, provided_fields}
use Rattle.machinfo.specs.SectionBytes.{byte_rows_left}
use Rattle.machinfo.specs.SectionContents.{string_rows_left}
use Rattle.machinfo.specs.SectionRows.{sections_counted_left}
use Rattle.machinfo.specs.declared.word.Word.TheVariants as words
use Rattle.machinfo.proofs.Facts as facts
use Rattle.machinfo.proofs.ListRows.{of_rows}
use Rattle.machinfo.proofs.list.use_list.Goals as goal

pub returns-in-Commands : goal.returns-in-Commands
returns-in-Commands g c =
    rw c.in-Commands.is (λ bytes p. of_rows _ bytes _ _ _ _ _
    (facts.command_rows c.args.image.now bytes 0 p (command_rows_left c.of.result) c.of.ensures)
    c.of_list.ensures)

pub returns-in-CommandsAlone : goal.returns-in-CommandsAlone
returns-in-CommandsAlone g c =
    rw c.in-CommandsAlone.is (λ bytes p. of_rows _ bytes _ _ _ _ _
    (facts.command_rows_alone c.args.image.now bytes 0 p (numbered_commands_left c.of-in-CommandsAlone.result) c.of-in-CommandsAlone.ensures)
    c.of_list-in-CommandsAlone.ensures)

pub returns-in-Starts : goal.returns-in-Starts
returns-in-Starts g c =
    rw c.in-Starts.is (λ bytes p. of_rows _ bytes _ _ _ _ _
    (facts.starts_are c.args.image.now bytes 0 p (starts_left c.function_starts.result) c.function_starts.ensures)
    c.of_list-in-Starts.ensures)

pub returns-in-Slots : goal.returns-in-Slots
returns-in-Slots g c =
    rw c.in-Slots.is (λ bytes p. of_rows _ bytes _ _ _ _ _
    (facts.slot_rows c.args.image.now bytes 0 p (slots_left c.symbol_slots.result) c.symbol_slots.ensures)
    c.of_list-in-Slots.ensures)

pub returns-in-Indirect : goal.returns-in-Indirect
returns-in-Indirect g c =
    let list = c.indirect_symbols_in_bounds-past in
    rw c.in-Indirect.is (λ bytes p. of_rows words.Indirect bytes (fields_read indirect_fields (indirect_left list.result.0.0)) list.result.1 _ _ _
    (rw (list.ensures.left, list.ensures.past)
    (facts.indirect_rows c.args.image.now bytes 0 p (indirect_left c.indirect_symbols.result) c.indirect_symbols.ensures)) c.of_list-in-Indirect.ensures)

pub returns-in-Data : goal.returns-in-Data
returns-in-Data g c =
    let list = c.data_in_bounds-past in
    rw c.in-Data.is (λ bytes p. of_rows words.Data bytes (fields_read data_fields (data_in_code_left list.result.0.0)) list.result.1 _ _ _
    (rw (list.ensures.left, list.ensures.past)
    (facts.data_rows c.args.image.now bytes 0 p (data_in_code_left c.data_in_code.result) c.data_in_code.ensures)) c.of_list-in-Data.ensures)

pub returns-in-Options : goal.returns-in-Options
returns-in-Options g c =
    rw c.in-Options.is (λ bytes p. of_rows _ bytes _ _ _ _ _
    (facts.option_rows c.args.image.now bytes 0 p (options_left c.linker_options.result) c.linker_options.ensures)
    c.of_list-in-Options.ensures)

pub returns-in-Tools : goal.returns-in-Tools
returns-in-Tools g c =
    rw c.in-Tools.is (λ bytes p. of_rows _ bytes _ _ _ _ _
    (facts.tool_rows c.args.image.now bytes 0 p (build_tools_left c.build_tools.result) c.build_tools.ensures)
    c.of_list-in-Tools.ensures)

pub returns-in-Notes : goal.returns-in-Notes
returns-in-Notes g c =
    rw c.in-Notes.is (λ bytes p. of_rows _ bytes _ _ _ _ _
    (facts.note_rows c.args.image.now bytes 0 p (notes_numbered_left c.of-in-Notes.result) c.of-in-Notes.ensures)
    c.of_list-in-Notes.ensures)

pub returns-in-Providers : goal.returns-in-Providers
returns-in-Providers g c =
    let list = c.of-past in
    rw c.in-Providers.is (λ bytes p. of_rows words.Providers bytes (fields_read provided_fields (provided_left list.result.0)) list.result.1 _ _ _
    (rw list.ensures.past (facts.provider_rows c.args.image.now bytes 0 p (provided_left list.result.0) list.ensures.left))
    c.of_list-in-Providers.ensures)

pub returns-in-Libraries : goal.returns-in-Libraries
returns-in-Libraries g c =
    rw c.in-Libraries.is (λ bytes p. of_rows _ bytes _ _ _ _ _
    (facts.library_rows c.args.image.now bytes 0 p (libraries_left c.libraries.result) c.libraries.ensures)
    c.of_list-in-Libraries.ensures)

pub returns-in-Rebases : goal.returns-in-Rebases
returns-in-Rebases g c =
    rw c.in-Rebases.is (λ bytes p. of_rows _ bytes _ _ _ _ _
    (facts.rebase_rows c.args.image.now bytes 0 p (rebases_left c.rebases.result) c.rebases.ensures)
    c.of_list-in-Rebases.ensures)

pub returns-in-Weak : goal.returns-in-Weak
returns-in-Weak g c =
    rw c.in-Weak.is (λ bytes p. of_rows _ bytes _ _ _ _ _
    (facts.weak_rows c.args.image.now bytes 0 p (weak_binds_left c.weak_binds.result) c.weak_binds.ensures)
    c.of_list-in-Weak.ensures)

pub returns-in-Segments : goal.returns-in-Segments
returns-in-Segments g c =
    rw c.in-Segments.is (λ bytes p. of_rows _ bytes _ _ _ _ _
    (facts.segment_rows c.args.image.now bytes 0 p (segments_numbered_left c.of-in-Segments.result) c.of-in-Segments.ensures)
    c.of_list-in-Segments.ensures)

pub returns-in-Sections : goal.returns-in-Sections
returns-in-Sections g c =
    let list = c.of-past-in-Sections in
    rw c.in-Sections.is (λ bytes p. of_rows _ bytes _ _ _ _ _
    (facts.section_rows c.args.image.now bytes 0 p (sections_counted_left list.result.0) list.result.1 list.ensures.left list.ensures.past)
    c.of_list-in-Sections.ensures)

pub returns-in-Uuid : goal.returns-in-Uuid
returns-in-Uuid g c =
    rw c.in-Uuid.is (λ bytes p. of_rows _ bytes _ _ _ _ _
    (facts.uuid_rows c.args.image.now bytes 0 p (uuid_rows_left c.of-in-Uuid.result) c.of-in-Uuid.ensures)
    c.of_list-in-Uuid.ensures)

pub returns-in-Rpaths : goal.returns-in-Rpaths
returns-in-Rpaths g c =
    rw c.in-Rpaths.is (λ bytes p. of_rows _ bytes _ _ _ _ _
    (facts.rpath_rows c.args.image.now bytes 0 p (paths_numbered_left c.of-in-Rpaths.result) c.of-in-Rpaths.ensures)
    c.of_list-in-Rpaths.ensures)

pub returns-in-Entry : goal.returns-in-Entry
returns-in-Entry g c =
    rw c.in-Entry.is (λ bytes p. of_rows _ bytes _ _ _ _ _
    (facts.entry_rows c.args.image.now bytes 0 p (option_map entry_view c.of-in-Entry.result.0) c.of-in-Entry.ensures)
    c.of_list-in-Entry.ensures)

pub returns-in-Header : goal.returns-in-Header
returns-in-Header g c =
    rw c.in-Header.is (λ bytes p. of_rows _ bytes _ _ _ _ _
    (facts.header_row c.args.image.now bytes 0 p)
    c.of_list-in-Header.ensures)

pub returns-in-Security : goal.returns-in-Security
returns-in-Security g c =
    rw c.in-Security.is (λ bytes p. of_rows _ bytes _ _ _ _ _
    (facts.finding_rows c.args.image.now bytes 0 p (findings_left c.of-in-Security.result) c.of-in-Security.ensures)
    c.of_list-in-Security.ensures)

pub returns-in-SecurityExplained : goal.returns-in-SecurityExplained
returns-in-SecurityExplained g c =
    rw c.in-SecurityExplained.is (λ bytes p. of_rows _ bytes _ _ _ _ _
    (facts.explained_rows c.args.image.now bytes 0 p (findings_left c.of-in-SecurityExplained.result) c.of-in-SecurityExplained.ensures)
    c.of_list-in-SecurityExplained.ensures)

pub returns-in-Id : goal.returns-in-Id
returns-in-Id g c =
    rw c.in-Id.is (λ bytes p. of_rows _ bytes _ _ _ _ _
    (facts.own_name_rows c.args.image.now bytes 0 p (own_names_left c.of-in-Id.result) c.of-in-Id.ensures)
    c.of_list-in-Id.ensures)

pub returns-in-Relocations : goal.returns-in-Relocations
returns-in-Relocations g c =
    let list = c.of-past-in-Relocations in
    rw c.in-Relocations.is (λ bytes p. of_rows _ bytes _ _ _ _ _
    (facts.relocation_rows c.args.image.now bytes 0 p (relocation_rows_left list.result.0) list.result.1 list.ensures.left list.ensures.past)
    c.of_list-in-Relocations.ensures)

pub returns-in-Strings : goal.returns-in-Strings
returns-in-Strings g c =
    rw c.in-Strings.is (λ bytes p. of_rows _ bytes _ _ _ _ _
    (facts.string_rows_are c.args.image.now bytes 0 p (string_rows_left c.of-in-Strings.result) c.of-in-Strings.ensures)
    c.of_list-in-Strings.ensures)

pub returns-in-Bytes : goal.returns-in-Bytes
returns-in-Bytes g c =
    rw c.in-Bytes.is (λ bytes p. of_rows _ bytes _ _ _ _ _
    (facts.byte_rows_are c.args.image.now bytes 0 p c.in-Bytes.name (byte_rows_left c.of-in-Bytes.result) c.of-in-Bytes.ensures)
    c.of_list-in-Bytes.ensures)
