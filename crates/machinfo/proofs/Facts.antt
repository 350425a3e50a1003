-- The rows of each word, by the image that was opened.
use Rattle.std.proofs.Common.{◌≡◌, ◌∷◌, [], ◌-◌, ℕ, List, Option, Result, Ok, ap, length, map, refl, subst}
use Rattle.std.specs.List.{filter_map}
use Rattle.mach_base.specs.Items.{items_in_bounds}
use Rattle.mach_base.specs.Context.{pointer_size}
use Rattle.mach_base.specs.Fault.{Fault}
use Rattle.mach_base.specs.Text.{texts}
use Rattle.mach_records.specs.declared.linkedit.DataInCodeEntry.{DataInCodeEntry}
use Rattle.mach_records.specs.declared.versions.BuildToolVersion.{BuildToolVersion}
use Rattle.mach_parts.specs.Bindings.{Binding}
use Rattle.mach_parts.specs.Slots.{Slot}
use Rattle.mach_parts.specs.declared.indirect.IndirectSymbol.{IndirectSymbol}
use Rattle.mach_dyld.specs.Rebases.{Rebase}
use Rattle.mach_dyld.specs.WeakBinds.{WeakBind}
use Rattle.mach_load.specs.BuildTools.{build_tools_in}
use Rattle.mach_load.specs.LinkerOptions.{linker_options_in}
use Rattle.goblin_mach.specs.Facts.{HasBindings, HasSegments}
use Rattle.goblin_mach.specs.Fixups.{base_view, chained_view}
use Rattle.goblin_mach.specs.ImageSlots.{indirect_symbols_in, indirect_table_view, symbol_table_view, image_slots}
use Rattle.goblin_mach.specs.ImageStreams.{AreImageRebases, AreImageWeakBinds, rebase_stream_in, weak_stream_in}
use Rattle.goblin_mach.specs.EntryPoint.{EntryPoint}
use Rattle.goblin_mach.specs.ImageFacts.{Facts, OfFacts, facts_view}
use Rattle.goblin_mach.specs.Initializers.{AreImageInitializers}
use Rattle.goblin_mach.specs.declared.initializers.Initializer.{Initializer}
use Rattle.goblin_mach.specs.Libraries.{LibraryView, libraries_in}
use Rattle.goblin_mach.specs.Bindings.{AreImageBindings}
use Rattle.goblin_mach.specs.OpenImage.{IsLossyImage, binds_view, bytes_view, commands_view, ctx_view, segments_view}
use Rattle.goblin_mach.specs.Tables.{AreStartsAt, data_in_code_there, data_place_in, starts_place_in}
use Rattle.goblin_mach.specs.declared.macho.MachO.{MachO}
use Rattle.goblin_mach.proofs.ImageFacts.{bindings_are, entry_point_is, facts_are, libraries_by_kind_are}
use Rattle.goblin_mach.proofs.SlotFacts.{indirect_symbols_are, initializers_are, slots_are}
use Rattle.goblin_mach.proofs.StreamFacts.{rebases_are, weak_binds_are}
use Rattle.goblin_mach.proofs.TableFacts.{function_starts_are, data_in_code_are, linker_options_are, build_tools_are}
use Rattle.mach_parts.specs.Segment.{SegmentView}
use Rattle.goblin_mach.specs.AllStretches.{SegmentStretches, parts_of}
use Rattle.machinfo.specs.CommandRows.{CommandRowView, rows_of_commands}
use Rattle.machinfo.specs.Imports.{HasImportFields, fields_of_imports}
use Rattle.machinfo.specs.Initializers.{HasInitFields, init_fields, listed_or_fault, symbol_by_facts}
use Rattle.machinfo.specs.NumberedCommands.{NumberedCommandView, numbered_command_fields, numbered_commands_from}
use Rattle.machinfo.specs.NumberedNotes.{NumberedNoteView, numbered_notes_from}
use Rattle.machinfo.specs.ProvidedSymbols.{ProvidedView, provided_in, symbols_past_in}
use Rattle.machinfo.specs.CommandRowFields.{command_row_fields}
use Rattle.machinfo.specs.Lists.{HasRows}
use Rattle.machinfo.specs.PartFields.{entry_part_fields, header_part_fields, one_row, rpath_rows_from, section_part_fields, segment_rows_from, uuid_part_fields}
use Rattle.machinfo.specs.OwnNames.{OwnNameView, own_name_by, own_name_fields}
use Rattle.machinfo.specs.Parts.{EntryView, IsEntryRow, uuid_row_by}
use Rattle.machinfo.specs.RowFields.{data_fields, fields_read, indirect_fields, library_row_fields, note_fields, option_fields}
use Rattle.machinfo.specs.Relocations.{RelocationView, image_relocations, image_relocations_past, relocation_row_fields}
use Rattle.machinfo.specs.RowFields.{provided_fields, rebase_row_fields, slot_fields, start_fields, tool_fields, weak_row_fields}
use Rattle.machinfo.specs.SectionBytes.{byte_row_fields, bytes_held, listed_bytes}
use Rattle.machinfo.specs.SectionContents.{StringRowView, image_strings, string_fields}
use Rattle.machinfo.specs.SectionRows.{section_rows_in, sections_past}
use Rattle.machinfo.specs.Verdicts.{explained_fields, finding_fields}
use Rattle.mach_audit.specs.Security.{all_findings}
use Rattle.mach_audit.specs.declared.security.Finding.{Finding}
use Rattle.mach_cli.specs.Fields.{FieldView}
use Rattle.machinfo.specs.declared.parts.UuidRow.{UuidRow}
use Rattle.machinfo.specs.declared.section_bytes.SectionName.{SectionName}
use Rattle.machinfo.specs.declared.sections.SectionRow.{SectionRow}
use Rattle.machinfo.specs.declared.word.Word.TheVariants as words

module _ {A : Type 0} (m : MachO A) (bytes : List ℕ) (o : ℕ) (p : IsLossyImage bytes o m) where
  -- what holds of the parts of the image holds of those in the bytes
  of_parts : (Says : Facts → Type 0) → Says (facts_view m) → OfFacts bytes o Says
  of_parts Says is = (facts_are bytes o m p Says).1 is

  pub starts_are : (items : List (Result ℕ Fault)) → AreStartsAt (bytes_view m) (starts_place_in (commands_view m)) (base_view m) items
      → HasRows words.Starts bytes o (fields_read start_fields items) 0
  starts_are items is = ((items, ((function_starts_are m).lossy bytes o p items).1 is, refl), refl)

  pub slot_rows : (items : List (Result Slot Fault))
      → items ≡ image_slots (ctx_view m) (indirect_table_view m) (symbol_table_view m) (segments_view m)
      → HasRows words.Slots bytes o (fields_read slot_fields items) 0
  slot_rows items is = ((items, ((slots_are m).lossy bytes o p items).1 is, refl), refl)

  pub indirect_rows : (items : List (Result IndirectSymbol Fault)) → items ≡ indirect_symbols_in (indirect_table_view m)
      → HasRows words.Indirect bytes o (fields_read indirect_fields (items_in_bounds items)) (length items - length (items_in_bounds items))
  indirect_rows items is = (items, ((indirect_symbols_are m).lossy bytes o p items).1 is, refl, refl)

  pub data_rows : (items : List (Result DataInCodeEntry Fault))
      → items ≡ data_in_code_there (ctx_view m).le (bytes_view m) (data_place_in (commands_view m))
      → HasRows words.Data bytes o (fields_read data_fields (items_in_bounds items)) (length items - length (items_in_bounds items))
  data_rows items is = (items, ((data_in_code_are m).lossy bytes o p items).1 is, refl, refl)

  pub option_rows : (items : List (Result (ℕ × List ℕ) Fault)) → items ≡ linker_options_in (bytes_view m) (commands_view m)
      → HasRows words.Options bytes o (fields_read option_fields items) 0
  option_rows items is = ((items, ((linker_options_are m).lossy bytes o p items).1 is, refl), refl)

  pub tool_rows : (items : List (Result (ℕ × BuildToolVersion) Fault)) → items ≡ build_tools_in (ctx_view m).le (bytes_view m) (commands_view m)
      → HasRows words.Tools bytes o (fields_read tool_fields items) 0
  tool_rows items is = ((items, ((build_tools_are m).lossy bytes o p items).1 is, refl), refl)

  pub command_rows : (items : List CommandRowView)
      → items ≡ rows_of_commands m.header.cputype (numbered_commands_from (ctx_view m).le (bytes_view m) 0 (commands_view m))
      → HasRows words.Commands bytes o (map (λ row. Ok (command_row_fields row)) items) 0
  command_rows items is =
      ((items, of_parts (λ f. items ≡ rows_of_commands f.header.cputype (numbered_commands_from f.ctx.le f.bytes 0 f.commands)) is, refl), refl)

  pub command_rows_alone : (items : List NumberedCommandView) → items ≡ numbered_commands_from (ctx_view m).le (bytes_view m) 0 (commands_view m)
      → HasRows words.CommandsAlone bytes o (map (λ c. Ok (numbered_command_fields c)) items) 0
  command_rows_alone items is = ((items, of_parts (λ f. items ≡ numbered_commands_from f.ctx.le f.bytes 0 f.commands) is, refl), refl)

  pub note_rows : (items : List (Result NumberedNoteView Fault)) → items ≡ numbered_notes_from (bytes_view m) 0 (commands_view m)
      → HasRows words.Notes bytes o (fields_read note_fields items) 0
  note_rows items is = ((items, of_parts (λ f. items ≡ numbered_notes_from f.bytes 0 f.commands) is, refl), refl)

  pub provider_rows : (items : List (Result ProvidedView Fault)) → items ≡ provided_in m.header.flags (texts m.libs.items) (symbol_table_view m)
      → HasRows words.Providers bytes o (fields_read provided_fields items) (symbols_past_in (symbol_table_view m))
  provider_rows items is = (
    (items, of_parts (λ f. items ≡ provided_in f.header.flags f.libs f.symbols) is, refl),
    of_parts (λ f. symbols_past_in (symbol_table_view m) ≡ symbols_past_in f.symbols) refl,
  )

  pub library_rows : (items : List LibraryView) → items ≡ libraries_in (ctx_view m).le (bytes_view m) (commands_view m)
      → HasRows words.Libraries bytes o (map (λ l. Ok (library_row_fields l)) items) 0
  library_rows items is = ((items, ((libraries_by_kind_are m).lossy bytes o p items).1 is, refl), refl)

  pub rebase_rows : (items : List (Result Rebase Fault))
      → AreImageRebases (rebase_stream_in (bytes_view m) (commands_view m)) (chained_view m) (ctx_view m).le (pointer_size (ctx_view m).container)
      (segments_view m) items → HasRows words.Rebases bytes o (fields_read rebase_row_fields items) 0
  rebase_rows items is = ((items, ((rebases_are m).lossy bytes o p items).1 is, refl), refl)

  pub weak_rows : (items : List (Result WeakBind Fault))
      → AreImageWeakBinds (weak_stream_in (bytes_view m) (commands_view m)) (pointer_size (ctx_view m).container) (segments_view m) items
      → HasRows words.Weak bytes o (fields_read weak_row_fields items) 0
  weak_rows items is = ((items, ((weak_binds_are m).lossy bytes o p items).1 is, refl), refl)

  pub segment_rows : (rows : List (Result (List FieldView) Fault)) → rows ≡ segment_rows_from 0 (segments_view m) → HasRows words.Segments bytes o rows 0
  segment_rows rows is = (of_parts (λ f. rows ≡ segment_rows_from 0 f.segments) is, refl)

  pub section_rows : (items : List (Result SectionRow Fault)) (past : ℕ) → items ≡ section_rows_in 0 0 (segments_view m)
      → past ≡ sections_past (segments_view m) → HasRows words.Sections bytes o (fields_read section_part_fields items) past
  section_rows items past is is_past = of_parts
      (λ f. (fields_read section_part_fields items ≡ fields_read section_part_fields (section_rows_in 0 0 f.segments)) × (past ≡ sections_past f.segments))
      (ap (fields_read section_part_fields) is, is_past)

  pub uuid_rows : (items : List UuidRow) → items ≡ filter_map (uuid_row_by m.header) (commands_view m)
      → HasRows words.Uuid bytes o (map (λ u. Ok (uuid_part_fields u)) items) 0
  uuid_rows items is =
      let shown : List UuidRow → List (Result (List FieldView) Fault) = λ uuids. map (λ u. Ok (uuid_part_fields u)) uuids in
      (of_parts (λ f. shown items ≡ shown (filter_map (uuid_row_by f.header) f.commands)) (ap shown is), refl)

  pub rpath_rows : (rows : List (Result (List FieldView) Fault)) → rows ≡ rpath_rows_from 0 (texts m.rpaths.items) → HasRows words.Rpaths bytes o rows 0
  rpath_rows rows is = (of_parts (λ f. rows ≡ rpath_rows_from 0 f.run_paths) is, refl)

  pub entry_rows : (row : Option EntryView) → IsEntryRow m.entry (facts_view m) row → HasRows words.Entry bytes o (one_row entry_part_fields row) 0
  entry_rows row is =
      let point : EntryPoint = record { address = m.entry; old_style = m.old_style_entry } in (
        point,
        ((entry_point_is m).lossy bytes o p point).1 refl,
        of_parts (λ f. (seen : Option EntryView) × IsEntryRow m.entry f seen × (one_row entry_part_fields row ≡ one_row entry_part_fields seen))
            (row, is, refl),
        refl,
      )

  pub header_row : HasRows words.Header bytes o (Ok (header_part_fields m.header) ∷ []) 0
  header_row =
      let row : List (Result (List FieldView) Fault) = Ok (header_part_fields m.header) ∷ [] in
      (of_parts (λ f. row ≡ Ok (header_part_fields f.header) ∷ []) refl, refl)

  pub finding_rows : (items : List (Result Finding Fault)) → items ≡ all_findings (facts_view m)
      → HasRows words.Security bytes o (fields_read finding_fields items) 0
  finding_rows items is = ((items, of_parts (λ f. items ≡ all_findings f) is, refl), refl)

  pub explained_rows : (items : List (Result Finding Fault)) → items ≡ all_findings (facts_view m)
      → HasRows words.SecurityExplained bytes o (fields_read explained_fields items) 0
  explained_rows items is = ((items, of_parts (λ f. items ≡ all_findings f) is, refl), refl)

  pub own_name_rows : (items : List (Result OwnNameView Fault)) → items ≡ filter_map (own_name_by (bytes_view m)) (commands_view m)
      → HasRows words.Id bytes o (fields_read own_name_fields items) 0
  own_name_rows items is = (
    of_parts (λ f. fields_read own_name_fields items ≡ fields_read own_name_fields (filter_map (own_name_by f.bytes) f.commands))
        (ap (fields_read own_name_fields) is),
    refl,
  )

  pub relocation_rows : (items : List (Result RelocationView Fault)) (past : ℕ) → items ≡ image_relocations (facts_view m)
      → past ≡ image_relocations_past (facts_view m) → HasRows words.Relocations bytes o (fields_read relocation_row_fields items) past
  relocation_rows items past is is_past = of_parts
      (λ f. (fields_read relocation_row_fields items ≡ fields_read relocation_row_fields (image_relocations f)) × (past ≡ image_relocations_past f))
      (ap (fields_read relocation_row_fields) is, is_past)

  pub string_rows_are : (items : List (Result StringRowView Fault)) → items ≡ image_strings (facts_view m)
      → HasRows words.Strings bytes o (fields_read string_fields items) 0
  string_rows_are items is =
      (of_parts (λ f. fields_read string_fields items ≡ fields_read string_fields (image_strings f)) (ap (fields_read string_fields) is), refl)

  pub byte_rows_are : (name : SectionName) (items : List (Result (ℕ × List ℕ) Fault)) → items ≡ listed_bytes (bytes_held name (facts_view m))
      → HasRows (words.Bytes name) bytes o (fields_read byte_row_fields items) 0
  byte_rows_are name items is = (
    of_parts (λ f. fields_read byte_row_fields items ≡ fields_read byte_row_fields (listed_bytes (bytes_held name f))) (ap (fields_read byte_row_fields) is),
    refl,
  )

  pub import_fields_are : (parts : List SegmentStretches) (segments : List SegmentView) → HasSegments bytes o segments
      → parts ≡ parts_of (length bytes) segments → (items : List (Result Binding Fault))
      → AreImageBindings (binds_view m) (chained_view m) (pointer_size (ctx_view m).container) (texts m.libs.items) (segments_view m) items
      → o ≡ 0 → HasImportFields bytes (fields_of_imports parts items)
  import_fields_are parts segments has are items is start = record {
    segments = segments;
    has_segments = subst (λ (k : ℕ). HasSegments bytes k segments) start has;
    items = items;
    has_items = subst (λ (k : ℕ). HasBindings bytes k items) start (((bindings_are m).lossy bytes o p items).1 is);
    shown = ap (λ (known : List SegmentStretches). fields_of_imports known items) are;
  }

  pub init_fields_are : (items : List (Result Initializer Fault)) → (found : Result (List (Result Initializer Fault)) Fault)
      × AreImageInitializers (ctx_view m) (bytes_view m) (chained_view m) (segments_view m) found × (items ≡ listed_or_fault found)
      → (fields : List (Result (List FieldView) Fault)) → fields ≡ fields_read (init_fields (symbol_by_facts (facts_view m))) items
      → HasInitFields bytes o fields
  init_fields_are items has fields are = record {
    items = items;
    has_items = (has.0, ((initializers_are m).lossy bytes o p has.0).1 has.1, has.2);
    shown = of_parts (λ f. fields ≡ fields_read (init_fields (symbol_by_facts f)) items) are;
  }
