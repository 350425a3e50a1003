-- The lists of an image that words select, as rows of fields.
use Rattle.std.specs.Prelude.{◌≡◌, ℕ, ◌∷◌, ◌-◌, List, [], length, map, codes, Option, Result, Ok}
use Rattle.std.specs.List.{filter_map}
use Rattle.mach_base.specs.Fault.{Fault}
use Rattle.mach_base.specs.Items.{items_in_bounds}
use Rattle.mach_audit.specs.Security.{HasFindings}
use Rattle.mach_cli.specs.Fields.{FieldView}
use Rattle.goblin_mach.specs.EntryPoint.{EntryPoint}
use Rattle.goblin_mach.specs.Facts.{HasEntryPoint, HasLibrariesByKind}
use Rattle.goblin_mach.specs.ImageFacts.{OfFacts}
use Rattle.goblin_mach.specs.SlotFacts.{HasIndirectSymbols, HasSymbolSlots}
use Rattle.goblin_mach.specs.StreamFacts.{HasRebases, HasWeakBinds}
use Rattle.goblin_mach.specs.TableFacts.{HasFunctionStarts, HasDataInCode, HasLinkerOptions, HasBuildTools}
use Rattle.machinfo.specs.CommandRowFields.{command_row_fields}
use Rattle.machinfo.specs.CommandRows.{HasCommandRows}
use Rattle.machinfo.specs.NumberedCommands.{HasNumberedCommands, numbered_command_fields}
use Rattle.machinfo.specs.NumberedNotes.{HasNumberedNotes}
use Rattle.machinfo.specs.PartFields.{entry_part_fields, header_part_fields, one_row, rpath_rows_from, section_part_fields, segment_rows_from, uuid_part_fields}
use Rattle.machinfo.specs.Parts.{EntryView, IsEntryRow, uuid_row_by}
use Rattle.machinfo.specs.ProvidedSymbols.{HasProvidedSymbols, symbols_past_in}
use Rattle.machinfo.specs.OwnNames.{own_name_by, own_name_fields}
use Rattle.machinfo.specs.RowFields.{data_fields, fields_read, indirect_fields, library_row_fields, note_fields, option_fields}
use Rattle.machinfo.specs.Relocations.{image_relocations, image_relocations_past, relocation_row_fields}
use Rattle.machinfo.specs.RowFields.{provided_fields, rebase_row_fields, slot_fields, start_fields, tool_fields, weak_row_fields}
use Rattle.machinfo.specs.SectionBytes.{byte_row_fields, bytes_held, listed_bytes}
use Rattle.machinfo.specs.SectionContents.{image_strings, string_fields}
use Rattle.machinfo.specs.SectionRows.{section_rows_in, sections_past}
use Rattle.machinfo.specs.Verdicts.{explained_fields, finding_fields}
use Rattle.machinfo.specs.declared.word.Word.{Word}
use Rattle.machinfo.specs.declared.word.Word.TheVariants as words

-- these are the fields of the items of a list that `Has` gives, or the fault in the place of one that can't be read
abbrev pub AreFieldsOf : {X : Type 0} → (X → List FieldView) → (List (Result X Fault) → Type 0) → List (Result (List FieldView) Fault) → Type 0
AreFieldsOf {X} fields Has rows = (items : List (Result X Fault)) × Has items × (rows ≡ fields_read fields items)

-- the same of items that can all be read
abbrev pub AreFieldsOfAll : {X : Type 0} → (X → List FieldView) → (List X → Type 0) → List (Result (List FieldView) Fault) → Type 0
AreFieldsOfAll {X} fields Has rows = (items : List X) × Has items × (rows ≡ map (λ x. Ok (fields x)) items)

-- the same of the items of a table whose records begin within the bytes; `past` more are claimed
abbrev pub AreFieldsWithin : {X : Type 0} → (X → List FieldView) → (List (Result X Fault) → Type 0) → List (Result (List FieldView) Fault) → (past : ℕ) → Type 0
AreFieldsWithin {X} fields Has rows past =
    (items : List (Result X Fault)) × Has items × (rows ≡ fields_read fields (items_in_bounds items)) × (past ≡ length items - length (items_in_bounds items))

-- The rows of a word's list, of the image at an offset: the fields of each item of the list, in order, or the fault in its place if
-- it can't be read. Of a table they are the rows that begin within the bytes, and `past` more are claimed.
abbrev pub HasRows : Word → List ℕ → ℕ → (rows : List (Result (List FieldView) Fault)) → (past : ℕ) → Type 0
HasRows words.Commands bytes o rows past = AreFieldsOfAll command_row_fields (HasCommandRows bytes o) rows × (past ≡ 0)
HasRows words.CommandsAlone bytes o rows past = AreFieldsOfAll numbered_command_fields (HasNumberedCommands bytes o) rows × (past ≡ 0)
HasRows words.Starts bytes o rows past = AreFieldsOf start_fields (HasFunctionStarts bytes o) rows × (past ≡ 0)
HasRows words.Slots bytes o rows past = AreFieldsOf slot_fields (HasSymbolSlots bytes o) rows × (past ≡ 0)
HasRows words.Indirect bytes o rows past = AreFieldsWithin indirect_fields (HasIndirectSymbols bytes o) rows past
HasRows words.Data bytes o rows past = AreFieldsWithin data_fields (HasDataInCode bytes o) rows past
HasRows words.Options bytes o rows past = AreFieldsOf option_fields (HasLinkerOptions bytes o) rows × (past ≡ 0)
HasRows words.Tools bytes o rows past = AreFieldsOf tool_fields (HasBuildTools bytes o) rows × (past ≡ 0)
HasRows words.Notes bytes o rows past = AreFieldsOf note_fields (HasNumberedNotes bytes o) rows × (past ≡ 0)
HasRows words.Providers bytes o rows past =
    AreFieldsOf provided_fields (HasProvidedSymbols bytes o) rows × OfFacts bytes o (λ f. past ≡ symbols_past_in f.symbols)
HasRows words.Libraries bytes o rows past = AreFieldsOfAll library_row_fields (HasLibrariesByKind bytes o) rows × (past ≡ 0)
HasRows words.Id bytes o rows past =
    OfFacts bytes o (λ f. rows ≡ fields_read own_name_fields (filter_map (own_name_by f.bytes) f.commands)) × (past ≡ 0)
HasRows words.Rebases bytes o rows past = AreFieldsOf rebase_row_fields (HasRebases bytes o) rows × (past ≡ 0)
HasRows words.Weak bytes o rows past = AreFieldsOf weak_row_fields (HasWeakBinds bytes o) rows × (past ≡ 0)
HasRows words.Segments bytes o rows past = OfFacts bytes o (λ f. rows ≡ segment_rows_from 0 f.segments) × (past ≡ 0)
HasRows words.Sections bytes o rows past =
    OfFacts bytes o (λ f. (rows ≡ fields_read section_part_fields (section_rows_in 0 0 f.segments)) × (past ≡ sections_past f.segments))
HasRows words.Uuid bytes o rows past =
    OfFacts bytes o (λ f. rows ≡ map (λ u. Ok (uuid_part_fields u)) (filter_map (uuid_row_by f.header) f.commands)) × (past ≡ 0)
HasRows words.Rpaths bytes o rows past = OfFacts bytes o (λ f. rows ≡ rpath_rows_from 0 f.run_paths) × (past ≡ 0)
HasRows words.Entry bytes o rows past =
    (point : EntryPoint) × HasEntryPoint bytes o point
    × OfFacts bytes o (λ f. (row : Option EntryView) × IsEntryRow point.address f row × (rows ≡ one_row entry_part_fields row)) × (past ≡ 0)
HasRows words.Header bytes o rows past = OfFacts bytes o (λ f. rows ≡ Ok (header_part_fields f.header) ∷ []) × (past ≡ 0)
HasRows words.Security bytes o rows past = AreFieldsOf finding_fields (HasFindings bytes o) rows × (past ≡ 0)
HasRows words.SecurityExplained bytes o rows past = AreFieldsOf explained_fields (HasFindings bytes o) rows × (past ≡ 0)
HasRows words.Relocations bytes o rows past =
    OfFacts bytes o (λ f. (rows ≡ fields_read relocation_row_fields (image_relocations f)) × (past ≡ image_relocations_past f))
HasRows words.Strings bytes o rows past = OfFacts bytes o (λ f. rows ≡ fields_read string_fields (image_strings f)) × (past ≡ 0)
HasRows (words.Bytes name) bytes o rows past =
    OfFacts bytes o (λ f. rows ≡ fields_read byte_row_fields (listed_bytes (bytes_held name f))) × (past ≡ 0)

-- the name of a word's items, if more of them may be claimed past the end of the bytes
abbrev pub past_name : Word → List ℕ
past_name words.Indirect = codes "indirect symbols"
past_name words.Data = codes "data in code entries"
past_name words.Providers = codes "symbols"
past_name words.Sections = codes "sections"
past_name words.Relocations = codes "relocations"
past_name _ = []

-- This is so of the rows of a word's list of the image at the start of the bytes, and of how many more it claims.
pub record OfRows (word : Word) (bytes : List ℕ) (Says : List (Result (List FieldView) Fault) → (past : ℕ) → Type 0) : Type 0 where
  pub rows : List (Result (List FieldView) Fault)
  pub past : ℕ
  pub has_rows : HasRows word bytes 0 rows past
  pub says : Says rows past
