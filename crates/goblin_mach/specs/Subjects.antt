-- What the commands of an image say, subject by subject: its libraries and names, segments, symbols, export trie and binds
-- (`mach-o/loader.h`).
use Rattle.std.specs.Prelude.{◌-◌, ℕ, List, ◌∷◌, codes, Bool, true, false, Option, Some, None, unwrap_or, if◌then◌else◌, option_map, [], Result, ◌≡◌, Ok}
use Rattle.mach_base.specs.Fault.{Fault}
use Rattle.mach_base.specs.Number.{place_after}
use Rattle.mach_base.specs.Record.{number_among, Value}
use Rattle.mach_base.specs.Text.{text_at}
use Rattle.mach_base.specs.declared.context.Ctx.{Ctx}
use Rattle.mach_records.specs.SymbolTables.{symtab_command_of_values}
use Rattle.mach_load.specs.Command.{Command}
use Rattle.mach_load.specs.Commands.{Kind, rpath, symtab, dyld_info, dyld_info_only, dyld_exports_trie, is_id}
use Rattle.mach_load.specs.Subjects.{is_library, segment_command_by}
use Rattle.mach_parts.specs.Segment.{SegmentView, widened, segment_at, lossy_segment_at}
use Rattle.mach_parts.specs.SymbolViews.{table_of}
use Rattle.mach_parts.specs.Symbols.{SymbolTable, symbols_of, table_at}
use Rattle.mach_parts.specs.declared.symbols.Symbols.{Symbols}
use Rattle.mach_parts.specs.declared.symbols.nlist.Nlist.{Nlist}
use Rattle.mach_dyld.specs.BindFault.{BindFault}
use Rattle.mach_dyld.specs.BindItems.{AreBindItems}
use Rattle.mach_dyld.specs.Imports.{BindRanges, Import, ListsImports, bind_ranges, input_in}
use Rattle.mach_dyld.specs.Streams.{Placed}
use Rattle.mach_dyld.specs.Trie.{Entry}
use Rattle.mach_dyld.specs.TrieRange.{TrieRange, empty_range, range_in, ListsExports, ExportsFault}
use Rattle.goblin_mach.specs.Readings.{Reading, read_of, last_of}

-- the command that names a path on which libraries are searched
abbrev pub is_run_path : Kind → Bool
is_run_path rpath = true
is_run_path _ = false

-- the place of the name of a library command, an id or a run path: its field `name` counts from the command's offset
abbrev pub name_place : Command → ℕ
name_place c = place_after c.offset (number_among c.values 2)

-- the name of a library that a command loads
abbrev pub library_by : List ℕ → Reading (List ℕ)
library_by bytes c = if is_library c.kind then Some (text_at bytes (name_place c)) else None

-- the name that a command gives the image
abbrev pub id_by : List ℕ → Reading (List ℕ)
id_by bytes c = if is_id c.kind then Some (text_at bytes (name_place c)) else None

-- the path that a command names
abbrev pub run_path_by : List ℕ → Reading (List ℕ)
run_path_by bytes c = if is_run_path c.kind then Some (text_at bytes (name_place c)) else None

-- the name of the image: that of its last id
abbrev pub own_name_in : List ℕ → List Command → Option (List ℕ)
own_name_in bytes cs = last_of (read_of (id_by bytes) cs)

-- its libraries: its own name or "self", then a name for each library command in order
abbrev pub libs_in : List ℕ → List Command → List (List ℕ)
libs_in bytes cs = unwrap_or (own_name_in bytes cs) (codes "self") ∷ read_of (library_by bytes) cs

-- the segment of a command with its data, or why its data aren't in the bytes
abbrev pub segment_by : Ctx → List ℕ → Reading SegmentView
segment_by ctx bytes c = option_map (segment_at ctx bytes c.offset) (segment_command_by widened c.kind c.values)

-- the same in lossy mode, which never fails: data that aren't in the bytes are empty
abbrev pub lossy_segment_by : Ctx → List ℕ → Reading SegmentView
lossy_segment_by ctx bytes c = option_map (lossy_segment_at ctx bytes c.offset) (segment_command_by widened c.kind c.values)

-- the segments of an image, in the order of their commands; data that aren't in the bytes are empty
abbrev pub lossy_segments_in : Ctx → List ℕ → List Command → List SegmentView
lossy_segments_in ctx bytes cs = read_of (lossy_segment_by ctx bytes) cs

-- the command that names symbols
abbrev pub is_symtab : Kind → Bool
is_symtab symtab = true
is_symtab _ = false

-- the symbols that a command names
abbrev pub table_by : Ctx → List ℕ → Reading SymbolTable
table_by ctx bytes c = if is_symtab c.kind then Some (table_at ctx bytes (symtab_command_of_values c.values)) else None

-- the symbols of the image: those of the last command that names any
abbrev pub table_in : Ctx → List ℕ → List Command → Option SymbolTable
table_in ctx bytes cs = last_of (read_of (table_by ctx bytes) cs)

-- the symbols of a table, if there is one, each with its name, or why it can't be read
abbrev pub symbols_in : Option SymbolTable → List (Result (List ℕ × Nlist) Fault)
symbols_in None = []
symbols_in (Some t) = symbols_of t

-- the symbols that are held
abbrev pub symbols_view : Option Symbols → List (Result (List ℕ × Nlist) Fault)
symbols_view symbols = symbols_in (option_map table_of symbols)

-- the range that a command names, if it names one
abbrev pub range_by : Kind → List ℕ → List Value → Option TrieRange
range_by dyld_info bytes values = Some (range_in bytes (number_among values 10) (number_among values 11))
range_by dyld_info_only bytes values = Some (range_in bytes (number_among values 10) (number_among values 11))
range_by dyld_exports_trie bytes values = Some (range_in bytes (number_among values 2) (number_among values 3))
range_by _ bytes values = None

-- the trie that a command names; reading it from a command never fails
abbrev pub trie_by : List ℕ → Reading TrieRange
trie_by bytes c = option_map (λ range. Ok range) (range_by c.kind bytes c.values)

-- the trie of an image: that of the last command that names one
abbrev pub trie_in : List ℕ → List Command → Option TrieRange
trie_in bytes cs = last_of (read_of (trie_by bytes) cs)

-- the exports of an image: those of its trie, or none if it has no trie
abbrev pub ListsImageExports : Option TrieRange → List (List ℕ) → List Entry → Type 0
ListsImageExports None libs list = list ≡ []
ListsImageExports (Some t) libs list = ListsExports t libs list

-- the range of an image's trie, or an empty range if it has none
abbrev pub trie_or_empty : Option TrieRange → TrieRange
trie_or_empty None = empty_range
trie_or_empty (Some t) = t

-- the number of bytes in the range of an image's trie
abbrev pub trie_len : Option TrieRange → ℕ
trie_len None = 0
trie_len (Some t) = t.upto - t.from

abbrev pub ImageExportsFault : Option TrieRange → List (List ℕ) → Fault → Type 0
ImageExportsFault None libs f = ⊥
ImageExportsFault (Some t) libs f = ExportsFault t libs f

-- the ranges in the four numbers of a command, if it names binds
abbrev pub bind_ranges_of : Kind → List ℕ → List Value → Option BindRanges
bind_ranges_of dyld_info bytes values = Some (bind_ranges bytes (number_among values 4) (number_among values 5) (number_among values 8) (number_among values 9))
bind_ranges_of dyld_info_only bytes values =
    Some (bind_ranges bytes (number_among values 4) (number_among values 5) (number_among values 8) (number_among values 9))
bind_ranges_of _ bytes values = None

-- the binds that a command names; reading them from a command never fails
abbrev pub binds_by : List ℕ → Reading BindRanges
binds_by bytes c = option_map (λ ranges. Ok ranges) (bind_ranges_of c.kind bytes c.values)

-- the binds of an image: those of the last command that names any
abbrev pub binds_in : List ℕ → List Command → Option BindRanges
binds_in bytes cs = last_of (read_of (binds_by bytes) cs)

-- the imports of an image: those of its binds, or none if it has no binds
abbrev pub ListsImageImports : Option BindRanges → ℕ → List (List ℕ) → List SegmentView → List Import → Type 0
ListsImageImports None pointer libs segments list = list ≡ []
ListsImageImports (Some b) pointer libs segments list = ListsImports b pointer libs segments list

abbrev pub ImageImportsFault : Option BindRanges → ℕ → List (List ℕ) → List SegmentView → Fault → Type 0
ImageImportsFault None pointer libs segments f = ⊥
ImageImportsFault (Some b) pointer libs segments f = BindFault b pointer libs segments f

-- the imports of an image one at a time, up to the first fault; none if it has no binds
abbrev pub AreImageBindItems : Option BindRanges → ℕ → List (List ℕ) → List SegmentView → List (Result Import Fault) → Type 0
AreImageBindItems None pointer libs segments items = items ≡ []
AreImageBindItems (Some b) pointer libs segments items =
    (ps : List Placed) × (qs : List Placed) × AreBindItems (input_in b pointer libs segments) b.non_lazy b.lazy ps qs items
