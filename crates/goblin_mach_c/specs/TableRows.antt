-- The tables that load commands place or hold as C sees them: data in code, indirect symbols, notes, tools, options.
use Rattle.std.specs.Prelude.{ℕ, ◌-◌, List, map, length, take, Option, option_map, Result, Ok, Err}
use Rattle.mach_base.specs.Answer.{◌>>=◌}
use Rattle.mach_base.specs.declared.context.Endian.{Endian}
use Rattle.mach_base.specs.Fault.{Fault}
use Rattle.mach_base.specs.Items.{items_from}
use Rattle.mach_base.specs.Number.{place_after}
use Rattle.mach_load.specs.Command.{Command}
use Rattle.mach_records.specs.declared.linkedit.DataInCodeEntry.{DataInCodeEntry}
use Rattle.mach_records.specs.declared.versions.BuildToolVersion.{BuildToolVersion}
use Rattle.mach_parts.specs.declared.indirect.IndirectSymbol.{IndirectSymbol}
use Rattle.mach_parts.specs.declared.indirect.IndirectSymbol.TheVariants.{Symbol, Local, Absolute, LocalAbsolute}
use Rattle.mach_load.specs.BuildTools.{ToolTable, numbered_tools, tools_of}
use Rattle.mach_load.specs.LinkerOptions.{OptionTexts, option_at, option_place, option_texts}
use Rattle.mach_load.specs.Notes.{NoteView, note_at, note_range}
use Rattle.goblin_mach.specs.ImageSlots.{indirect_symbols_in, indirect_table_in}
use Rattle.goblin_mach.specs.Tables.{data_in_code_there, data_place_in}
use Rattle.goblin_mach_c.specs.Codes.{code_of_fault}
use Rattle.goblin_mach_c.specs.CommandRows.{gm_commands_view}
use Rattle.goblin_mach_c.specs.Listed.{listed_in}
use Rattle.goblin_mach_c.specs.PartRows.{rows_of}
use Rattle.goblin_mach_c.specs.CViews.{gm_ctx_view}
use Rattle.goblin_mach_c.specs.declared.data_in_code.gm_data_in_code_entry.{gm_data_in_code_entry}
use Rattle.goblin_mach_c.specs.declared.images.gm_image.{gm_image}
use Rattle.goblin_mach_c.specs.declared.indirect.gm_indirect_symbol.{gm_indirect_symbol}
use Rattle.goblin_mach_c.specs.declared.listed.CommandItems.{CommandItems}
use Rattle.goblin_mach_c.specs.declared.notes.gm_note.{gm_note}
use Rattle.goblin_mach_c.specs.declared.options.gm_linker_option.{gm_linker_option}
use Rattle.goblin_mach_c.specs.declared.tools.gm_build_tool.{gm_build_tool}

-- ---- data in code

-- an entry, or why it can't be read
abbrev pub data_in_code_row : Result DataInCodeEntry Fault → gm_data_in_code_entry
data_in_code_row (Ok e) = record { offset = e.offset; length = e.length; kind = e.kind; code = 0 }
data_in_code_row (Err f) = record { offset = 0; length = 0; kind = 0; code = code_of_fault f }

-- the rows of an image
abbrev pub data_in_code_rows : List ℕ → gm_image → List gm_data_in_code_entry
data_in_code_rows bytes image = map data_in_code_row (data_in_code_there (gm_ctx_view image).le bytes (data_place_in (gm_commands_view bytes image)))

-- ---- indirect symbols

-- 0 the number of a symbol, 1 the image's own, 2 an absolute number, 3 both
abbrev pub indirect_kind_number : IndirectSymbol → ℕ
indirect_kind_number (Symbol number) = 0
indirect_kind_number Local = 1
indirect_kind_number Absolute = 2
indirect_kind_number LocalAbsolute = 3

-- the number of the symbol, 0 for other entries
abbrev pub indirect_number : IndirectSymbol → ℕ
indirect_number (Symbol number) = number
indirect_number Local = 0
indirect_number Absolute = 0
indirect_number LocalAbsolute = 0

-- an entry, or why it can't be read
abbrev pub indirect_row : Result IndirectSymbol Fault → gm_indirect_symbol
indirect_row (Ok s) = record { kind = indirect_kind_number s; symbol = indirect_number s; code = 0 }
indirect_row (Err f) = record { kind = 0; symbol = 0; code = code_of_fault f }

-- the rows of an image
abbrev pub indirect_rows : List ℕ → gm_image → List gm_indirect_symbol
indirect_rows bytes image = map indirect_row (indirect_symbols_in (indirect_table_in (gm_ctx_view image) bytes (gm_commands_view bytes image)))

-- ---- notes

-- The note of the command at `command`, which gives its data at `place`, or why it can't be read.
abbrev pub note_row : ℕ → ℕ → Result NoteView Fault → gm_note
note_row command place (Ok n) =
    record {
      command = command;
      owner = place_after command 8;
      owner_len = length n.owner;
      place = place;
      size = length n.data_bytes;
      code = 0;
      reserved = 0;
    }
note_row command place (Err f) =
    record { command = command; owner = 0; owner_len = 0; place = 0; size = 0; code = code_of_fault f; reserved = 0 }

abbrev pub note_row_at : List ℕ → ℕ → ℕ × ℕ → gm_note
note_row_at bytes command range = note_row command range.0 (note_at bytes command range.0 range.1)

-- the note of a command, if it is one
abbrev pub note_row_by : List ℕ → Command → Option gm_note
note_row_by bytes c = option_map (note_row_at bytes c.offset) (note_range c.kind c.values)

-- the rows of an image
abbrev pub note_rows : List ℕ → gm_image → List gm_note
note_rows bytes image = rows_of (note_row_by bytes) (gm_commands_view bytes image)

-- ---- tools

-- a tool with the place of its command, or the fault that ends them
abbrev pub build_tool_row : Result (ℕ × BuildToolVersion) Fault → gm_build_tool
build_tool_row (Ok found) = record { command = found.0; tool = found.1.tool; version = found.1.version; code = 0; reserved = 0 }
build_tool_row (Err f) = record { command = 0; tool = 0; version = 0; code = code_of_fault f; reserved = 0 }

-- the tools of a command, each with the command's place
abbrev pub tools_of_command : Endian → List ℕ → Command → List (Result (ℕ × BuildToolVersion) Fault)
tools_of_command le bytes c = tools_of le bytes c.offset c

-- the rows of an image, up to the first fault
abbrev pub build_tool_rows : List ℕ → gm_image → List gm_build_tool
build_tool_rows bytes image = map build_tool_row (listed_in (tools_of_command (gm_ctx_view image).le bytes) (gm_commands_view bytes image))

-- what is left of a command's tools
abbrev pub tools_in_part : CommandItems → ToolTable
tools_in_part p = record { place = p.place; size = p.end; count = p.count }

abbrev pub tools_of_part : Endian → List ℕ → CommandItems → List (Result (ℕ × BuildToolVersion) Fault)
tools_of_part le bytes p = numbered_tools le bytes p.command (tools_in_part p) p.index (p.count - p.index)

-- ---- options

-- an option with the places of its command and its text, or the fault that ends them
abbrev pub linker_option_row : Result (ℕ × ℕ × List ℕ) Fault → gm_linker_option
linker_option_row (Ok found) = record { command = found.0; text = found.1; text_len = length found.2; code = 0; reserved = 0 }
linker_option_row (Err f) = record { command = 0; text = 0; text_len = 0; code = code_of_fault f; reserved = 0 }

-- the text at a place, with the place
abbrev pub placed_option : List ℕ → ℕ → Result (ℕ × List ℕ) Fault
placed_option bytes s = option_at bytes s >>= (λ text. Ok (s, text))

abbrev pub placed_options : OptionTexts → List (Result (ℕ × List ℕ) Fault)
placed_options t = items_from (λ k. placed_option t.bytes (option_place t.bytes t.place k)) 0 t.count

abbrev pub with_command : ℕ → Result (ℕ × List ℕ) Fault → Result (ℕ × ℕ × List ℕ) Fault
with_command command (Ok found) = Ok (command, found.0, found.1)
with_command command (Err f) = Err f

abbrev pub options_of_command : List ℕ → Command → List (Result (ℕ × ℕ × List ℕ) Fault)
options_of_command bytes c = map (with_command c.offset) (placed_options (option_texts bytes c))

-- the rows of an image, up to the first fault
abbrev pub linker_option_rows : List ℕ → gm_image → List gm_linker_option
linker_option_rows bytes image = map linker_option_row (listed_in (options_of_command bytes) (gm_commands_view bytes image))

-- what is left of a command's options
abbrev pub texts_in_part : List ℕ → CommandItems → OptionTexts
texts_in_part bytes p = record { bytes = take p.end bytes; place = p.place; count = p.count }

abbrev pub options_of_part : List ℕ → CommandItems → List (Result (ℕ × ℕ × List ℕ) Fault)
options_of_part bytes p = map (with_command p.command) (placed_options (texts_in_part bytes p))
