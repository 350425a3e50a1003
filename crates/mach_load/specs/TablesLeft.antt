-- What contracts see of the tables, and what is left of the iterators over them.
use Rattle.std.specs.Prelude.{ℕ, ◌-◌, List, map, drop, Result}
use Rattle.std.specs.Borrow.{Bor}
use Rattle.std.specs.Slice.Iter.{iter_rest}
use Rattle.mach_base.specs.declared.error.Error.{Error}
use Rattle.mach_base.specs.Fault.{Fault}
use Rattle.mach_base.specs.Items.{items_from, read_as}
use Rattle.mach_load.specs.Variants.{command_of}
use Rattle.mach_records.specs.declared.linkedit.DataInCodeEntry.{DataInCodeEntry}
use Rattle.mach_records.specs.declared.versions.BuildToolVersion.{BuildToolVersion}
use Rattle.mach_load.specs.FunctionStarts.{StartRange, starts_after}
use Rattle.mach_load.specs.DataInCode.{data_in_code_item}
use Rattle.mach_load.specs.CommandLists.{followed_by, listed_by}
use Rattle.mach_load.specs.LinkerOptions.{OptionTexts, numbered_options, options_of}
use Rattle.mach_load.specs.BuildTools.{ToolTable, numbered_tools, tools_of}
use Rattle.mach_load.specs.Notes.{NoteView, notes_of_commands}
use Rattle.mach_load.specs.declared.function_starts.FunctionStarts.{FunctionStarts}
use Rattle.mach_load.specs.declared.function_starts.FunctionStartIterator.{FunctionStartIterator}
use Rattle.mach_load.specs.declared.data_in_code.DataInCodeIterator.{DataInCodeIterator}
use Rattle.mach_load.specs.declared.linker_options.Texts.{Texts}
use Rattle.mach_load.specs.declared.linker_options.LinkerOptionIterator.{LinkerOptionIterator}
use Rattle.mach_load.specs.declared.build_tools.Tools.{Tools}
use Rattle.mach_load.specs.declared.build_tools.BuildToolIterator.{BuildToolIterator}
use Rattle.mach_load.specs.declared.notes.Note.{Note}
use Rattle.mach_load.specs.declared.notes.NoteIterator.{NoteIterator}

-- ---- function starts

abbrev pub start_range_of : FunctionStarts → StartRange
start_range_of s = record { bytes = s.bytes.now; from = s.start; upto = s.end }

-- a start, as it was returned
abbrev pub start_read : Result ℕ Error → Result ℕ Fault
start_read item = read_as (λ address. address) item

abbrev pub starts_left : FunctionStartIterator → List (Result ℕ Fault)
starts_left it = starts_after it.bytes.now it.upto it.place it.address

-- ---- data in code

abbrev pub data_in_code_read : Result DataInCodeEntry Error → Result DataInCodeEntry Fault
data_in_code_read item = read_as (λ entry. entry) item

abbrev pub data_in_code_left : DataInCodeIterator → List (Result DataInCodeEntry Fault)
data_in_code_left it = items_from (data_in_code_item it.le it.bytes.now it.start) it.index (it.count - it.index)

-- ---- options

-- the remaining texts of one command
abbrev pub texts_view : Texts → OptionTexts
texts_view t = record { bytes = t.bytes.now; place = t.place; count = t.count }

abbrev pub option_read : Result (ℕ × Bor (List ℕ)) Error → Result (ℕ × List ℕ) Fault
option_read item = read_as (λ found. (found.0, found.1.now)) item

abbrev pub options_left : LinkerOptionIterator → List (Result (ℕ × List ℕ) Fault)
options_left it =
    followed_by (numbered_options it.number (texts_view it.texts)) (listed_by (options_of it.bytes.now) it.next (map command_of (drop it.next it.commands.now)))

-- ---- tools

-- the tools of one command
abbrev pub tools_view : Tools → ToolTable
tools_view t = record { place = t.place; size = t.size; count = t.count }

abbrev pub build_tool_read : Result (ℕ × BuildToolVersion) Error → Result (ℕ × BuildToolVersion) Fault
build_tool_read item = read_as (λ found. found) item

abbrev pub build_tools_left : BuildToolIterator → List (Result (ℕ × BuildToolVersion) Fault)
build_tools_left it =
    let t = it.tools in
    followed_by (numbered_tools it.le it.bytes.now it.number (tools_view t) t.index (t.count - t.index))
    (listed_by (tools_of it.le it.bytes.now) it.next (map command_of (drop it.next it.commands.now)))

-- ---- notes

abbrev pub note_view : Note → NoteView
note_view n = record { owner = n.owner.now; data_bytes = n.data.now }

abbrev pub note_read : Result Note Error → Result NoteView Fault
note_read item = read_as note_view item

abbrev pub notes_left : NoteIterator → List (Result NoteView Fault)
notes_left it = notes_of_commands it.bytes.now (map command_of (iter_rest it.commands))
