-- What the bytes say of the tables of the image that opens at a place.
use Rattle.std.specs.Prelude.{◌≡◌, ℕ, List, Result}
use Rattle.mach_base.specs.Fault.{Fault}
use Rattle.mach_records.specs.declared.linkedit.DataInCodeEntry.{DataInCodeEntry}
use Rattle.mach_records.specs.declared.versions.BuildToolVersion.{BuildToolVersion}
use Rattle.mach_load.specs.BuildTools.{build_tools_in}
use Rattle.mach_load.specs.LinkerOptions.{linker_options_in}
use Rattle.mach_load.specs.Notes.{NoteView, notes_of_commands}
use Rattle.goblin_mach.specs.Facts.{OfImage}
use Rattle.goblin_mach.specs.Fixups.{base_of}
use Rattle.goblin_mach.specs.Subjects.{lossy_segments_in}
use Rattle.goblin_mach.specs.Tables.{AreStartsAt, data_in_code_there, data_place_in, starts_place_in}

-- the addresses of its functions, up to the first fault
abbrev pub HasFunctionStarts : List ℕ → ℕ → List (Result ℕ Fault) → Type 0
HasFunctionStarts bytes o items =
    OfImage bytes o (λ ctx cs. AreStartsAt bytes (starts_place_in cs) (base_of (lossy_segments_in ctx bytes cs)) items)

-- its data-in-code entries
abbrev pub HasDataInCode : List ℕ → ℕ → List (Result DataInCodeEntry Fault) → Type 0
HasDataInCode bytes o items = OfImage bytes o (λ ctx cs. items ≡ data_in_code_there ctx.le bytes (data_place_in cs))

-- its options for the linker, up to the first fault
abbrev pub HasLinkerOptions : List ℕ → ℕ → List (Result (ℕ × List ℕ) Fault) → Type 0
HasLinkerOptions bytes o items = OfImage bytes o (λ ctx cs. items ≡ linker_options_in bytes cs)

-- the tools that it was built with, up to the first fault
abbrev pub HasBuildTools : List ℕ → ℕ → List (Result (ℕ × BuildToolVersion) Fault) → Type 0
HasBuildTools bytes o items = OfImage bytes o (λ ctx cs. items ≡ build_tools_in ctx.le bytes cs)

-- its notes
abbrev pub HasNotes : List ℕ → ℕ → List (Result NoteView Fault) → Type 0
HasNotes bytes o items = OfImage bytes o (λ ctx cs. items ≡ notes_of_commands bytes cs)
