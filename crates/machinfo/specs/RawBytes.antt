-- The bytes of a section that are written as they are.
use Rattle.std.specs.Prelude.{◌≡◌, ◌≢◌, ◌⊎◌, ℕ, List, [], ◌∷◌, length, Bool, Option, Some, None, Result, Ok, Err, if◌then◌else◌}
use Rattle.std.specs.Borrow.{Bor}
use Rattle.mach_base.specs.Answer.{◌>>=◌, ErrorMeets}
use Rattle.mach_base.specs.Fault.{Fault}
use Rattle.mach_base.specs.declared.error.Error.{Error}
use Rattle.mach_dyld.specs.Exports.{text_in}
use Rattle.goblin_mach.specs.Image.{ImageFault}
use Rattle.goblin_mach.specs.ImageFacts.{Facts, OfFacts}
use Rattle.goblin_mach.specs.Inputs.{InputFault}
use Rattle.goblin_mach.specs.Items.{ContentView, ItemView, content_bytes}
use Rattle.goblin_mach.specs.declared.item.EntryCpu.{EntryCpu}
use Rattle.mach_cli.specs.Cpus.{is_of_cpu}
use Rattle.mach_cli.specs.PartsOf.{shown_items}
use Rattle.mach_cli.specs.Selected.{selected_parts}
use Rattle.mach_cli.specs.declared.cpu.Cpu.{Cpu}
use Rattle.machinfo.specs.SectionBytes.{bytes_held}
use Rattle.machinfo.specs.declared.section_bytes.SectionName.{SectionName}

-- whether an image is selected: by the cpu of its entry, or else by its header
abbrev pub is_image_for : Cpu → Option EntryCpu → Facts → Bool
is_image_for cpu (Some entry) f = is_of_cpu cpu entry.cputype entry.cpusubtype
is_image_for cpu None f = is_of_cpu cpu f.header.cputype f.header.cpusubtype

-- the bytes of an image's first section with these names, if the image is selected
abbrev pub raw_held : Cpu → Option EntryCpu → SectionName → Facts → Result (Option (List ℕ)) Fault
raw_held cpu entry name f = if is_image_for cpu entry f then bytes_held name f >>= (λ found. Ok (Some found.1)) else Ok None

-- The answer is what there is, or an error that reports a fault for which there is nothing, or refused memory.
abbrev pub AnswersRaw : (Result (Option (List ℕ)) Fault → Type 0) → Result (Option (Bor (List ℕ))) Error → Type 0
AnswersRaw Has (Ok found) = Has (Ok (text_in found))
AnswersRaw Has (Err e) = ErrorMeets (λ f. Has (Err f)) e

-- What the content of an item has: those bytes of its image, or the fault for which no image opens.
pub data ContentHasRaw (cpu : Cpu) (entry : Option EntryCpu) (name : SectionName) (content : ContentView) : Result (Option (List ℕ)) Fault → Type 0 where
  raw_of_image : (there : Result (Option (List ℕ)) Fault) → OfFacts (content_bytes content) 0 (λ f. there ≡ raw_held cpu entry name f)
      → ContentHasRaw cpu entry name content there
  raw_of_no_image : (f : Fault) → ImageFault (content_bytes content) 0 f → ContentHasRaw cpu entry name content (Err f)

-- The same of an item, which may be unreadable.
pub data ItemHasRaw (cpu : Cpu) (name : SectionName) (x : ItemView) : Result (Option (List ℕ)) Fault → Type 0 where
  raw_of_content : (content : ContentView) (there : Result (Option (List ℕ)) Fault) → x.content ≡ Ok content
      → ContentHasRaw cpu x.place.cpu name content there → ItemHasRaw cpu name x there
  raw_unread : (f : Fault) → x.content ≡ Err f → ItemHasRaw cpu name x (Err f)

-- The same of the one item that is selected among some; they have nothing if not exactly one is.
pub data ItemsHaveRaw (cpu : Cpu) (name : SectionName) (xs : List ItemView) : Result (Option (List ℕ)) Fault → Type 0 where
  raw_of_one : (x : ItemView) (there : Result (Option (List ℕ)) Fault) → selected_parts cpu xs ≡ x ∷ [] → ItemHasRaw cpu name x there
      → ItemsHaveRaw cpu name xs there
  raw_of_others : length (selected_parts cpu xs) ≢ 1 → ItemsHaveRaw cpu name xs (Ok None)

-- The same of a file, or the fault for which the file isn't read.
pub data HasRawBytes (cpu : Cpu) (name : SectionName) (bytes : List ℕ) : Result (Option (List ℕ)) Fault → Type 0 where
  raw_of_items : (there : Result (Option (List ℕ)) Fault) → ItemsHaveRaw cpu name (shown_items bytes) there → HasRawBytes cpu name bytes there
  raw_of_no_file : (f : Fault) → InputFault bytes f → HasRawBytes cpu name bytes (Err f)

-- Nothing is written: the file has nothing, or an error reports a fault or refused memory.
abbrev pub NoRawBytes : Cpu → SectionName → (bytes : List ℕ) → Type 0
NoRawBytes cpu name bytes = HasRawBytes cpu name bytes (Ok None) ⊎ ((e : Error) × ErrorMeets (λ f. HasRawBytes cpu name bytes (Err f)) e)
