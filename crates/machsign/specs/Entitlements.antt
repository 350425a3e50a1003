-- The entitlements that the program writes of a file.
use Rattle.std.specs.Prelude.{◌≡◌, ◌==◌, ◌⊎◌, ℕ, List, [], ◌∷◌, codes, Bool, true, false, Option, Some, None, Result, Ok, Err}
use Rattle.std.specs.Prelude.{if◌then◌else◌}
use Rattle.mach_base.specs.Answer.{ErrorMeets}
use Rattle.mach_base.specs.Fault.{Fault}
use Rattle.mach_base.specs.declared.error.Error.{Error}
use Rattle.goblin_mach.specs.Facts.{OfImage}
use Rattle.goblin_mach.specs.Image.{ImageFault}
use Rattle.goblin_mach.specs.Inputs.{InputFault}
use Rattle.goblin_mach.specs.Items.{ContentView, ItemView, content_bytes}
use Rattle.goblin_mach.specs.declared.item.EntryCpu.{EntryCpu}
use Rattle.mach_signature.specs.SuperBlob.{SuperBlob, content_of}
use Rattle.mach_signature.specs.SignedImages.{image_signature}
use Rattle.goblin_mach.specs.View.{ReportsFault}
use Rattle.mach_cli.specs.Cpus.{IsTaken, is_of_cpu}
use Rattle.mach_cli.specs.Foreigners.{refused_words}
use Rattle.mach_cli.specs.PartsOf.{entry_counts, shown_items}
use Rattle.mach_cli.specs.Refusals.{complaint}
use Rattle.mach_cli.specs.TableEntries.{left_out_words}
use Rattle.mach_cli.specs.declared.cpu.Cpu.{Cpu}

-- the content, if it can be read
abbrev pub readable_content : Result (Option (List ℕ)) Fault → Option (List ℕ)
readable_content (Ok content) = content
readable_content (Err f) = None

-- the entitlements of a signature: the content after the header of the first blob of slot 5, if there is one that can be read
abbrev pub entitlements_of : Result (Option SuperBlob) Fault → Option (List ℕ)
entitlements_of (Ok (Some s)) = readable_content (content_of s 5)
entitlements_of (Ok None) = None
entitlements_of (Err f) = None

-- the entitlements of the image at o of the bytes
abbrev pub HasEntitlements : List ℕ → ℕ → Option (List ℕ) → Type 0
HasEntitlements bytes o found = OfImage bytes o (λ ctx cs. found ≡ entitlements_of (image_signature bytes cs))

-- whether an image is selected: by the cpu of its entry, or else by its header
abbrev pub IsSelectedImage : Cpu → Option EntryCpu → List ℕ → Bool → Type 0
IsSelectedImage cpu (Some entry) bytes selected = is_of_cpu cpu entry.cputype entry.cpusubtype ≡ selected
IsSelectedImage cpu None bytes selected = IsTaken cpu bytes selected

-- the entitlements of what is at a place of a file, if it is a selected image; what is no image has none
pub data EntitlesContent (cpu : Cpu) (entry : Option EntryCpu) (content : ContentView) : Option (List ℕ) → Type 0 where
  selected_entitles : (found : Option (List ℕ)) → IsSelectedImage cpu entry (content_bytes content) true → HasEntitlements (content_bytes content) 0 found
      → EntitlesContent cpu entry content found
  other_entitles : IsSelectedImage cpu entry (content_bytes content) false → EntitlesContent cpu entry content None
  refusal_entitles : (e : Error) → ReportsFault (ImageFault (content_bytes content) 0) e → EntitlesContent cpu entry content None

-- the entitlements of an item; an entry that can't be read has none
pub data EntitlesItem (cpu : Cpu) (x : ItemView) : Option (List ℕ) → Type 0 where
  content_entitles : (content : ContentView) (found : Option (List ℕ)) → x.content ≡ Ok content → EntitlesContent cpu x.place.cpu content found
      → EntitlesItem cpu x found
  fault_entitles : (f : Fault) (entry : ℕ) → x.content ≡ Err f → x.place.entry ≡ Some entry → EntitlesItem cpu x None

-- the entitlements of the first item that has some, if one does
pub data EntitlesItems (cpu : Cpu) : List ItemView → Option (List ℕ) → Type 0 where
  none_entitles : EntitlesItems cpu [] None
  first_entitles : (x : ItemView) (xs : List ItemView) (found : List ℕ) → EntitlesItem cpu x (Some found) → EntitlesItems cpu (x ∷ xs) (Some found)
  later_entitles : (x : ItemView) (xs : List ItemView) (found : Option (List ℕ)) → EntitlesItem cpu x None → EntitlesItems cpu xs found
      → EntitlesItems cpu (x ∷ xs) found

-- ---- why nothing is written

-- an item that can't be read refuses the file, unless it is an entry of a fat file
abbrev pub RefusesItem : ItemView → Fault → Type 0
RefusesItem x f = (x.content ≡ Err f) × (x.place.entry ≡ None)

-- the first of some items that refuses the file; none before it has entitlements
pub data RefusesItems (cpu : Cpu) : List ItemView → Fault → Type 0 where
  first_refuses : (x : ItemView) (xs : List ItemView) (f : Fault) → RefusesItem x f → RefusesItems cpu (x ∷ xs) f
  later_refuses : (x : ItemView) (xs : List ItemView) (f : Fault) → EntitlesItem cpu x None → RefusesItems cpu xs f → RefusesItems cpu (x ∷ xs) f

-- a fault of the file itself, or of such an item that is shown
abbrev pub EntitlementFault : Cpu → List ℕ → Fault → Type 0
EntitlementFault cpu bytes f = InputFault bytes f ⊎ RefusesItems cpu (shown_items bytes) f

-- why nothing is written of a file whose shown images have no entitlements: entries are left out, or no image has some
abbrev pub none_words : (left_out : ℕ) → List ℕ
none_words left_out = if left_out == 0 then codes "no entitlements" else left_out_words left_out

-- The line says that no selected image that is shown has entitlements, or that entries are left out; or why the file is refused, or
-- that an allocation is.
pub data SaysWhyNone (cpu : Cpu) (names bytes : List ℕ) : (said : List ℕ) → Type 0 where
  none_has_some : EntitlesItems cpu (shown_items bytes) None → SaysWhyNone cpu names bytes (complaint names (none_words (entry_counts bytes).left_out))
  file_is_refused : (e : Error) → ErrorMeets (EntitlementFault cpu bytes) e → SaysWhyNone cpu names bytes (complaint names (refused_words bytes e))
