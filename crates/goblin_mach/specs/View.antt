-- What a whole file links: the lists of its images, and its archives (`mach-o/fat.h`, dyld).
use Rattle.std.specs.Prelude.{◌≡◌, ◌⊎◌, ℕ, List, [], ◌∷◌, Result, Ok, Err, IsOk}
use Rattle.mach_base.specs.Context.{pointer_size}
use Rattle.mach_base.specs.Fault.{Fault, bad_magic, malformed, too_short, fault_of_scroll}
use Rattle.mach_base.specs.declared.error.Error.TheVariants as errors
use Rattle.mach_base.specs.declared.error.Error.{Error}
use Rattle.mach_dyld.specs.BindViews.{bind_imports_view}
use Rattle.mach_dyld.specs.Exports.{entries}
use Rattle.mach_base.specs.Text.{texts}
use Rattle.mach_dyld.specs.Imports.{Import}
use Rattle.mach_dyld.specs.Trie as trie
use Rattle.goblin_mach.specs.Facts.{HasExports, HasExportsFault, HasImports, HasImportsFault}
use Rattle.goblin_mach.specs.FatEntry.{FatEntry, image, entries_of, FatEntryFault, archive}
use Rattle.goblin_mach.specs.FatFile.{FatFile, fat_file_in, arches_in}
use Rattle.goblin_mach.specs.Image.{Opens, ImageFault}
use Rattle.goblin_mach.specs.File.{HasFatMagic, MachFault}
use Rattle.goblin_mach.specs.OpenImage.{trie_view, binds_view, ctx_view, segments_view}
use Rattle.goblin_mach.specs.Subjects.{ListsImageImports, ImageImportsFault, ListsImageExports, ImageExportsFault}
use Rattle.goblin_mach.specs.declared.macho.MachO.{MachO}
use Rattle.goblin_mach.specs.declared.view.LinkView.TheVariants.{Image, Archive}
use Rattle.goblin_mach.specs.declared.view.LinkView.{LinkView}
use Rattle.goblin_mach.specs.declared.view.Links.{Links}

-- These are the exports and the imports of the image at 0, which opens strictly.
pub record LinksImage (bytes : List ℕ) (exports : List trie.Entry) (imports : List Import) : Type 0 where
  pub opens : Opens bytes 0
  pub exports_are : HasExports bytes 0 exports
  pub imports_are : HasImports bytes 0 imports

-- A fault in the exports or in the imports of the image at 0, which opens strictly.
pub record LinksFault (bytes : List ℕ) (f : Fault) : Type 0 where
  pub opens : Opens bytes 0
  pub fault : HasExportsFault bytes 0 f ⊎ HasImportsFault bytes 0 f

-- A fault in an item: in the entry, or in a list of the image that it is.
pub data ItemFault (entry : Result FatEntry Fault) : Fault → Type 0 where
  of_entry : (f : Fault) → FatEntryFault entry f → ItemFault entry f
  of_links : (slice : List ℕ) (f : Fault) → entry ≡ Ok (image slice) → LinksFault slice f → ItemFault entry f

-- These are the entries of a whole file: that of its one image, which opens, or those of a fat file whose table lies in the bytes.
pub data HasEntries (bytes : List ℕ) : List (Result FatEntry Fault) → Type 0 where
  one_image : Opens bytes 0 → ¬ (HasFatMagic bytes) → HasEntries bytes (Ok (image bytes) ∷ [])
  fat_table : (file : FatFile) → HasFatMagic bytes → fat_file_in bytes ≡ Ok file → IsOk (arches_in file) → HasEntries bytes (entries_of file)

-- A fault of a whole file: of opening it, or of the table of a fat file.
pub data ViewFault (bytes : List ℕ) : Fault → Type 0 where
  of_file : (f : Fault) → MachFault ImageFault bytes f → ViewFault bytes f
  of_table : (file : FatFile) (f : Fault) → HasFatMagic bytes → fat_file_in bytes ≡ Ok file → arches_in file ≡ Err f → ViewFault bytes f

-- the two lists are those of an image, as it holds them
pub record LinksHeld {A B : Type 0} (m : MachO A) (l : Links B) : Type 0 where
  pub exports : ListsImageExports (trie_view m) (texts m.libs.items) (entries l.exports.items)
  pub imports : ListsImageImports (binds_view m) (pointer_size (ctx_view m).container) (texts m.libs.items) (segments_view m)
      (bind_imports_view l.imports.items)

-- a fault occurs in one of them
abbrev pub FaultHeld : {A : Type 0} → MachO A → Fault → Type 0
FaultHeld m f =
    ImageExportsFault (trie_view m) (texts m.libs.items) f
    ⊎ ImageImportsFault (binds_view m) (pointer_size (ctx_view m).container) (texts m.libs.items) (segments_view m) f

-- what an item holds of an entry: an archive's bytes, or the two lists of an image
abbrev pub ImageView : {A : Type 0} → FatEntry → LinkView A → Type 0
ImageView (archive slice) (Archive bytes) = bytes.now ≡ slice
ImageView (archive slice) (Image exports imports) = ⊥
ImageView (image slice) (Archive bytes) = ⊥
ImageView (image slice) (Image exports imports) = LinksImage slice (entries exports.items) (bind_imports_view imports.items)

-- the error is a fault of this kind; out of memory is an error of the whole file only
abbrev pub ReportsFault : (Fault → Type 0) → Error → Type 0
ReportsFault IsFault (errors.Malformed msg) = IsFault malformed
ReportsFault IsFault (errors.BadMagic magic) = IsFault (bad_magic magic)
ReportsFault IsFault (errors.Scroll e) = IsFault (fault_of_scroll e)
ReportsFault IsFault (errors.BufferTooShort count what) = IsFault (too_short count what.now)
ReportsFault IsFault (errors.Memory e) = ⊥

-- it is not out of memory
abbrev pub IsReported : Error → Type 0
IsReported (errors.Memory e) = ⊥
IsReported _ = Unit {0}

-- an item of the view is that of an entry, or a fault in it
abbrev pub IsViewItem : {A : Type 0} → Result FatEntry Fault → Result (LinkView A) Error → Type 0
IsViewItem entry (Ok view) = (e : FatEntry) × (entry ≡ Ok e) × ImageView e view
IsViewItem entry (Err e) = ReportsFault (ItemFault entry) e

-- there is an item for each entry, in order
abbrev pub AreViewItems : {A : Type 0} → List (Result FatEntry Fault) → List (Result (LinkView A) Error) → Type 0
AreViewItems [] [] = Unit {0}
AreViewItems [] (item ∷ items) = ⊥
AreViewItems (entry ∷ entries) [] = ⊥
AreViewItems (entry ∷ entries) (item ∷ items) = IsViewItem entry item × AreViewItems entries items
