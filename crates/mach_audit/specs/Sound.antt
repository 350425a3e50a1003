-- When a file is sound: everything in it opens and can be read.
use Rattle.std.specs.Prelude.{◌≡◌, ◌<◌, ◌⊎◌, ◌++◌, ◌∷◌, ℕ, Bool, IsTrue, is_ok, List, [], map, length, min, Result, Ok, Err, IsOk, None}
use Rattle.std.specs.List.{AllByRecursion, list_all, flat_map}
use Rattle.mach_base.specs.Fault.{Fault}
use Rattle.mach_base.specs.declared.context.Ctx.{Ctx}
use Rattle.mach_archive.specs.Archives.{ArchiveView, archive_in}
use Rattle.mach_archive.specs.Members.{MemberView}
use Rattle.mach_load.specs.Command.{Command}
use Rattle.mach_dyld.specs.Imports.{Import}
use Rattle.mach_dyld.specs.Trie as trie
use Rattle.mach_dyld.specs.TrieRange.{TrieRange, trie_there, ListsExports, ExportsFault, ExportsEnd}
use Rattle.mach_dyld.specs.Unfolds.{Ahead, Unfolds, AreReadOnce}
use Rattle.mach_chained.specs.Fixups.{Fixup}
use Rattle.mach_parts.specs.Bindings.{Binding}
use Rattle.mach_parts.specs.Relocation.{relocations_at}
use Rattle.mach_parts.specs.Segment.{SegmentView, sections_of}
use Rattle.mach_parts.specs.declared.relocation.RelocationInfo.{RelocationInfo}
use Rattle.mach_parts.specs.declared.segment.section.Section.{Section}
use Rattle.mach_parts.specs.declared.symbols.nlist.Nlist.{Nlist}
use Rattle.mach_parts.specs.ArchForms.{ArchForm, arch_form_32}
use Rattle.mach_layout.specs.Containers.{AreContainerFaults}
use Rattle.goblin_mach.specs.LayoutFacts.{HasLayoutFaults}
use Rattle.mach_audit.specs.Overlaid.{AreOverlaid, every}
use Rattle.mach_signature.specs.SignedImages.{signature_place_in, IsImageAsSigned}
use Rattle.goblin_mach.specs.Facts.{OfImage, HasSegments, HasSymbols, HasExports, HasImports, HasImportItems, HasFixups, HasBindings}
use Rattle.goblin_mach.specs.FatEntry.{FatEntry, archive, image, arch_entry_in}
use Rattle.goblin_mach.specs.FatFile.{FatFile, fat_file_in, arch_table_in}
use Rattle.goblin_mach.specs.Image.{Opens}
use Rattle.goblin_mach.specs.Items.{members_within}
use Rattle.goblin_mach.specs.File.{HasFatMagic}
use Rattle.goblin_mach.specs.Subjects.{lossy_segments_in, libs_in, trie_in, trie_or_empty}

-- whether no item of a list is a fault
abbrev pub are_all_ok : {X : Type 0} → List (Result X Fault) → Bool
are_all_ok items = list_all is_ok items

-- the sections of some segments, one after the other, each with its data or its fault
abbrev pub all_sections : List SegmentView → List (Result (Section × List ℕ) Fault)
all_sections segments = flat_map sections_of segments

-- the relocations of a section that can be read
abbrev pub relocations_by : Ctx → List ℕ → Result (Section × List ℕ) Fault → List (Result RelocationInfo Fault)
relocations_by ctx bytes (Ok found) = relocations_at ctx.le bytes found.0.reloff found.0.nreloc
relocations_by ctx bytes (Err f) = []

-- the relocations of all sections of some segments, one after the other
abbrev pub all_relocations : Ctx → List ℕ → List SegmentView → List (Result RelocationInfo Fault)
all_relocations ctx bytes segments = flat_map (λ s. flat_map (relocations_by ctx bytes) (sections_of s)) segments

-- the relocations of an image, those of all its sections
abbrev pub HasAllRelocations : List ℕ → ℕ → List (Result RelocationInfo Fault) → Type 0
HasAllRelocations bytes o items = OfImage bytes o (λ ctx cs. items ≡ all_relocations ctx bytes (lossy_segments_in ctx bytes cs))

-- A walk of a trie from this root meets these exports first, through nodes that are all different.
pub record WalkMeets (t : trie.Trie) (root : ℕ) (found : List trie.Entry) : Type 0 where
  pub nodes : ℕ
  pub left : List Ahead
  pub read : Unfolds t root nodes found left
  pub once : AreReadOnce t root nodes

-- The exports that are met in a trie, up to more than `limit`: all of them; or those before the fault at which its walk ends, and
-- that fault; or more than `limit` that a walk meets first.
pub data AreExportItems (limit : ℕ) (t : TrieRange) (libs : List (List ℕ)) : List (Result trie.Entry Fault) → Type 0 where
  all_exports : (list : List trie.Entry) → ListsExports t libs list → AreExportItems limit t libs (map Ok list)
  up_to_fault : (found : List trie.Entry) (f : Fault) → ExportsEnd t libs found f → ExportsFault t libs f
      → AreExportItems limit t libs (map Ok found ++ Err f ∷ [])
  past_limit : (found : List trie.Entry) → WalkMeets (trie_there t libs) t.from found → limit < length found → AreExportItems limit t libs (map Ok found)

-- the exports that are met in an image
abbrev pub HasExportItems : ℕ → List ℕ → ℕ → List (Result trie.Entry Fault) → Type 0
HasExportItems limit bytes o items = OfImage bytes o (λ ctx cs. AreExportItems limit (trie_or_empty (trie_in bytes cs)) (libs_in bytes cs) items)

-- No command of an image names a signature, or the image is as it was signed.
pub data IsSoundlySigned (bytes : List ℕ) (cs : List Command) (segments : List SegmentView) : Type 0 where
  unsigned : signature_place_in cs ≡ None → IsSoundlySigned bytes cs segments
  as_signed : IsImageAsSigned bytes cs segments → IsSoundlySigned bytes cs segments

-- the same of the image at an offset
abbrev pub HasSoundSignature : List ℕ → ℕ → Type 0
HasSoundSignature bytes o = OfImage bytes o (λ ctx cs. IsSoundlySigned bytes cs (lossy_segments_in ctx bytes cs))

-- The image at 0 is sound. It opens strictly, so that its segments have their data. Its layout has no fault. It has no signature,
-- or is as it was signed. The sections of all its segments, all its relocations and all its symbols can be read. Its exports and
-- its imports have lists. All fixups of its chains can be read, and all bindings, those of the opcodes of the non-lazy and the
-- lazy range and those of the chains. That its layout has no fault also says that its rebases by opcodes, its weak binds and its
-- function starts can be read to their ends (`AreListFaults`), and that no entry of data in code shares bytes with the entry
-- before, or lies before or after what may be executed. Nothing is said of who signed it.
pub record IsSoundImage (bytes : List ℕ) : Type 0 where
  pub opens : Opens bytes 0
  pub layout : HasLayoutFaults bytes []
  pub signature : HasSoundSignature bytes 0
  pub sections : (segments : List SegmentView) × HasSegments bytes 0 segments × IsTrue (are_all_ok (all_sections segments))
  pub relocations : (items : List (Result RelocationInfo Fault)) × HasAllRelocations bytes 0 items × IsTrue (are_all_ok items)
  pub symbols : (rows : List (Result (List ℕ × Nlist) Fault)) × HasSymbols bytes 0 rows × IsTrue (are_all_ok rows)
  pub exports : (list : List trie.Entry) × HasExports bytes 0 list
  pub imports : (list : List Import) × HasImports bytes 0 list
  pub fixups : (items : List (Result Fixup Fault)) × HasFixups bytes 0 items × IsTrue (are_all_ok items)
  pub bindings : (items : List (Result Binding Fault)) × HasBindings bytes 0 items × IsTrue (are_all_ok items)

-- A list of the image at 0 has more than `limit` items: its sections, its relocations, and so on. The fault that ends a list
-- counts as an item.
pub data HasLongList (limit : ℕ) (bytes : List ℕ) : Type 0 where
  of_sections : (segments : List SegmentView) → HasSegments bytes 0 segments → limit < length (all_sections segments) → HasLongList limit bytes
  of_relocations : (items : List (Result RelocationInfo Fault)) → HasAllRelocations bytes 0 items → limit < length items → HasLongList limit bytes
  of_symbols : (rows : List (Result (List ℕ × Nlist) Fault)) → HasSymbols bytes 0 rows → limit < length rows → HasLongList limit bytes
  of_exports : (items : List (Result trie.Entry Fault)) → HasExportItems limit bytes 0 items → limit < length items → HasLongList limit bytes
  of_imports : (items : List (Result Import Fault)) → HasImportItems bytes 0 items → limit < length items → HasLongList limit bytes
  of_fixups : (items : List (Result Fixup Fault)) → HasFixups bytes 0 items → limit < length items → HasLongList limit bytes
  of_bindings : (items : List (Result Binding Fault)) → HasBindings bytes 0 items → limit < length items → HasLongList limit bytes

-- a member of an archive is a sound image
abbrev pub IsSoundMember : Result MemberView Fault → Type 0
IsSoundMember (Ok m) = IsSoundImage m.bytes
IsSoundMember (Err f) = ⊥

-- an archive opens, each of its members is a sound image, and no fault ends them
abbrev pub IsSoundArchive : Result ArchiveView Fault → Type 0
IsSoundArchive (Ok a) = AllByRecursion IsSoundMember (members_within a)
IsSoundArchive (Err f) = ⊥

-- a member is an image with a list of more than `limit` items, or of more than the member has bytes
abbrev pub IsLongMember : ℕ → Result MemberView Fault → Type 0
IsLongMember limit (Ok m) = HasLongList (min limit (length m.bytes)) m.bytes
IsLongMember limit (Err f) = ⊥

-- one of these members is such an image
abbrev pub HasLongMember : ℕ → List (Result MemberView Fault) → Type 0
HasLongMember limit [] = ⊥
HasLongMember limit (m ∷ ms) = IsLongMember limit m ⊎ HasLongMember limit ms

-- there are more than `limit` members, or one of them has a list of more items; the fault that ends them counts as a member
abbrev pub AreLongMembers : ℕ → List (Result MemberView Fault) → Type 0
AreLongMembers limit members = (limit < length members) ⊎ HasLongMember limit members

-- the same of the members of an archive
abbrev pub IsLongArchive : ℕ → Result ArchiveView Fault → Type 0
IsLongArchive limit (Ok a) = AreLongMembers limit (members_within a)
IsLongArchive limit (Err f) = ⊥

-- an entry of a fat file is an archive or an image that is sound
abbrev pub IsSoundEntry : Result FatEntry Fault → Type 0
IsSoundEntry (Ok (archive bytes)) = IsSoundArchive (archive_in bytes)
IsSoundEntry (Ok (image bytes)) = IsSoundImage bytes
IsSoundEntry (Err f) = ⊥

-- an entry is an archive that is too long, or an image with a list of more than `limit` items, or of more than the image has bytes
abbrev pub IsLongEntry : ℕ → Result FatEntry Fault → Type 0
IsLongEntry limit (Ok (archive bytes)) = IsLongArchive limit (archive_in bytes)
IsLongEntry limit (Ok (image bytes)) = HasLongList (min limit (length bytes)) bytes
IsLongEntry limit (Err f) = ⊥

-- a fat file with records of a form has an entry, its table can be read, and all its entries are sound
pub record IsSoundFat {R : Type 0} (form : ArchForm R) (file : FatFile) : Type 0 where
  pub some : 0 < file.narches
  pub table : IsOk (arch_table_in form file)
  pub entries : (k : ℕ) → k < file.narches → IsSoundEntry (arch_entry_in form file k)

-- a fat file has more than `limit` entries, or they have more bytes together than the file, or one of them has a list of more
-- items
pub data IsLongFat {R : Type 0} (form : ArchForm R) (limit : ℕ) (file : FatFile) : Type 0 where
  of_entries : limit < file.narches → IsLongFat form limit file
  of_overlaid : (archs : List R) → arch_table_in form file ≡ Ok archs → AreOverlaid form every file.bytes archs → IsLongFat form limit file
  of_entry : (k : ℕ) → k < file.narches → IsLongEntry limit (arch_entry_in form file k) → IsLongFat form limit file

-- The file is a sound image, or a sound fat file whose table has no fault.
pub data IsSound (bytes : List ℕ) : Type 0 where
  one_image : IsSoundImage bytes → IsSound bytes
  fat_file : (file : FatFile) → HasFatMagic bytes → fat_file_in bytes ≡ Ok file → AreContainerFaults arch_form_32 bytes []
      → IsSoundFat arch_form_32 file → IsSound bytes

-- The file has a list of more than `limit` items, or one of its images a list of more than it has bytes.
pub data IsLong (limit : ℕ) (bytes : List ℕ) : Type 0 where
  of_image : HasLongList (min limit (length bytes)) bytes → IsLong limit bytes
  of_fat : (file : FatFile) → HasFatMagic bytes → fat_file_in bytes ≡ Ok file → IsLongFat arch_form_32 limit file → IsLong limit bytes
