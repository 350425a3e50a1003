-- The items in a file, as a list: the image that it is; each entry of a fat file; each member of an archive, also of an
-- archive that is an entry. What can't be read is an item with the fault.
use Rattle.std.specs.Prelude.{◌==◌, ℕ, zero, suc, ◌+◌, ◌-◌, ◌/◌, List, [], ◌∷◌, ◌++◌, map, length, codes, nat_le, Some, None, Result, Ok, Err}
use Rattle.std.specs.Prelude.{if◌then◌else◌}
use Rattle.mach_base.specs.declared.context.Endian.TheVariants.{Big}
use Rattle.mach_base.specs.Fault.{Fault, too_short}
use Rattle.mach_base.specs.Number.{number_at}
use Rattle.mach_parts.specs.Fat.{part_of}
use Rattle.mach_parts.specs.ArchForms.{ArchForm, arch_form_32, arch_form_64, arch_in}
use Rattle.mach_archive.specs.Archives.{ArchiveView, archive_in}
use Rattle.mach_archive.specs.ArchiveViews.{member_view}
use Rattle.mach_archive.specs.Members.{MemberView, members_from}
use Rattle.goblin_mach.specs.FatFile.{FatFile, fat_file_in}
use Rattle.goblin_mach.specs.Inputs.{begins_any_archive}
use Rattle.goblin_mach.specs.declared.item.Content.{Content}
use Rattle.goblin_mach.specs.declared.item.Content.TheVariants as contents
use Rattle.goblin_mach.specs.declared.item.ItemPlace.{ItemPlace}

-- the content of an item: the bytes of a file or of an entry, a member of an archive, or an archive without members
pub data ContentView : Type 0 where
  whole_file : List ℕ → ContentView
  archive_member : MemberView → ContentView
  no_member : ContentView

-- an item: its place, and its content or why it can't be read
pub record ItemView : Type 0 where
  pub place : ItemPlace
  pub content : Result ContentView Fault

abbrev pub content_view : Content → ContentView
content_view (contents.File bytes) = whole_file bytes.now
content_view (contents.Member m) = archive_member (member_view m)
content_view contents.NoMember = no_member

-- the bytes that may be an image
abbrev pub content_bytes : ContentView → List ℕ
content_bytes (whole_file bytes) = bytes
content_bytes (archive_member m) = m.bytes
content_bytes no_member = []

abbrev pub item_at : ItemPlace → Result ContentView Fault → ItemView
item_at place content = record { place = place; content = content }

-- a member, or the fault of its header
abbrev pub member_content : Result MemberView Fault → Result ContentView Fault
member_content (Ok m) = Ok (archive_member m)
member_content (Err f) = Err f

abbrev pub member_items : ItemPlace → List (Result MemberView Fault) → List ItemView
member_items place members = map (λ m. item_at place (member_content m)) members

-- the items of an archive: its members, or one item if it has none
abbrev pub items_of_members : ItemPlace → List (Result MemberView Fault) → List ItemView
items_of_members place [] = item_at place (Ok no_member) ∷ []
items_of_members place (m ∷ ms) = member_items place (m ∷ ms)

abbrev pub members_within : ArchiveView → List (Result MemberView Fault)
members_within a = members_from a.bytes a.names (length a.bytes - a.begin) a.begin

abbrev pub items_of_archive : ItemPlace → Result ArchiveView Fault → List ItemView
items_of_archive place (Ok a) = items_of_members place (members_within a)
items_of_archive place (Err f) = item_at place (Err f) ∷ []

-- the items of bytes that are not a fat file
abbrev pub items_of_whole : ItemPlace → List ℕ → List ItemView
items_of_whole place bytes =
    if begins_any_archive bytes then items_of_archive place (archive_in bytes) else item_at place (Ok (whole_file bytes)) ∷ []

-- the place of a whole file
abbrev pub alone : ItemPlace
alone = record { entry = None; cpu = None; offset = 0 }

abbrev pub place_of_arch : {R : Type 0} → ArchForm R → ℕ → R → ItemPlace
place_of_arch form i arch =
    record { entry = Some i; cpu = Some (record { cputype = form.cputype arch; cpusubtype = form.cpusubtype arch }); offset = form.offset arch }

-- the items of entry i, by its record
abbrev pub items_of_arch : {R : Type 0} → ArchForm R → List ℕ → ℕ → Result R Fault → List ItemView
items_of_arch form bytes i (Ok arch) = items_of_whole (place_of_arch form i arch) (part_of bytes (form.offset arch) (form.size arch))
items_of_arch form bytes i (Err f) = item_at (record { entry = Some i; cpu = None; offset = 0 }) (Err f) ∷ []

abbrev pub items_of_entry : {R : Type 0} → ArchForm R → List ℕ → ℕ → List ItemView
items_of_entry form bytes i = items_of_arch form bytes i (arch_in form bytes i)

-- the items of `count` entries from an index on
abbrev pub items_of_entries : {R : Type 0} → ArchForm R → List ℕ → ℕ → ℕ → List ItemView
items_of_entries form bytes i zero = []
items_of_entries form bytes i (suc count) = items_of_entry form bytes i ++ items_of_entries form bytes (i + 1) count

-- the items of a fat file; only one, if its bytes could not hold so many entries
abbrev pub too_many : ℕ → List ItemView
too_many n = item_at alone (Err (too_short n (codes "arches"))) ∷ []

abbrev pub items_of_fat : {R : Type 0} → ArchForm R → Result FatFile Fault → List ItemView
items_of_fat form (Ok file) =
    if nat_le file.narches (length file.bytes / form.stride) then items_of_entries form file.bytes 0 file.narches else too_many file.narches
items_of_fat form (Err f) = item_at alone (Err f) ∷ []

abbrev pub items_by_magic : Result ℕ Fault → List ℕ → List ItemView
items_by_magic (Ok magic) bytes =
    if magic == 0xcafe_babf then items_of_fat arch_form_64 (fat_file_in bytes)
    else (if magic == 0xcafe_babe then items_of_fat arch_form_32 (fat_file_in bytes)
    else item_at alone (Ok (whole_file bytes)) ∷ [])
items_by_magic (Err f) bytes = item_at alone (Ok (whole_file bytes)) ∷ []

-- The items in a file.
abbrev pub items_in : List ℕ → List ItemView
items_in bytes = if begins_any_archive bytes then items_of_archive alone (archive_in bytes) else items_by_magic (number_at Big 4 bytes 0) bytes
