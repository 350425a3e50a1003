-- The items that an iterator still returns.
use Rattle.std.specs.Prelude.{◌-◌, List, [], ◌∷◌, ◌++◌, Option, Some, None, Result, Ok, Err}
use Rattle.mach_base.specs.Fault.{Fault, fault_of}
use Rattle.mach_base.specs.Items.{read_as}
use Rattle.mach_parts.specs.ArchForms.{ArchForm, arch_form_32, arch_form_64}
use Rattle.mach_archive.specs.ArchiveViews.{archive_of, members_left}
use Rattle.mach_archive.specs.Members.{MemberView}
use Rattle.mach_archive.specs.declared.members.Members.{Members}
use Rattle.goblin_mach.specs.Items.{ItemView, content_view, item_at, member_items, items_of_archive, items_of_whole, items_of_entries, too_many, alone}
use Rattle.goblin_mach.specs.declared.images.Entries.{Entries}
use Rattle.goblin_mach.specs.declared.images.Entries.TheVariants as entries
use Rattle.goblin_mach.specs.declared.images.Images.{Images}
use Rattle.goblin_mach.specs.declared.images.Table.{Table}
use Rattle.goblin_mach.specs.declared.images.Whole.{Whole}
use Rattle.goblin_mach.specs.declared.images.Whole.TheVariants as wholes
use Rattle.goblin_mach.specs.declared.item.InputItem.{InputItem}
use Rattle.goblin_mach.specs.declared.item.ItemPlace.{ItemPlace}

-- an item that was returned, as definitions have it
abbrev pub input_item_read : InputItem → ItemView
input_item_read item = record { place = item.place; content = read_as content_view item.content }

-- the items of what is at a place
abbrev pub whole_items : ItemPlace → Whole → List ItemView
whole_items place (wholes.Bytes bytes) = items_of_whole place bytes.now
whole_items place (wholes.Archive a) = items_of_archive place (Ok (archive_of a))
whole_items place (wholes.Refused e) = item_at place (Err (fault_of e)) ∷ []

-- the items of a table from an entry on
abbrev pub items_of_table : {R : Type 0} → ArchForm R → Table → List ItemView
items_of_table form t = items_of_entries form t.bytes.now t.index (t.narches - t.index)

-- the items of the rest of a file, apart from the members of the current archive
abbrev pub entries_items : Entries → List ItemView
entries_items entries.None = []
entries_items (entries.Image bytes) = items_of_whole alone bytes.now
entries_items (entries.Archive a) = items_of_archive alone (Ok (archive_of a))
entries_items (entries.Narrow t) = items_of_table arch_form_32 t
entries_items (entries.Wide t) = items_of_table arch_form_64 t
entries_items (entries.TooMany n) = too_many n

abbrev pub members_begun : Option Members → List (Result MemberView Fault)
members_begun None = []
members_begun (Some it) = members_left it

-- the items of the current archive
abbrev pub items_of_started : Images → List ItemView
items_of_started it = member_items it.place (members_begun it.members)

abbrev pub input_items_left : Images → List ItemView
input_items_left it = items_of_started it ++ entries_items it.entries
