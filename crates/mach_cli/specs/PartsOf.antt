-- The parts of a file that are shown as files of their own.
use Rattle.std.specs.Prelude.{◌==◌, ℕ, List, [], ◌∷◌, ◌++◌, nat_lt, Bool, true, Option, Some, None, Result, Ok, Err}
use Rattle.std.specs.Prelude.{if◌then◌else◌}
use Rattle.std.specs.Borrow.{Bor}
use Rattle.mach_base.specs.Fault.{Fault}
use Rattle.mach_base.specs.Number.{number_at}
use Rattle.mach_base.specs.declared.context.Endian.TheVariants.{Big}
use Rattle.mach_parts.specs.ArchForms.{arch_form_32, arch_form_64}
use Rattle.mach_archive.specs.Archives.{archive_in}
use Rattle.goblin_mach.specs.FatFile.{fat_file_in}
use Rattle.goblin_mach.specs.Inputs.{IsInput, begins_any_archive}
use Rattle.goblin_mach.specs.Items.{ItemView, alone, item_at, items_in, whole_file}
use Rattle.goblin_mach.specs.ItemsLeft.{input_items_left}
use Rattle.goblin_mach.specs.declared.images.Images.{Images}
use Rattle.goblin_mach.specs.declared.input.Input.{Input}
use Rattle.goblin_mach.specs.declared.input.Input.TheVariants as inputs
use Rattle.mach_cli.specs.FirstMagic.{begins_fat}
use Rattle.mach_cli.specs.TableEntries.{counts_in, no_entries}
use Rattle.mach_cli.specs.declared.entries.EntryCounts.{EntryCounts}
use Rattle.mach_cli.specs.declared.parts.Parts.{Parts}

-- the file itself
abbrev pub itself : List ℕ → ItemView
itself bytes = item_at alone (Ok (whole_file bytes))

-- the items of a file that opens as what divides it, else the file itself
abbrev pub items_or_itself : {X : Type 0} → Result X Fault → List ℕ → List ItemView
items_or_itself (Ok opened) bytes = items_in bytes
items_or_itself (Err f) bytes = itself bytes ∷ []

abbrev pub parts_by_magic : Result ℕ Fault → List ℕ → List ItemView
parts_by_magic (Ok magic) bytes = if magic == 0xcafe_babf then items_or_itself (fat_file_in bytes) bytes else itself bytes ∷ []
parts_by_magic (Err f) bytes = itself bytes ∷ []

-- The parts of a file: the members of an archive; the entries of a fat file of 64 bits, and the members of archives among them;
-- else the file itself.
abbrev pub parts_in : List ℕ → List ItemView
parts_in bytes =
    if begins_any_archive bytes then items_or_itself (archive_in bytes) bytes else parts_by_magic (number_at Big 4 bytes 0) bytes

-- the bytes are an archive or a fat file of 64 bits
abbrev pub IsDivided : {A : Type 0} → List ℕ → Input A → Type 0
IsDivided {A} bytes (inputs.Archive a) = IsInput {A = A} bytes (inputs.Archive a)
IsDivided {A} bytes (inputs.Fat64 m) = IsInput {A = A} bytes (inputs.Fat64 m)
IsDivided {A} bytes (inputs.Fat m) = ⊥
IsDivided {A} bytes (inputs.Image m) = ⊥

-- ---- the parts that are shown

-- the first n entries, and all that is no entry
abbrev pub is_entry_before : ℕ → Option ℕ → Bool
is_entry_before n (Some i) = nat_lt i n
is_entry_before n None = true

-- the items up to the first of an entry from n on
abbrev pub items_before : ℕ → List ItemView → List ItemView
items_before n [] = []
items_before n (x ∷ xs) = if is_entry_before n x.place.entry then x ∷ items_before n xs else []

-- how many entries of a file are shown, and how many aren't; none of what is no fat file
abbrev pub counts_by_magic : Result ℕ Fault → List ℕ → EntryCounts
counts_by_magic (Ok magic) bytes =
    if magic == 0xcafe_babf then counts_in arch_form_64 (fat_file_in bytes)
    else (if magic == 0xcafe_babe then counts_in arch_form_32 (fat_file_in bytes)
    else no_entries)
counts_by_magic (Err f) bytes = no_entries

abbrev pub entry_counts : List ℕ → EntryCounts
entry_counts bytes = if begins_any_archive bytes then no_entries else counts_by_magic (number_at Big 4 bytes 0) bytes

-- the items of a file that are shown
abbrev pub shown_items : List ℕ → List ItemView
shown_items bytes = items_before (entry_counts bytes).shown (items_in bytes)

-- the same counts of a fat file of 64 bits; none of one of 32 bits, which isn't divided
abbrev pub wide_counts : List ℕ → EntryCounts
wide_counts bytes = if begins_fat bytes then no_entries else entry_counts bytes

abbrev pub parts_left_out : List ℕ → ℕ
parts_left_out bytes = (wide_counts bytes).left_out

-- the parts of a file that are shown
abbrev pub shown_parts : List ℕ → List ItemView
shown_parts bytes = items_before (wide_counts bytes).shown (parts_in bytes)

-- ---- the parts left

abbrev pub itself_left : Option (Bor (List ℕ)) → List ItemView
itself_left (Some bytes) = itself bytes.now ∷ []
itself_left None = []

abbrev pub images_left : Option Images → List ItemView
images_left (Some images) = input_items_left images
images_left None = []

abbrev pub images_shown : Parts → List ItemView
images_shown p = items_before p.most (images_left p.images)

abbrev pub parts_left : Parts → List ItemView
parts_left p = itself_left p.itself ++ images_shown p
