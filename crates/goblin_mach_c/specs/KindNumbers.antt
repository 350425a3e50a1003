-- What bytes are as C sees it, by how they begin (`goblin_mach.h`, GM_KIND_UNKNOWN and the following ones).
use Rattle.std.specs.Prelude.{◌==◌, ℕ, List, Option, Some, None, if◌then◌else◌}
use Rattle.mach_parts.specs.Magic.{magic_at}
use Rattle.goblin_mach.specs.FirstBytes.{foreign_kind, is_image_magic}
use Rattle.goblin_mach.specs.declared.first_bytes.Foreign.{Foreign}
use Rattle.goblin_mach.specs.declared.first_bytes.Foreign.TheVariants.{Empty, Elf, JavaClass, Pe, Archive, Bitcode, Text}
use Rattle.goblin_mach_c.specs.WideFatRows.{magic_or_zero}

-- what isn't Mach-O
abbrev pub foreign_number : Foreign → ℕ
foreign_number Empty = 1
foreign_number Archive = 5
foreign_number Elf = 6
foreign_number Pe = 7
foreign_number JavaClass = 8
foreign_number Bitcode = 9
foreign_number Text = 10

-- a fat file, by its magic; 0 for anything else
abbrev pub fat_number : List ℕ → ℕ
fat_number bytes = if magic_or_zero bytes == 0xcafe_babe then 3 else (if magic_or_zero bytes == 0xcafe_babf then 4 else 0)

abbrev pub number_by : Option Foreign → List ℕ → ℕ
number_by (Some kind) bytes = foreign_number kind
number_by None bytes = fat_number bytes

-- An image is one by its magic. A Java class, which has the magic of fat files, is no fat file.
abbrev pub kind_number : List ℕ → ℕ
kind_number bytes = if is_image_magic (magic_at bytes 0) then 2 else number_by (foreign_kind bytes) bytes
