-- What bytes are by how they begin: an image, or no Mach-O; then their kind, as `file` judges them.
use Rattle.std.specs.Prelude.{◌==◌, ◌&&◌, ◌||◌, not, ◌++◌, ◌∷◌, ℕ, List, [], Bool, true, false, codes, length, take, nat_eq, nat_le, nat_lt}
use Rattle.std.specs.Prelude.{Option, Some, None, Result, Ok, Err, if◌then◌else◌, slice_index_or}
use Rattle.std.specs.List.{list_all, starts_with}
use Rattle.std.specs.Option.{option_or}
use Rattle.mach_base.specs.Fault.{Fault}
use Rattle.mach_base.specs.Number.{number_at}
use Rattle.mach_base.specs.declared.context.Ctx.{Ctx}
use Rattle.mach_base.specs.declared.context.Endian.TheVariants.{Big}
use Rattle.goblin_mach.specs.declared.first_bytes.Foreign.{Foreign}
use Rattle.goblin_mach.specs.declared.first_bytes.Foreign.TheVariants.{Empty, Elf, JavaClass, Pe, Archive, Bitcode, Text}

-- whether a magic is that of an image
abbrev pub is_image_magic : Result (ℕ × Option Ctx) Fault → Bool
is_image_magic (Ok (magic, Some ctx)) = true
is_image_magic (Ok (magic, None)) = false
is_image_magic (Err f) = false

-- the first bytes of a kind of file
pub record Front : Type 0 where
  pub front : List ℕ
  pub kind : Foreign

-- ELF (`elf.h`, ELFMAG), a program of DOS, an archive (`ar.h`, ARMAG) and a thin one, bitcode of LLVM and its wrapper
abbrev pub fronts : List Front
fronts =
    record { front = 0x7f ∷ codes "ELF"; kind = Elf }
    ∷ record { front = codes "MZ"; kind = Pe }
    ∷ record { front = codes "!<arch>" ++ 0x0a ∷ []; kind = Archive }
    ∷ record { front = codes "!<thin>" ++ 0x0a ∷ []; kind = Archive }
    ∷ record { front = codes "BC" ++ 0xc0 ∷ 0xde ∷ []; kind = Bitcode }
    ∷ record { front = 0xde ∷ 0xc0 ∷ 0x17 ∷ 0x0b ∷ []; kind = Bitcode }
    ∷ []

-- the kind of the first of these that the bytes begin with
abbrev pub kind_with : List Front → List ℕ → Option Foreign
kind_with [] bytes = None
kind_with (f ∷ fs) bytes = if starts_with nat_eq bytes f.front then Some f.kind else kind_with fs bytes

-- A Java class has the magic of a fat file and then its version, from 45 on: more than a fat file has entries.
abbrev pub is_class_by : (magic count : Result ℕ Fault) → Bool
is_class_by (Ok magic) (Ok count) = (magic == 0xcafe_babe) && nat_lt 30 count
is_class_by (Ok magic) (Err f) = false
is_class_by (Err f) count = false

abbrev pub is_java_class : List ℕ → Bool
is_java_class bytes = is_class_by (number_at Big 4 bytes 0) (number_at Big 4 bytes 4)

-- whether a byte may be one of a text: a printable character, a part of a character from 0x80 on, or white space
abbrev pub is_text_byte : ℕ → Bool
is_text_byte b = nat_le 0x20 b && not (b == 0x7f) || nat_le 9 b && nat_le b 13

-- whether bytes begin with a character of ASCII
abbrev pub begins_ascii : List ℕ → Bool
begins_ascii bytes = nat_lt (slice_index_or bytes 0 0x80) 0x80

-- whether they begin as a text does: with such a character, and without control characters among the first 256
abbrev pub begins_text : List ℕ → Bool
begins_text bytes = begins_ascii bytes && list_all is_text_byte (take 256 bytes)

-- the kind of a file that isn't Mach-O, if its first bytes show it
abbrev pub foreign_kind : List ℕ → Option Foreign
foreign_kind bytes =
    if length bytes == 0 then Some Empty
    else (if is_java_class bytes then Some JavaClass
    else option_or (kind_with fronts bytes) (if begins_text bytes then Some Text else None))

abbrev pub foreign_words : Foreign → List ℕ
foreign_words Empty = codes "not Mach-O: an empty file"
foreign_words Elf = codes "not Mach-O: an ELF file"
foreign_words JavaClass = codes "not Mach-O: a Java class"
foreign_words Pe = codes "not Mach-O: a PE or DOS program"
foreign_words Archive = codes "not Mach-O: an archive"
foreign_words Bitcode = codes "not Mach-O: LLVM bitcode"
foreign_words Text = codes "not Mach-O: a text file"
