-- The short name of a library, as `nm -m` guesses it from the library's path.
use Rattle.std.specs.Prelude.{◌==◌, ◌&&◌, ◌||◌, ℕ, ◌-◌, List, [], codes, take, drop, length, Bool, false, not, Option, Some, None, if◌then◌else◌}
use Rattle.std.specs.List.{suffix_len}
use Rattle.std.specs.Str.{bytes_eq}

-- a text without this suffix, if it has it
abbrev pub cut_end : (end text : List ℕ) → Option (List ℕ)
cut_end end text = if bytes_eq (drop (length text - length end) text) end then Some (take (length text - length end) text) else None

-- The part of a text after its last byte c: all of it if it has none. And the part before that byte: then empty.
abbrev pub is_other : (c : ℕ) → ℕ → Bool
is_other c byte = not (byte == c)

abbrev pub part_after : (c : ℕ) → List ℕ → List ℕ
part_after c text = drop (length text - suffix_len (is_other c) text) text

abbrev pub part_before : (c : ℕ) → List ℕ → List ℕ
part_before c text = take (length text - suffix_len (is_other c) text - 1) text

-- the last component of a path, and the path before it
abbrev pub last_part : List ℕ → List ℕ
last_part path = part_after 0x2f path

abbrev pub folder_part : List ℕ → List ℕ
folder_part path = part_before 0x2f path

-- a name without the suffix of its build variant
abbrev pub without_either : Option (List ℕ) → Option (List ℕ) → List ℕ → List ℕ
without_either (Some front) other name = front
without_either None (Some front) name = front
without_either None None name = name

abbrev pub unsuffixed : List ℕ → List ℕ
unsuffixed name = without_either (cut_end (codes "_debug") name) (cut_end (codes "_profile") name) name

-- whether a folder is the framework of this name
abbrev pub is_base_name : List ℕ → Option (List ℕ) → Bool
is_base_name base None = false
is_base_name base (Some name) = bytes_eq name base

abbrev pub is_framework : (base folder : List ℕ) → Bool
is_framework base folder = is_base_name base (cut_end (codes ".framework") folder)

-- whether a file of this name lies in its framework: Foo.framework/Foo, Foo.framework/Versions/A/Foo
abbrev pub in_framework : (base folder : List ℕ) → Bool
in_framework base folder =
    is_framework base (last_part folder)
    || (bytes_eq (last_part (folder_part folder)) (codes "Versions") && is_framework base (last_part (folder_part (folder_part folder))))

-- a name without the version letter after its last dot: libFoo.A
abbrev pub unversioned : List ℕ → List ℕ
unversioned name =
    if (length (part_after 0x2e name) == 1) && not (length (part_before 0x2e name) == 0) then part_before 0x2e name
    else name

-- a text, or another if it is empty
abbrev pub or_if_empty : (text other : List ℕ) → List ℕ
or_if_empty text other = if length text == 0 then other else text

-- the name of libFoo.A.dylib, libFoo_debug.A.dylib or libFoo.A_debug.dylib; `stem` is the path without `.dylib`
abbrev pub dylib_name : List ℕ → List ℕ
dylib_name stem = unversioned (or_if_empty (unsuffixed (last_part (unversioned stem))) (last_part (unversioned stem)))

-- the name of a file, given its path without `.dylib` or without `.qtx`, if it ends so
abbrev pub guessed_file : Option (List ℕ) → Option (List ℕ) → List ℕ
guessed_file (Some stem) other = dylib_name stem
guessed_file None (Some stem) = unversioned (last_part stem)
guessed_file None None = []

-- the name of a framework or of a file
abbrev pub guessed_name : List ℕ → List ℕ
guessed_name path =
    if in_framework (unsuffixed (last_part path)) (folder_part path) then unsuffixed (last_part path)
    else guessed_file (cut_end (codes ".dylib") path) (cut_end (codes ".qtx") path)

-- the whole path if nothing is guessed
abbrev pub short_library_name : List ℕ → List ℕ
short_library_name path = or_if_empty (guessed_name path) path
