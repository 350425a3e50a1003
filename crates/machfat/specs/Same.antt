-- When two paths lead to one file.
use Rattle.std.specs.Prelude.{◌≡◌, ◌==◌, ◌&&◌, ◌||◌, ℕ, List, [], ◌∷◌, Bool, true, false, Option, Some, None}
use Rattle.std.specs.Borrow.{Bor}
use Rattle.std.specs.Str.{bytes_eq}
use Rattle.machfat.specs.declared.new_file.Node.{Node}

-- the system knows a file by both paths, and it is the same one: the same device and the same inode
abbrev pub is_one_node : Option Node → Option Node → Bool
is_one_node None there = false
is_one_node (Some here) None = false
is_one_node (Some here) (Some there) = (here.dev == there.dev) && (here.ino == there.ino)

-- they are one text, or the system knows them as one file
abbrev pub is_one_file : List ℕ → List ℕ → Option Node → Option Node → Bool
is_one_file one other here there = bytes_eq one other || is_one_node here there

-- they were found to lead to one file; they were found not to
abbrev pub IsSame : List ℕ → List ℕ → Type 0
IsSame one other = (here : Option Node) × (there : Option Node) × (is_one_file one other here there ≡ true)

abbrev pub IsOther : List ℕ → List ℕ → Type 0
IsOther one other = (here : Option Node) × (there : Option Node) × (is_one_file one other here there ≡ false)

-- none of some paths leads to the file of another
abbrev pub AreOther : List (Bor (List ℕ)) → List ℕ → Type 0
AreOther [] other = Unit {0}
AreOther (path ∷ paths) other = IsOther path.now other × AreOther paths other
