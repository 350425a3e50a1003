-- A list of names.
use Rattle.std.specs.Prelude.{◌==◌, ◌+◌, ◌||◌, ℕ, List, Bool, length, nat_lt, if◌then◌else◌}
use Rattle.std.specs.List.{slice_split}

-- the byte that ends a name in a list: NUL, or a line end
abbrev pub name_end : (ends_with_nul : Bool) → ℕ
name_end ends_with_nul = if ends_with_nul then 0 else 10

-- the names of a list: what comes before, between and after the bytes that end them
abbrev pub listed_names : (end : ℕ) → List ℕ → List (List ℕ)
listed_names end bytes = slice_split (λ byte. byte == end) bytes

-- Whether the files of a call may be several: it has a list of names, or more than one other argument.
abbrev pub are_several : {X Y : Type 0} → (words : ℕ) → (lists : List X) → (no_texts : List Y) → Bool
are_several words lists no_texts = nat_lt 0 (length lists) || nat_lt 1 (words + length no_texts)
