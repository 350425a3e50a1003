-- Libraries that are not used, and why.
use Rattle.std.specs.Prelude.{◌==◌, ℕ, Bool, false, ◌&&◌, List, [], ◌∷◌, ◌++◌, bytes_eq, if◌then◌else◌}
use Rattle.std.specs.List.{list_any}

-- a library by its number: a file with its name was given before it, or it has nothing for a cpu
pub data Note : Type 0 where
  given_before : (library : ℕ) (name : List ℕ) → Note
  nothing_for : (library cputype : ℕ) → Note

abbrev pub is_same_note : Note → Note → Bool
is_same_note (given_before library name) (given_before other other_name) = library == other && bytes_eq name other_name
is_same_note (given_before library name) (nothing_for other cputype) = false
is_same_note (nothing_for library cputype) (given_before other name) = false
is_same_note (nothing_for library cputype) (nothing_for other other_cputype) = library == other && cputype == other_cputype

-- one more note, unless it is there
abbrev pub noted : List Note → Note → List Note
noted notes n = if list_any (is_same_note n) notes then notes else notes ++ n ∷ []

-- some more notes, one after the other
abbrev pub all_noted : List Note → List Note → List Note
all_noted notes [] = notes
all_noted notes (n ∷ more) = all_noted (noted notes n) more
