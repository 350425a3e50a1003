-- Arrays of the rows of lists, one object for each row (RFC 8259, 5).
use Rattle.std.specs.Prelude.{◌≡◌, ◌==◌, ◌-◌, ◌&&◌, ◌||◌, ℕ, List, [], ◌∷◌, ◌++◌, codes, map, take, length, nat_lt, Bool, Option, Result, Ok, Err}
use Rattle.std.specs.Prelude.{not, if◌then◌else◌}
use Rattle.std.specs.Io.KnownBytes.{Appends}
use Rattle.std.specs.List.{flat_map, list_all}
use Rattle.std.specs.Result.{is_ok}
use Rattle.std.specs.Fmt.{decimal}
use Rattle.mach_base.specs.Fault.{Fault}
use Rattle.mach_base.specs.Words.{words_of}
use Rattle.mach_base.specs.declared.error.Error.{Error}
use Rattle.mach_cli.specs.Listings.{text_read, CountsRows}
use Rattle.mach_cli.specs.declared.listing.ListProgress.{ListProgress}
use Rattle.mach_cli.specs.JsonText.{json_bool}

abbrev pub after_comma : List ℕ → List ℕ
after_comma element = codes "," ++ element

-- elements in order, a comma between two
abbrev pub with_commas : List (List ℕ) → List ℕ
with_commas [] = []
with_commas (x ∷ xs) = x ++ flat_map after_comma xs

-- the separator before the next element
abbrev pub comma_before : (is_first : Bool) → List ℕ
comma_before is_first = if is_first then [] else codes ","

-- The member that says why something isn't there, and the end of its object. The reason is made of fixed texts and numbers, and
-- needs no escapes.
abbrev pub error_end : List ℕ → List ℕ
error_end words = codes "\"error\":\"" ++ (words ++ codes "\"}")

-- the object of a row that was read: its text, or why it couldn't be read
abbrev pub row_object : Result (List ℕ) Error → List ℕ
row_object (Ok text) = text
row_object (Err e) = codes "{" ++ error_end (words_of e)

-- The text is an array with an object for each of these rows, in order; one that is missing is an error that reports its fault.
pub record IsArrayOf (rows : List (Result (List ℕ) Fault)) (text : List ℕ) : Type 0 where
  pub answers : List (Result (List ℕ) Error)
  pub are_rows : map text_read answers ≡ rows
  pub is_text : text ≡ codes "[" ++ (with_commas (map row_object answers) ++ codes "]")

-- An array of the first rows was written, no more than `left`; `t` is the state after it.
pub record WritesArray (left : ℕ) (rows : List (Result (List ℕ) Fault)) (old new : Option (List ℕ)) (t : ListProgress) : Type 0 where
  pub text : List ℕ
  pub array : IsArrayOf (take left rows) text
  pub counts : CountsRows left rows t
  pub written : Appends old new text

-- An array of all rows was written.
pub record WritesAllRows (rows : List (Result (List ℕ) Fault)) (old new : Option (List ℕ)) : Type 0 where
  pub text : List ℕ
  pub array : IsArrayOf rows text
  pub written : Appends old new text

-- The objects of the first rows were written, no more than `left`; `t` is the state after them.
pub record WritesObjects (left : ℕ) (rows : List (Result (List ℕ) Fault)) (old new : Option (List ℕ)) (t : ListProgress) : Type 0 where
  pub answers : List (Result (List ℕ) Error)
  pub are_rows : map text_read answers ≡ take left rows
  pub counts : CountsRows left rows t
  pub written : Appends old new (with_commas (map row_object answers))

-- ---- several lists under one limit

-- a list with the name of its member
pub record NamedRows : Type 0 where
  pub name : List ℕ
  pub rows : List (Result (List ℕ) Fault)

-- an array as a member, with a comma after it
abbrev pub array_member : List ℕ → List ℕ → List ℕ
array_member name array = codes "\"" ++ (name ++ (codes "\":" ++ (array ++ codes ",")))

-- An array was written as a member of this name, with a comma after it.
pub record WritesMember (name : List ℕ) (left : ℕ) (rows : List (Result (List ℕ) Fault)) (old new : Option (List ℕ)) (t : ListProgress) : Type 0 where
  pub text : List ℕ
  pub array : IsArrayOf (take left rows) text
  pub counts : CountsRows left rows t
  pub written : Appends old new (array_member name text)

-- The text has a member for each of these lists, in order. Of all their rows, in order, it has the first ones, no more than
-- `left`. It is whole if all of these could be read. The relation also gives whether there are more rows; each printed row counts
-- against `left`.
pub data AreArrayMembers : (left : ℕ) → List NamedRows → (text : List ℕ) → (whole more : Bool) → (rest : ℕ) → Type 0 where
  last_member : (left : ℕ) (l : NamedRows) (array : List ℕ) → IsArrayOf (take left l.rows) array
      → AreArrayMembers left (l ∷ []) (array_member l.name array) (list_all is_ok (take left l.rows)) (nat_lt left (length l.rows)) (left - length l.rows)
  then_members : (left : ℕ) (l : NamedRows) (array : List ℕ) (ls : List NamedRows) (text : List ℕ) (whole more : Bool) (rest : ℕ)
      → IsArrayOf (take left l.rows) array → AreArrayMembers (left - length l.rows) ls text whole more rest
      → AreArrayMembers left (l ∷ ls) (array_member l.name array ++ text) (list_all is_ok (take left l.rows) && whole)
      (nat_lt left (length l.rows) || more) rest

-- Such members were written; `t` is the state after them.
pub record WritesMembers (left : ℕ) (lists : List NamedRows) (old new : Option (List ℕ)) (t : ListProgress) : Type 0 where
  pub text : List ℕ
  pub members : AreArrayMembers left lists text t.whole t.more t.left
  pub written : Appends old new text

-- what follows the members of an image's lists: whether there are more rows than the limit
abbrev pub lists_end : (more : Bool) → List ℕ
lists_end more = codes "\"kind\":\"image\",\"limit_met\":" ++ json_bool more

-- the same for lists that claim `past` more items past the end of the bytes
abbrev pub lists_end_past : (more : Bool) → (past : ℕ) → List ℕ
lists_end_past more past = lists_end more ++ (codes ",\"past_the_end\":" ++ decimal past)

-- The text is the members of an image with these lists. Of all their rows, in order, it has the first ones, no more than `left`.
-- It is whole if there are no more rows, and all could be read.
pub record AreListMembers (left : ℕ) (lists : List NamedRows) (text : List ℕ) (whole : Bool) (rest : ℕ) : Type 0 where
  pub front : List ℕ
  pub readable : Bool
  pub more : Bool
  pub members : AreArrayMembers left lists front readable more rest
  pub is_text : text ≡ front ++ lists_end more
  pub is_whole : whole ≡ (readable && not more)

-- Such members were written.
pub record WritesListMembers (left : ℕ) (lists : List NamedRows) (whole : Bool) (rest : ℕ) (old new : Option (List ℕ)) : Type 0 where
  pub text : List ℕ
  pub members : AreListMembers left lists text whole rest
  pub written : Appends old new text

-- The same for lists that claim `past` more items past the end of the bytes: it is whole only if there are none.
pub record AreMembersInBounds (left : ℕ) (lists : List NamedRows) (past : ℕ) (text : List ℕ) (whole : Bool) (rest : ℕ) : Type 0 where
  pub front : List ℕ
  pub readable : Bool
  pub more : Bool
  pub members : AreArrayMembers left lists front readable more rest
  pub is_text : text ≡ front ++ lists_end_past more past
  pub is_whole : whole ≡ ((readable && not more) && (past == 0))
