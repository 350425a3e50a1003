-- The members of an archive, one after another.
use Rattle.std.specs.Prelude.{◌≡◌, ℕ, zero, suc, ◌+◌, ◌-◌, ◌<◌, ◌≤◌, List, [], ◌∷◌, length, take, drop, Option, option_map, unwrap_or, Result, Ok}
use Rattle.std.specs.Prelude.{Err, nat_le, if◌then◌else◌}
use Rattle.mach_base.specs.Fault.{Fault}
use Rattle.mach_archive.specs.MemberHeaders.{MemberHeader, member_header_at, next_header}
use Rattle.mach_archive.specs.Places.{PlacedText}

-- the list of names in GNU's form, to which headers refer by a number, and its place; none in BSD's form
abbrev pub LongNames : Type 0
LongNames = Option PlacedText

-- a member: the places of its header and of its bytes, these bytes, the
-- header's bytes, its long name if it has one, and the archive's list of names
pub record MemberView : Type 0 where
  pub offset : ℕ
  pub start : ℕ
  pub bytes : List ℕ
  pub fields : List ℕ
  pub long : Option PlacedText
  pub names : LongNames

-- the place of a member's bytes: after the header and the long name
abbrev pub body_place : MemberHeader → ℕ
body_place h = h.place + 60 + unwrap_or h.long 0

abbrev pub body_of : List ℕ → MemberHeader → List ℕ
body_of bytes h = take (h.size - unwrap_or h.long 0) (drop (body_place h) bytes)

abbrev pub placed_body : List ℕ → MemberHeader → PlacedText
placed_body bytes h = record { place = body_place h; text = body_of bytes h }

abbrev pub long_name_of : List ℕ → MemberHeader → Option PlacedText
long_name_of bytes h = option_map (λ n. record { place = h.place + 60; text = take n (drop (h.place + 60) bytes) }) h.long

-- the member of a header
abbrev pub member_of : List ℕ → LongNames → MemberHeader → MemberView
member_of bytes names h =
    record {
      offset = h.place;
      start = body_place h;
      bytes = body_of bytes h;
      fields = h.fields;
      long = long_name_of bytes h;
      names = names;
    }

-- all members, from a place on, have their headers at these places
abbrev pub IsMembers : List ℕ → ℕ → List ℕ → Type 0
IsMembers bytes from [] = length bytes ≤ from
IsMembers bytes from (place ∷ places) =
    (place ≡ from) × (from < length bytes)
    × ((h : MemberHeader) × (member_header_at bytes from ≡ Ok h) × IsMembers bytes (next_header h) places)

-- these are the members from a place on; they end after the first fault
abbrev pub AreMembers : List ℕ → LongNames → ℕ → List (Result MemberView Fault) → Type 0
AreMembers bytes names from [] = length bytes ≤ from
AreMembers bytes names from (Ok m ∷ items) =
    (from < length bytes)
    × ((h : MemberHeader) × (member_header_at bytes from ≡ Ok h) × (m ≡ member_of bytes names h)
    × AreMembers bytes names (next_header h) items)
AreMembers bytes names from (Err f ∷ items) = (from < length bytes) × (member_header_at bytes from ≡ Err f) × (items ≡ [])

-- an item and those after it; or a fault, and nothing after it
abbrev pub then_items : {A B : Type 0} → Result A Fault → (A → B) → (A → List (Result B Fault)) → List (Result B Fault)
then_items (Ok x) view others = Ok (view x) ∷ others x
then_items (Err f) view others = Err f ∷ []

-- at most `most` members from a place on
unfoldable pub members_from : List ℕ → LongNames → (most from : ℕ) → List (Result MemberView Fault)
members_from bytes names zero from = []
members_from bytes names (suc most) from =
    if nat_le (length bytes) from then []
    else then_items (member_header_at bytes from) (member_of bytes names) (λ h. members_from bytes names most (next_header h))
