-- What follows from a header that was read.
use Rattle.std.proofs.Common.{◌≡◌, ◌==◌, ℕ, ◌+◌, ◌≤◌, List, [], ◌∷◌, length, take, drop, Option, Some, None, unwrap_or, Result, Ok, Err, nat_le, cond}
use Rattle.std.proofs.Common.{true, false, Bool, inl, inr, refl, sym, ap, ◌∙◌, subst, arith}
use Rattle.std.specs.Str.{bytes_eq, is_utf8, IsUtf8}
use Rattle.std.proofs.lemmas.List.{length-drop, length-take-le}
use Rattle.std.proofs.lemmas.Str.{IsUtf8-from_is_utf8, is_utf8-from_IsUtf8}
use Rattle.mach_archive.specs.MemberNames.{text_or_fault}
use Rattle.std.proofs.lemmas.Bool.{leb-true, eqb-true}
use Rattle.mach_base.specs.Answer.{◌>>=◌}
use Rattle.mach_base.specs.Fault.{Fault, malformed, bad_offset, bad_input, too_big}
use Rattle.mach_base.specs.Number.{bounded, slice_at, room_at}
use Rattle.mach_base.specs.Sums.{found_or_malformed}
use Rattle.mach_base.proofs.Binds.{bind_ok, chosen, same_ok}
use Rattle.mach_archive.specs.Fields.{word_of, numeral, field_number}
use Rattle.mach_archive.specs.MemberHeaders.{MemberHeader, member_header_at, header_by_fields, header_by_size, header_with, room_following}
use Rattle.mach_archive.specs.MemberHeaders.{long_name_len, named_len, some_len, next_header}
use Rattle.mach_archive.specs.MemberHeaders.{at_most_or_malformed, has_long_name, end_field, size_field}
use Rattle.std.specs.Prelude.{slice_range, ◌-◌}

-- a bounded read that succeeds lies within the bytes
pub bounded_room : {A : Type 0} (n : ℕ) (bytes : List ℕ) (s : ℕ) (found y : A) → bounded n bytes s found ≡ Ok y → s + n ≤ length bytes
bounded_room {A} n bytes s found y e =
    elim (chosen {A = A} (nat_le (length bytes) s) (Err (bad_offset s)) (if_room) (Ok y) e) [
      | inl out ↦ absurd (let wrong = out.1 in cc)
      | inr inside ↦ elim (chosen {A = A} (nat_le (s + n) (length bytes)) (Ok found) (Err (too_big n (length bytes - s))) (Ok y) inside.1) [
        | inl room ↦ leb-true (s + n) (length bytes) room.0
        | inr short ↦ absurd (let wrong = short.1 in cc)
      ]
    ]
  where
    if_room : Result A Fault
    if_room = cond (nat_le (s + n) (length bytes)) (Ok found) (Err (too_big n (length bytes - s)))

-- the value of a bounded read that succeeds
bounded_found : {A : Type 0} (n : ℕ) (bytes : List ℕ) (s : ℕ) (found y : A) → bounded n bytes s found ≡ Ok y → found ≡ y
bounded_found {A} n bytes s found y e =
    elim (chosen {A = A} (nat_le (length bytes) s) (Err (bad_offset s)) (if_room) (Ok y) e) [
      | inl out ↦ absurd (let wrong = out.1 in cc)
      | inr inside ↦ elim (chosen {A = A} (nat_le (s + n) (length bytes)) (Ok found) (Err (too_big n (length bytes - s))) (Ok y) inside.1) [
        | inl room ↦ same_ok room.1
        | inr short ↦ absurd (let wrong = short.1 in cc)
      ]
    ]
  where
    if_room : Result A Fault
    if_room = cond (nat_le (s + n) (length bytes)) (Ok found) (Err (too_big n (length bytes - s)))

-- the header is at the place where it was read, its bytes follow it, and they include a long name
pub record OccursAt (bytes : List ℕ) (h : ℕ) (x : MemberHeader) : Type 0 where
  pub place : x.place ≡ h
  pub room : h + 60 + x.size ≤ length bytes
  pub long : unwrap_or x.long 0 ≤ x.size
  pub fields : x.fields ≡ take 60 (drop h bytes)

room_is : (bytes : List ℕ) (h size room : ℕ) → h + 60 ≤ length bytes → room_following bytes h size ≡ Ok room → h + 60 + size ≤ length bytes
room_is bytes h size room start e = elim (chosen (size == 0) (Ok 0) (room_at size bytes (h + 60)) (Ok room) e) [
  | inl none ↦ let nothing : size ≡ 0 = eqb-true size 0 none.0 in omega arith
  | inr some ↦ bounded_room size bytes (h + 60) size room some.1
]

at_most_is : (most n m : ℕ) → at_most_or_malformed most n ≡ Ok m → m ≤ most
at_most_is most n m e = elim (chosen (nat_le n most) (Ok n) (Err malformed) (Ok m) e) [
  | inl within ↦ let same : n ≡ m = same_ok within.1 in let low : n ≤ most = leb-true n most within.0 in omega arith
  | inr past ↦ absurd (let wrong = past.1 in cc)
]

long_is : (fields : List ℕ) (size : ℕ) (long : Option ℕ) → long_name_len fields size ≡ Ok long → unwrap_or long 0 ≤ size
long_is fields size long e = elim (chosen (has_long_name fields) (named_len fields size >>= some_len) (Ok None) (Ok long) e) [
  | inl there ↦
      let inside = bind_ok (named_len fields size) some_len long there.1 in
      let number = bind_ok (found_or_malformed (numeral 10 (word_of (slice_range fields 3 16)))) (at_most_or_malformed size) inside.0 inside.1 in
      let same : Some inside.0 ≡ long = same_ok inside.2 in
      subst (λ (l : Option ℕ). unwrap_or l 0 ≤ size) same (at_most_is size number.0 inside.0 number.2)
  | inr not_there ↦ let same : None ≡ long = same_ok not_there.1 in subst (λ (l : Option ℕ). unwrap_or l 0 ≤ size) same (omega arith)
]

by_size : (bytes : List ℕ) (h : ℕ) (fields : List ℕ) (size : ℕ) (x : MemberHeader) → h + 60 ≤ length bytes → fields ≡ take 60 (drop h bytes)
    → header_by_size bytes h fields size ≡ Ok x → OccursAt bytes h x
by_size bytes h fields size x start are e =
    let room = bind_ok (room_following bytes h size) (λ (n : ℕ). long_name_len fields size >>= header_with h fields size) x e in
    let long = bind_ok (long_name_len fields size) (header_with h fields size) x room.2 in
    let whole : MemberHeader = record { place = h; fields = fields; size = size; long = long.0 } in
    let same : whole ≡ x = same_ok long.2 in
    subst (λ (y : MemberHeader). OccursAt bytes h y) same
    (record { place = refl; room = room_is bytes h size room.0 start room.1; long = long_is fields size long.0 long.1; fields = are })

by_fields : (bytes : List ℕ) (h : ℕ) (fields : List ℕ) (x : MemberHeader) → h + 60 ≤ length bytes → fields ≡ take 60 (drop h bytes)
    → header_by_fields bytes h fields ≡ Ok x → OccursAt bytes h x
by_fields bytes h fields x start are e =
    elim (chosen (bytes_eq (end_field fields) (0x60 ∷ 0x0a ∷ [])) (found_or_malformed (field_number 10 (size_field fields)) >>= header_by_size bytes h fields)
    (Err malformed) (Ok x) e) [
      | inl ended ↦
          let size = bind_ok (found_or_malformed (field_number 10 (size_field fields))) (header_by_size bytes h fields) x ended.1 in
          by_size bytes h fields size.0 x start are size.2
      | inr other ↦ absurd (let wrong = other.1 in cc)
    ]

pub header_occurs : (bytes : List ℕ) (h : ℕ) (x : MemberHeader) → member_header_at bytes h ≡ Ok x → OccursAt bytes h x
unfolding member_header_at
header_occurs bytes h x e =
    let fields = bind_ok (slice_at 60 bytes h) (header_by_fields bytes h) x e in
    by_fields bytes h fields.0 x (bounded_room 60 bytes h (take 60 (drop h bytes)) fields.0 fields.1)
    (sym (bounded_found 60 bytes h (take 60 (drop h bytes)) fields.0 fields.1)) fields.2

-- the next header lies after this one
pub further : (bytes : List ℕ) (from : ℕ) (h : MemberHeader) → member_header_at bytes from ≡ Ok h → from + 60 ≤ next_header h
further bytes from h e = let there = header_occurs bytes from h e in omega (arith, there.place)

-- the slice has the requested length
pub slice_len : (n : ℕ) (bytes : List ℕ) (s : ℕ) (found : List ℕ) → slice_at n bytes s ≡ Ok found → length found ≡ n
slice_len n bytes s found e =
    let is : take n (drop s bytes) ≡ found = bounded_found n bytes s (take n (drop s bytes)) found e in
    let room = bounded_room n bytes s (take n (drop s bytes)) found e in
    ap length (sym is) ∙ length-take-le n (drop s bytes) (omega (arith, room, length-drop s bytes))

-- the text of a name that is UTF-8
pub text_is : (name text : List ℕ) → (text ≡ name) × IsUtf8 name → text_or_fault name ≡ Ok text
text_is name text good = let test : is_utf8 name ≡ true = is_utf8-from_IsUtf8 name good.1 in rw test (ap Ok (sym good.0))

not_text_by : (name : List ℕ) (b : Bool) → is_utf8 name ≡ b → ¬ IsUtf8 name → is_utf8 name ≡ false
not_text_by name true e bad = absurd (bad (IsUtf8-from_is_utf8 name e))
not_text_by name false e bad = e

pub text_is_none : (name : List ℕ) → ¬ IsUtf8 name → text_or_fault name ≡ Err (bad_input (length name))
text_is_none name bad = let test : is_utf8 name ≡ false = not_text_by name (is_utf8 name) refl bad in rw test refl
