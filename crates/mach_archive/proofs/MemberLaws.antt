-- Laws of members: there is only one list, its members lie one after another, and no more than fit.
use Rattle.std.proofs.Common.{◌≡◌, ℕ, ◌+◌, ◌-◌, ◌*◌, ◌<◌, ◌≤◌, List, [], ◌∷◌, length, map, drop, Result, Ok, Err, unwrap_or, refl, sym, ap, ◌∙◌, subst, arith}
use Rattle.std.proofs.lemmas.List.{length-take}
use Rattle.mach_base.specs.Fault.{Fault}
use Rattle.mach_base.proofs.Binds.{same_ok}
use Rattle.mach_archive.specs.MemberHeaders.{MemberHeader, member_header_at, next_header}
use Rattle.mach_archive.specs.Members.{LongNames, MemberView, member_of, AreMembers, IsMembers}
use Rattle.mach_archive.proofs.HeadersRead.{header_occurs, further}

-- only one header is at a place
same_header : (bytes : List ℕ) (from : ℕ) (g h : MemberHeader) → member_header_at bytes from ≡ Ok g → member_header_at bytes from ≡ Ok h → g ≡ h
same_header bytes from g h a b = same_ok (sym a ∙ b)

pub one_list : (bytes : List ℕ) (names : LongNames) (from : ℕ) (xs ys : List (Result MemberView Fault)) → AreMembers bytes names from xs
    → AreMembers bytes names from ys → xs ≡ ys
one_list bytes names from [] [] a b = refl
one_list bytes names from [] (Ok m ∷ ys) a b = absurd (let inside = b.0 in omega arith)
one_list bytes names from [] (Err f ∷ ys) a b = absurd (let inside = b.0 in omega arith)
one_list bytes names from (Ok m ∷ xs) [] a b = absurd (let inside = a.0 in omega arith)
one_list bytes names from (Err f ∷ xs) [] a b = absurd (let inside = a.0 in omega arith)
one_list bytes names from (Ok m ∷ xs) (Err f ∷ ys) a b = absurd (let one = a.1.1 in let other = b.1 in cc)
one_list bytes names from (Err f ∷ xs) (Ok m ∷ ys) a b = absurd (let one = a.1 in let other = b.1.1 in cc)
one_list bytes names from (Err f ∷ xs) (Err g ∷ ys) a b =
    let one = a.1 in let other = b.1 in let none = a.2 in let nothing = b.2 in cc
one_list bytes names from (Ok m ∷ xs) (Ok n ∷ ys) a b =
    let h = a.1.0 in
    let g = b.1.0 in
    let same : h ≡ g = same_header bytes from h g a.1.1 b.1.1 in
    let there : AreMembers bytes names (next_header h) ys = subst (λ (x : MemberHeader). AreMembers bytes names (next_header x) ys) (sym same) b.1.3 in
    let others : xs ≡ ys = one_list bytes names (next_header h) xs ys a.1.3 there in
    let item : m ≡ n = a.1.2 ∙ (ap (member_of bytes names) same ∙ sym b.1.2) in
    cc

-- the places of the headers, one for each member
pub places_of_members : (bytes : List ℕ) (names : LongNames) (from : ℕ) (ms : List MemberView) → AreMembers bytes names from (map Ok ms)
    → IsMembers bytes from (map (λ m. m.offset) ms)
places_of_members bytes names from [] a = a
places_of_members bytes names from (m ∷ ms) a =
    let h = a.1.0 in
    let there = header_occurs bytes from h a.1.1 in
    let place : m.offset ≡ from = ap (λ (v : MemberView). v.offset) a.1.2 ∙ there.place in
    (place, a.0, (h, a.1.1, places_of_members bytes names (next_header h) ms a.1.3))

-- the members at such places
pub members_at_places : (bytes : List ℕ) (names : LongNames) (from : ℕ) (places : List ℕ) → IsMembers bytes from places
    → (ms : List MemberView) × AreMembers bytes names from (map Ok ms) × (map (λ m. m.offset) ms ≡ places)
members_at_places bytes names from [] a = ([], a, refl)
members_at_places bytes names from (place ∷ places) a =
    let h = a.2.0 in
    let there = header_occurs bytes from h a.2.1 in
    let others = members_at_places bytes names (next_header h) places a.2.2 in
    let is : h.place ≡ place = there.place ∙ sym a.0 in
    (member_of bytes names h ∷ others.0, (a.1, (h, a.2.1, refl, others.1)), cc (is, others.2))

-- 60 bytes for each member, and at least one byte for a fault
pub no_more_than_fit : (bytes : List ℕ) (names : LongNames) (from : ℕ) (items : List (Result MemberView Fault)) → AreMembers bytes names from items
    → from < length bytes → from + 60 * length items < length bytes + 60
no_more_than_fit bytes names from [] a inside = omega arith
no_more_than_fit bytes names from (Err f ∷ items) a inside = let one = ap length a.2 in omega arith
no_more_than_fit bytes names from (Ok m ∷ []) a inside =
    omega arith
no_more_than_fit bytes names from (Ok m ∷ Ok n ∷ items) a inside =
    let on = further bytes from a.1.0 a.1.1 in
    let others = no_more_than_fit bytes names (next_header a.1.0) (Ok n ∷ items) a.1.3 a.1.3.0 in
    omega arith
no_more_than_fit bytes names from (Ok m ∷ Err f ∷ items) a inside =
    let on = further bytes from a.1.0 a.1.1 in
    let others = no_more_than_fit bytes names (next_header a.1.0) (Err f ∷ items) a.1.3 a.1.3.0 in
    omega arith

fit : (bytes : List ℕ) (from place : ℕ) (places : List ℕ) → IsMembers bytes from (place ∷ places) → from + 60 * length (place ∷ places) ≤ length bytes
fit bytes from place [] a = let there = header_occurs bytes from a.2.0 a.2.1 in omega (arith, there.room)
fit bytes from place (next ∷ places) a =
    let on = further bytes from a.2.0 a.2.1 in
    let others = fit bytes (next_header a.2.0) next places a.2.2 in
    omega arith

-- all of them, if there is no fault
pub members_fit : (bytes : List ℕ) (from : ℕ) (places : List ℕ) → IsMembers bytes from places → 60 * length places ≤ length bytes
members_fit bytes from [] a = omega arith
members_fit bytes from (place ∷ places) a = let within = fit bytes from place places a in omega arith

-- a member's bytes end before the next header
pub one_after_another : (bytes : List ℕ) (names : LongNames) (from : ℕ) (m n : MemberView) (items : List (Result MemberView Fault))
    → AreMembers bytes names from (Ok m ∷ Ok n ∷ items) → m.start + length m.bytes ≤ n.offset
one_after_another bytes names from m n items a =
    let h = a.1.0 in
    let there = header_occurs bytes from h a.1.1 in
    let next = header_occurs bytes (next_header h) a.1.3.1.0 a.1.3.1.1 in
    let start : m.start ≡ h.place + 60 + unwrap_or h.long 0 = ap (λ (v : MemberView). v.start) a.1.2 in
    let few : length m.bytes ≤ h.size - unwrap_or h.long 0 =
    subst (λ (v : MemberView). length v.bytes ≤ h.size - unwrap_or h.long 0) (sym a.1.2)
    (omega (arith, length-take (h.size - unwrap_or h.long 0) (drop (h.place + 60 + unwrap_or h.long 0) bytes)))
    in
    let place : n.offset ≡ next_header h = ap (λ (v : MemberView). v.offset) a.1.3.1.2 ∙ next.place in
    omega (arith, start, few, place, there.long)
