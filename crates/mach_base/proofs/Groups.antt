-- Groups of seven bits: their number, and where they end.
use Rattle.std.proofs.Common.{◌≡◌, ℕ, zero, suc, ◌+◌, ◌-◌, ◌*◌, ◌%◌, ◌^◌, ◌<◌, ◌≤◌, true, false, Bool, List, [], ◌∷◌, ◌++◌, length, take, drop}
use Rattle.std.proofs.Common.{get_or, Option, Some, None, option_map, Ok, Err, nat_le, nat_lt, inl, inr, refl, sym, ap, subst, ◌∙◌, arith}
use Rattle.std.proofs.lemmas.Bool.{cases_lt, cases_Bool, lt-ltb, le-ltb, lt-leb, le-leb}
use Rattle.std.proofs.lemmas.List.{take_more, length-take, length-take-le, get_or-take}
use Rattle.std.proofs.Math.Nat.{pow-suc, pow-le-pow_right, mul_assoc, mul_comm, mul-le-mul_right}
use Rattle.mach_base.specs.Fault.{bad_input}
use Rattle.mach_base.specs.Leb128.{groups_value, IsGroups, first_groups, spelled_at, leb_at}
use Rattle.mach_base.proofs.Binds.{same_ok}

shuffle : (a p q : ℕ) → p ≡ q * 128 → a * p ≡ 128 * (a * q)
shuffle a p q e = rw e (sym (mul_assoc a q 128) ∙ mul_comm (a * q) 128)

groups_value-push : (xs : List ℕ) (b : ℕ) → groups_value (xs ++ b ∷ []) ≡ groups_value xs + (b % 128) * 128 ^ length xs
groups_value-push [] b = omega arith
groups_value-push (x ∷ xs) b =
    let ih = groups_value-push xs b in
    let m = shuffle (b % 128) (128 ^ suc (length xs)) (128 ^ length xs) (pow-suc 128 (length xs)) in
    omega (arith, ih, m)

-- one more group
pub groups_value-take : (xs : List ℕ) (i : ℕ) → i < length xs → groups_value (take (i + 1) xs) ≡ groups_value (take i xs) + (get_or xs i 0 % 128) * 128 ^ i
groups_value-take xs i lt =
    let len : length (take i xs) ≡ i = length-take-le i xs (omega arith) in
    ap groups_value (take_more xs i 0 lt) ∙ groups_value-push (take i xs) (get_or xs i 0) ∙
    ap (λ (n : ℕ). groups_value (take i xs) + (get_or xs i 0 % 128) * 128 ^ n) len

-- a bound for the groups so far and one more
pub group_below : (v b w : ℕ) → v < w → v + (b % 128) * w < w * 128
group_below v b w lt =
    let top : (b % 128) * w ≤ 127 * w = mul-le-mul_right w (omega arith) in
    omega arith

pub weight_below : (i w : ℕ) → w ≡ 128 ^ i → i < 9 → w * 128 ≤ 2 ^ 63
weight_below i w e lt =
    let p : 128 ^ i ≤ 128 ^ 8 = (let eight : i ≤ 8 = omega arith in let some : 0 < 128 = omega arith in pow-le-pow_right some eight) in
    omega arith

-- bytes with bit 7 set, followed by one with bit 7 clear
pub IsGroups-from : (xs : List ℕ) (i : ℕ) → length xs ≡ i + 1 → ((k : ℕ) → k < i → 128 ≤ get_or xs k 0) → get_or xs i 0 < 128 → IsGroups xs
IsGroups-from [] i len on last = absurd (omega arith)
IsGroups-from (b ∷ []) zero len on last = last
IsGroups-from (b ∷ []) (suc i) len on last = absurd (omega arith)
IsGroups-from (b ∷ c ∷ bs) zero len on last = absurd (omega arith)
IsGroups-from (b ∷ c ∷ bs) (suc i) len on last =
    (on 0 (omega arith), IsGroups-from (c ∷ bs) i (omega arith) (λ k lt. on (suc k) (omega arith)) last)

-- groups have a last byte, below 128
IsGroups-last : (xs : List ℕ) → IsGroups xs → (i : ℕ) × (length xs ≡ i + 1) × (get_or xs i 0 < 128)
IsGroups-last [] h = absurd h
IsGroups-last (b ∷ []) h = (0, refl, h)
IsGroups-last (b ∷ c ∷ bs) h =
    let r = IsGroups-last (c ∷ bs) h.1 in
    (suc r.0, omega (arith, r.1), r.2)

-- groups with which some bytes begin end at the first byte below 128
pub groups_end : (xs : List ℕ) (i k : ℕ) → ((j : ℕ) → j < i → 128 ≤ get_or xs j 0) → IsGroups (take k xs)
    → (j : ℕ) × (i ≤ j) × (length (take k xs) ≡ j + 1) × (j < length xs) × (get_or xs j 0 < 128)
groups_end xs i k on groups =
    let last = IsGroups-last (take k xs) groups in
    let j = last.0 in
    let shown = length-take k xs in
    let same : get_or (take k xs) j 0 ≡ get_or xs j 0 = get_or-take k xs j 0 (omega (arith, shown, last.1)) in
    let low : get_or xs j 0 < 128 = omega (arith, same, last.2) in
    let from : i ≤ j = elim (cases_lt j i) [ inl below ↦ absurd (omega (arith, on j below, low)) | inr le ↦ le ] in
    (j, from, last.1, omega (arith, shown, last.1), low)

-- groups with which some bytes begin are their first groups
pub first_groups-front : (spelled xs : List ℕ) → IsGroups spelled → take (length spelled) xs ≡ spelled → first_groups xs ≡ Some spelled
first_groups-front [] xs h e = absurd h
first_groups-front (b ∷ []) [] h e = absurd (cc)
first_groups-front (b ∷ []) (x ∷ xs) h e =
    let same : x ≡ b = cc in
    let low : nat_lt x 128 ≡ true = rw same (lt-ltb b 128 h) in
    rw low (rw same refl)
first_groups-front (b ∷ c ∷ bs) [] h e = absurd (cc)
first_groups-front (b ∷ c ∷ bs) (x ∷ xs) h e =
    let same : x ≡ b = cc in
    let rest : take (length (c ∷ bs)) xs ≡ c ∷ bs = cc in
    let high : nat_lt x 128 ≡ false = rw same (le-ltb b 128 h.0) in
    rw (high, first_groups-front (c ∷ bs) xs h.1 rest) (rw same refl)

option_map-is : (x : ℕ) (o : Option (List ℕ)) (g : List ℕ) → option_map (λ others. x ∷ others) o ≡ Some g
    → (others : List ℕ) × (o ≡ Some others) × (g ≡ x ∷ others)
option_map-is x None g e = absurd (cc)
option_map-is x (Some others) g e = (others, refl, cc)

IsGroups-cons : (x : ℕ) (g : List ℕ) → 128 ≤ x → IsGroups g → IsGroups (x ∷ g)
IsGroups-cons x [] h rest = absurd rest
IsGroups-cons x (c ∷ g) h rest = (h, rest)

-- the first groups of some bytes are groups with which they begin
pub first_groups-is : (xs g : List ℕ) → first_groups xs ≡ Some g → IsGroups g × (take (length g) xs ≡ g)
first_groups-is [] g e = absurd (cc)
first_groups-is (x ∷ xs) g e = elim (cases_lt x 128) [
  | inl low ↦
      let test : nat_lt x 128 ≡ true = lt-ltb x 128 low in
      let same : x ∷ [] ≡ g = (let made : Some (x ∷ []) ≡ Some g = rw test at e in cc) in
      subst (λ (g : List ℕ). IsGroups g × (take (length g) (x ∷ xs) ≡ g)) same (low, refl)
  | inr high ↦
      let test : nat_lt x 128 ≡ false = le-ltb x 128 high in
      let made : option_map (λ others. x ∷ others) (first_groups xs) ≡ Some g = rw test at e in
      let m = option_map-is x (first_groups xs) g made in
      let rest = first_groups-is xs m.0 m.1 in
      subst (λ (g : List ℕ). IsGroups g × (take (length g) (x ∷ xs) ≡ g)) (sym m.2) (IsGroups-cons x m.0 high rest.0, ap (λ (l : List ℕ). x ∷ l) rest.1)
]

module _ {V : Type 0} (short : List ℕ → Bool) (value : List ℕ → V) (bytes : List ℕ) (s : ℕ) where
  -- the value of the groups that lie at s
  pub leb_at-here : (spelled : List ℕ) → s < length bytes → take (length spelled) (drop s bytes) ≡ spelled → IsGroups spelled → short spelled ≡ true
      → leb_at short value bytes s ≡ Ok (value spelled, s + length spelled)
  leb_at-here spelled inside here groups fits =
      let test : nat_le (length bytes) s ≡ false = lt-leb (length bytes) s inside in
      rw (test, first_groups-front spelled (drop s bytes) groups here, fits) refl

  unspelled : (o : Option (List ℕ)) → first_groups (drop s bytes) ≡ o
      → ((k : ℕ) → IsGroups (take k (drop s bytes)) → short (take k (drop s bytes)) ≡ true → ⊥)
      → spelled_at short value bytes s o ≡ Err (bad_input (length bytes - s))
  unspelled None e none = refl
  unspelled (Some g) e none = elim (cases_Bool (short g)) [
    | inl fits ↦
        let is = first_groups-is (drop s bytes) g e in
        absurd (none (length g) (subst IsGroups (sym is.1) is.0) (subst (λ (l : List ℕ). short l ≡ true) (sym is.1) fits))
    | inr long ↦ rw long refl
  ]

  -- the fault if there are none
  pub leb_at-none : s < length bytes → ((k : ℕ) → IsGroups (take k (drop s bytes)) → short (take k (drop s bytes)) ≡ true → ⊥)
      → leb_at short value bytes s ≡ Err (bad_input (length bytes - s))
  leb_at-none inside none =
      let test : nat_le (length bytes) s ≡ false = lt-leb (length bytes) s inside in
      rw test (unspelled (first_groups (drop s bytes)) refl none)

  -- groups whose value was read
  abbrev WereRead : V → ℕ → Type 0
  WereRead v after = (g : List ℕ) × (take (length g) (drop s bytes) ≡ g) × IsGroups g × (short g ≡ true) × (value g ≡ v) × (s + length g ≡ after)

  found : (v : V) (after : ℕ) (o : Option (List ℕ)) → first_groups (drop s bytes) ≡ o → spelled_at short value bytes s o ≡ Ok (v, after) → WereRead v after
  found v after None e read = absurd (cc)
  found v after (Some g) e read = elim (cases_Bool (short g)) [
    | inr long ↦ absurd (let wrong = rw long at read in cc)
    | inl fits ↦
        let is = first_groups-is (drop s bytes) g e in
        let made : ◌≡◌ {A = V × ℕ} (value g, s + length g) (v, after) = same_ok (rw fits at read) in
        (g, is.1, is.0, fits, ap (λ (x : V × ℕ). x.0) made, ap (λ (x : V × ℕ). x.1) made)
  ]

  pub leb_at-read : (v : V) (after : ℕ) → leb_at short value bytes s ≡ Ok (v, after) → WereRead v after
  leb_at-read v after e = elim (cases_lt s (length bytes)) [
    | inl inside ↦ found v after (first_groups (drop s bytes)) refl
        (let test : nat_le (length bytes) s ≡ false = lt-leb (length bytes) s inside in rw test at e)
    | inr out ↦ absurd (let test : nat_le (length bytes) s ≡ true = le-leb (length bytes) s out in let wrong = rw test at e in cc)
  ]
