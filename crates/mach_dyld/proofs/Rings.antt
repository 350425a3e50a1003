-- Places on a ring, with the shorter step of the two directions, and the first places of each new round.
use Rattle.std.proofs.Common.{◌≡◌, ℕ, zero, suc, ◌+◌, ◌-◌, ◌*◌, ◌/◌, ◌%◌, ◌<◌, ◌≤◌, inl, inr, sym, ap, subst, ◌∙◌, arith}
use Rattle.std.specs.Prelude.{◌↔◌}
use Rattle.std.proofs.Math.Nat.{add-mul-mod_self_right, mod-add-div', mod-eq_of_lt, mod-lt, lt_of_mul-lt-mul_right, mul-le-mul_right}
use Rattle.std.proofs.Math.Nat.{div-mul-le_self}
use Rattle.std.proofs.lemmas.Bool.{cases_lt}
use Rattle.std.proofs.lemmas.Nat.{mod-mul-add, le-div}
use Rattle.mach_dyld.proofs.BindModulus.{mod-add_first}
use Rattle.mach_dyld.specs.Turns.{turn_place, AnyBelow, last_turn_place, IsRing}
use Rattle.mach_dyld.specs.declared.stride.Turns.{Turns}

-- ---- the shorter step

abbrev turned : Turns → Turns
turned t = record { count = t.count; first = last_turn_place t % t.size; step = t.size - t.step; size = t.size }

-- place j in the other direction is place n, if j and n add up to the last number
turned_place : (t : Turns) (j n : ℕ) → t.step < t.size → j + n + 1 ≡ t.count → turn_place (turned t) j ≡ turn_place t n
turned_place t j n small same =
    let e : ℕ = t.size - t.step in
    let size : t.size ≡ e + t.step = omega (arith, small) in
    let count : t.count - 1 ≡ j + n = omega (arith, same) in
    let all : (t.first + (j + n) * t.step) + j * e ≡ (t.first + n * t.step) + j * (e + t.step) = omega arith in
    mod-add_first (last_turn_place t) (j * e) t.size
    ∙ ap (λ k. (t.first + k * t.step + j * e) % t.size) count
    ∙ ap (λ k. k % t.size) (all ∙ ap (λ s. t.first + n * t.step + j * s) (sym size))
    ∙ add-mul-mod_self_right (t.first + n * t.step) j t.size

pub turned_same : (t : Turns) (limit : ℕ) → t.step < t.size → AnyBelow limit (turned t) ↔ AnyBelow limit t
turned_same t limit small = (
  λ (j, lt, below).
      let n : ℕ = t.count - 1 - j in
      let same : j + n + 1 ≡ t.count = omega (arith, lt) in
      (n, omega (arith, same), subst (λ k. k < limit) (turned_place t j n small same) below),
  λ (n, lt, below).
      let j : ℕ = t.count - 1 - n in
      let same : j + n + 1 ≡ t.count = omega (arith, lt) in
      (j, omega (arith, same), subst (λ k. k < limit) (sym (turned_place t j n small same)) below),
)

-- ---- the first places of each new round

positive : (w size v at : ℕ) → v + w * size ≡ at → v < at → 0 < w
positive zero size v at e lt = absurd (omega (arith, e, lt))
positive (suc w) size v at e lt = omega arith

add-mul : (a b c : ℕ) → (a + b) * c ≡ a * c + b * c
add-mul a b c = omega arith

by_one : (count step : ℕ) → 0 < count → count * step ≡ (count - 1) * step + step
by_one zero step some = absurd (omega (arith, some))
by_one (suc n) step some = let e : suc n - 1 ≡ n = omega arith in rw e (omega arith)

-- the distance from a whole ring to the next multiple of the step
abbrev back_of : Turns → ℕ
back_of t = t.step - t.size % t.step

abbrev following : Turns → Turns
following t = record { count = last_turn_place t / t.size; first = (t.first + back_of t) % t.step; step = back_of t % t.step; size = t.step }

-- a whole ring and that distance are whole steps
whole_steps : (t : Turns) → 0 < t.step → t.size + back_of t ≡ (t.size / t.step + 1) * t.step
whole_steps t some =
    let rest = mod-lt t.size some in
    let parts = mod-add-div' t.size t.step in
    omega (arith, rest, parts)

mod-mul_second : (a k b m : ℕ) → (a + k * (b % m)) % m ≡ (a + k * b) % m
mod-mul_second a k b m =
    let q : ℕ = b / m in
    let parts : b ≡ b % m + q * m = sym (mod-add-div' b m) in
    let whole : (a + k * (b % m)) + (k * q) * m ≡ a + k * (b % m + q * m) = omega arith in
    sym (add-mul-mod_self_right (a + k * (b % m)) (k * q) m) ∙ ap (λ n. n % m) (whole ∙ ap (λ c. a + k * c) (sym parts))

-- place k among the first places of new rounds
after_place : (t : Turns) (k : ℕ) → turn_place (following t) k ≡ (t.first + (k + 1) * back_of t) % t.step
after_place t k =
    let back : ℕ = back_of t in
    let all : t.first + back + k * back ≡ t.first + (k + 1) * back = omega arith in
    mod-add_first (t.first + back) (k * (back % t.step)) t.step
    ∙ mod-mul_second (t.first + back) k back t.step
    ∙ ap (λ n. n % t.step) all

module _ (t : Turns) (limit : ℕ) (ring : IsRing t) (some : 0 < t.count) (step : 0 < t.step) (above : limit ≤ t.first) (short : limit < t.step) where
  abbrev back : ℕ
  back = back_of t

  abbrev q : ℕ
  q = t.size / t.step + 1

  -- w rounds and w times `back` are whole steps
  rounds : (w : ℕ) → w * t.size + w * back ≡ w * q * t.step
  rounds w =
      let whole : t.size + back ≡ q * t.step = whole_steps t step in
      let out : w * t.size + w * back ≡ w * (t.size + back) = omega arith in
      let in_ : w * (q * t.step) ≡ w * q * t.step = omega arith in
      out ∙ ap (λ n. w * n) whole ∙ in_

  from_there : AnyBelow limit t → AnyBelow limit (following t)
  from_there (j, lt, below) =
      let at : ℕ = t.first + j * t.step in
      let w : ℕ = at / t.size in
      let v : ℕ = at % t.size in
      let parts : v + w * t.size ≡ at = mod-add-div' at t.size in
      let first : 0 < w = positive w t.size v at parts (omega (arith, below, above)) in
      let k : ℕ = w - 1 in
      let next : k + 1 ≡ w = omega (arith, first) in
      let upto : j ≤ t.count - 1 = omega (arith, lt) in
      let steps : j * t.step ≤ (t.count - 1) * t.step = mul-le-mul_right t.step upto in
      let full : w * t.size ≤ last_turn_place t = omega (arith, parts, steps) in
      let first_small = ring.first in
      let counted : w ≤ last_turn_place t / t.size = le-div w (last_turn_place t) t.size (omega (arith, first_small)) full in
      let whole = rounds w in
      let sum : (t.first + w * back) + j * t.step ≡ v + w * q * t.step = omega (arith, parts, whole) in
      let there : (t.first + w * back) % t.step ≡ v =
      sym (add-mul-mod_self_right (t.first + w * back) j t.step) ∙ ap (λ n. n % t.step) sum
      ∙ add-mul-mod_self_right v (w * q) t.step ∙ mod-eq_of_lt (omega (arith, below, short)) in
      let place : turn_place (following t) k ≡ v = after_place t k ∙ ap (λ n. (t.first + n * back) % t.step) next ∙ there in
      (k, omega (arith, counted, next), subst (λ n. n < limit) (sym place) below)

  from_here : AnyBelow limit (following t) → AnyBelow limit t
  from_here (k, lt, there) =
      let w : ℕ = k + 1 in
      let v : ℕ = (t.first + w * back) % t.step in
      let p : ℕ = (t.first + w * back) / t.step in
      let below : v < limit = subst (λ n. n < limit) (after_place t k) there in
      let parts : v + p * t.step ≡ t.first + w * back = mod-add-div' (t.first + w * back) t.step in
      let whole = rounds w in
      let sum : w * t.size + v + p * t.step ≡ t.first + w * q * t.step = omega (arith, parts, whole) in
      let first = ring.first in
      let small = ring.step in
      let one : t.size ≤ w * t.size = omega arith in
      let fits : p ≤ w * q = no_more (w * q) p (w * t.size) v sum (omega (arith, one, first)) in
      let j : ℕ = w * q - p in
      let made : j + p ≡ w * q = omega (arith, fits) in
      let products : j * t.step + p * t.step ≡ w * q * t.step = sym (add-mul j p t.step) ∙ ap (λ n. n * t.step) made in
      let at : w * t.size + v ≡ t.first + j * t.step = omega (arith, sum, products) in
      let counted : w ≤ last_turn_place t / t.size = omega (arith, lt) in
      let most : w * t.size ≤ last_turn_place t / t.size * t.size = mul-le-mul_right t.size counted in
      let laid : last_turn_place t / t.size * t.size ≤ last_turn_place t = div-mul-le_self (last_turn_place t) t.size in
      let last : t.count * t.step ≡ (t.count - 1) * t.step + t.step = by_one t.count t.step some in
      let steps : j * t.step < t.count * t.step = omega (arith, at, most, laid, last, below, short) in (
        j,
        lt_of_mul-lt-mul_right t.step steps,
        subst (λ n. n % t.size < limit) at (subst (λ n. n < limit) (sym (mod-mul-add w t.size v (omega (arith, below, short, small)))) below),
      )
    where
      no_more : (most p n v : ℕ) → n + v + p * t.step ≡ t.first + most * t.step → t.first < n → p ≤ most
      no_more most p n v sum past = elim (cases_lt most p) [
        | inl more ↦
            let steps : (most + 1) * t.step ≤ p * t.step = mul-le-mul_right t.step (omega (arith, more)) in absurd (omega (arith, sum, past, steps))
        | inr le ↦ le
      ]

  pub after_same : AnyBelow limit (following t) ↔ AnyBelow limit t
  after_same = (from_here, from_there)

-- ---- a step of at most the limit

module _ (t : Turns) (limit : ℕ) (ring : IsRing t) (some : 0 < t.count) (above : limit ≤ t.first) (short : t.step ≤ limit) where
  -- the first place after the first round
  crossing : (n : ℕ) → t.size ≤ t.first + n * t.step
      → (j : ℕ) × (j ≤ n) × (t.size ≤ t.first + j * t.step) × (t.first + j * t.step < t.size + t.step)
  crossing zero past = let first = ring.first in absurd (omega (arith, past, first))
  crossing (suc n) past = elim (cases_lt (t.first + n * t.step) t.size) [
    | inl before ↦ (suc n, omega arith, past, omega (arith, before))
    | inr there ↦ let found = crossing n there in let upto = found.1 in (found.0, omega (arith, upto), found.2, found.3)
  ]

  over_end : t.size ≤ last_turn_place t → AnyBelow limit t
  over_end past =
      let found = crossing (t.count - 1) past in
      let j : ℕ = found.0 in
      let upto = found.1 in
      let following = found.2 in
      let near = found.3 in
      let small = ring.step in
      let r : ℕ = t.first + j * t.step - t.size in
      let at : 1 * t.size + r ≡ t.first + j * t.step = omega (arith, following) in
      let below : r < limit = omega (arith, near, short, following) in
      let here : turn_place t j ≡ r = ap (λ n. n % t.size) (sym at) ∙ mod-mul-add 1 t.size r (omega (arith, near, small, following)) in
      (j, omega (arith, upto, some), subst (λ n. n < limit) (sym here) below)

  has_end : AnyBelow limit t → t.size ≤ last_turn_place t
  has_end (j, lt, below) = elim (cases_lt (last_turn_place t) t.size) [
    | inl before ↦
        let upto : j ≤ t.count - 1 = omega (arith, lt) in
        let steps : j * t.step ≤ (t.count - 1) * t.step = mul-le-mul_right t.step upto in
        let here : turn_place t j ≡ t.first + j * t.step = mod-eq_of_lt (omega (arith, steps, before)) in
        let same : t.first + j * t.step < limit = subst (λ n. n < limit) here below in
        absurd (omega (arith, same, above))
    | inr past ↦ past
  ]

  pub one_round : t.size ≤ last_turn_place t ↔ AnyBelow limit t
  one_round = (over_end, has_end)

-- the first place
pub at_first : (t : Turns) (limit : ℕ) → IsRing t → 0 < t.count → t.first < limit → AnyBelow limit t
at_first t limit ring some below =
    let none : t.first + 0 * t.step ≡ t.first = omega arith in
    let here : turn_place t 0 ≡ t.first = ap (λ n. n % t.size) none ∙ mod-eq_of_lt ring.first in
    (0, some, subst (λ n. n < limit) (sym here) below)
