-- The next of some items, if those before it were taken.
use Rattle.std.proofs.Common.{◌≡◌, ℕ, zero, suc, ◌+◌, List, [], ◌∷◌, drop, Option, Some, None, MatchOption, slice_get, refl, sym, ap, ◌∙◌, arith}

none_ahead : {X : Type 0} (xs : List X) (k : ℕ) → drop k xs ≡ [] → (slice_get xs k ≡ None) × (drop (suc k) xs ≡ [])
none_ahead [] zero e = (refl, refl)
none_ahead [] (suc k) e = (refl, refl)
none_ahead (y ∷ ys) zero e = absurd (cc)
none_ahead (y ∷ ys) (suc k) e = none_ahead ys k e

some_ahead : {X : Type 0} (xs : List X) (k : ℕ) (x : X) (rest : List X) → drop k xs ≡ x ∷ rest → (slice_get xs k ≡ Some x) × (rest ≡ drop (suc k) xs)
some_ahead [] zero x rest e = absurd (cc)
some_ahead [] (suc k) x rest e = absurd (cc)
some_ahead (y ∷ ys) zero x rest e = (cc, cc)
some_ahead (y ∷ ys) (suc k) x rest e = some_ahead ys k x rest e

-- the item that an iterator returns next is item k, and those after it are left
pub next_ahead : {X : Type 0} (xs : List X) (k : ℕ) (r : Option X) (rest left : List X) → rest ≡ drop k xs
    → MatchOption r ((rest ≡ []) × (left ≡ [])) (λ x. rest ≡ x ∷ left) → (slice_get xs k ≡ r) × (left ≡ drop (k + 1) xs)
next_ahead xs k None rest left at steps =
    let one_more : suc k ≡ k + 1 = omega arith in
    let none = none_ahead xs k (sym at ∙ steps.0) in
    (none.0, steps.1 ∙ sym none.1 ∙ ap (λ (n : ℕ). drop n xs) one_more)
next_ahead xs k (Some x) rest left at steps =
    let one_more : suc k ≡ k + 1 = omega arith in
    let some = some_ahead xs k x left (sym at ∙ steps) in
    (some.0, some.1 ∙ ap (λ (n : ℕ). drop n xs) one_more)
