-- Lists whose items are computed from their number.
use Rattle.std.proofs.Common.{◌≡◌, ℕ, zero, suc, ◌+◌, ◌-◌, ◌<◌, ◌∷◌, length, drop, Result, Ok, Err, Some, slice_get, refl, sym, ap, ◌∙◌, arith}
use Rattle.mach_base.specs.declared.error.Error.{Error}
use Rattle.mach_base.specs.Answer.{Reads}
use Rattle.mach_base.specs.Fault.{Fault}
use Rattle.mach_base.specs.Items.{items_from, read_as}

-- there are `count` items
pub length-items_from : {A : Type 0} (item : ℕ → A) (first count : ℕ) → length (items_from item first count) ≡ count
length-items_from item first zero = refl
length-items_from item first (suc count) = ap suc (length-items_from item (first + 1) count)

-- the first of the remaining items
pub items_from-first : {A : Type 0} (item : ℕ → A) (first count : ℕ) → first < count
    → items_from item first (count - first) ≡ item first ∷ items_from item (first + 1) (count - (first + 1))
items_from-first item first count inside =
    let one_more : count - first ≡ suc (count - (first + 1)) = omega arith in
    ap (λ (n : ℕ). items_from item first n) one_more

-- after the first there are fewer
pub fewer_left : {A : Type 0} (item : ℕ → A) (first count : ℕ) → first < count
    → length (items_from item (first + 1) (count - (first + 1))) < length (items_from item first (count - first))
fewer_left item first count inside =
    omega (arith, inside, length-items_from item first (count - first), length-items_from item (first + 1) (count - (first + 1)))

-- a result as it reads
pub read_as-Reads : {X Y : Type 0} (view : X → Y) (answer : Result X Error) (there : Result Y Fault) → Reads view answer there → read_as view answer ≡ there
read_as-Reads view (Ok x) there reads = sym reads
read_as-Reads view (Err e) there reads = sym reads

-- the item at an index of a list is that of its number
pub slice_get-items_from : {A : Type 0} (item : ℕ → A) (first count k : ℕ) → k < count → slice_get (items_from item first count) k ≡ Some (item (first + k))
slice_get-items_from item first zero k inside = absurd (omega (arith, inside))
slice_get-items_from item first (suc count) zero inside = ap (λ (n : ℕ). Some (item n)) (omega arith)
slice_get-items_from item first (suc count) (suc k) inside =
    slice_get-items_from item (first + 1) count k (omega (arith, inside)) ∙ ap (λ (n : ℕ). Some (item n)) (omega arith)

-- the same for a list that begins with number 0
pub slice_get-items : {A : Type 0} (item : ℕ → A) (count k : ℕ) → k < count → slice_get (items_from item 0 count) k ≡ Some (item k)
slice_get-items item count k inside = slice_get-items_from item 0 count k inside ∙ ap (λ (n : ℕ). Some (item n)) (omega arith)

-- the items after the first ones
drop-items_from : {A : Type 0} (item : ℕ → A) (first count k : ℕ) → drop k (items_from item first count) ≡ items_from item (first + k) (count - k)
drop-items_from item first count zero =
    let same : first + 0 ≡ first = omega arith in
    let all : count - 0 ≡ count = omega arith in rw (same, all) refl
drop-items_from item first zero (suc k) = let none : 0 - suc k ≡ 0 = omega arith in rw none refl
drop-items_from item first (suc count) (suc k) =
    let same : (first + 1) + k ≡ first + suc k = omega arith in
    let fewer : suc count - suc k ≡ count - k = omega arith in
    drop-items_from item (first + 1) count k ∙ rw (same, fewer) refl

-- the same for a list that begins with number 0
pub drop-items : {A : Type 0} (item : ℕ → A) (count k : ℕ) → drop k (items_from item 0 count) ≡ items_from item k (count - k)
drop-items item count k = let same : 0 + k ≡ k = omega arith in drop-items_from item 0 count k ∙ rw same refl
