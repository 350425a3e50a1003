-- Rows that are written one after the other.
use Rattle.std.proofs.Common.{◌≡◌, ◌<◌, ◌≤◌, ◌+◌, ◌-◌, ◌∙◌, ◌++◌, ◌∷◌, [], ◌⊎◌, inl, inr, ℕ, zero, suc, List, length, take, drop, set, refl, sym, ap}
use Rattle.std.proofs.Common.{arith}
use Rattle.std.proofs.lemmas.List.{append_assoc, length-append, length-drop, drop-set, drop-set-add, set-append_right}
use Rattle.std.proofs.Math.Seq.{take-append_seam, drop-append_seam}
use Rattle.std.proofs.Math.ListN.{drop_of_length-le}
use Rattle.std.proofs.Math.Nat.{min-eq_left, min-eq_right}
use Rattle.mach_base.specs.Items.{items_from}
use Rattle.goblin_mach_c.specs.Fill.{Fills}

-- The first k of these rows are written, and the others are left.
pub record Partly {R : Type 0} (rows left old out : List R) (k : ℕ) : Type 0 where
  pub done : List R
  pub are : rows ≡ done ++ left
  pub many : length done ≡ k
  pub written : out ≡ done ++ drop k old

pub none_yet : {R : Type 0} (rows old : List R) → Partly rows rows old old 0
none_yet rows old = record { done = []; are = refl; many = refl; written = refl }

pub out_length : {R : Type 0} (rows left old out : List R) (k : ℕ) → Partly rows left old out k → k ≤ length old → length out ≡ length old
out_length rows left old out k p less =
    let a = ap length p.written in
    let b = length-append p.done (drop k old) in
    let c = length-drop k old in
    let d = p.many in
    omega (arith, a, b, c, d, less)

set_front : {R : Type 0} (old : List R) (k : ℕ) (row : R) → k < length old → set (drop k old) 0 row ≡ row ∷ drop (k + 1) old
set_front old k row less = sym (drop-set-add k old 0 row) ∙ ap (λ n. drop k (set old n row)) (omega arith) ∙ drop-set old k row less

pub set_following : {R : Type 0} (done old : List R) (k : ℕ) (row : R) → length done ≡ k → k < length old
    → set (done ++ drop k old) k row ≡ done ++ row ∷ drop (k + 1) old
set_following done old k row many less =
    let zero_is : k - k ≡ 0 = omega arith in
    set-append_right done (drop k old) k k row many (omega arith) ∙ ap (λ n. done ++ set (drop k old) n row) zero_is
    ∙ ap (λ l. done ++ l) (set_front old k row less)

pub one_more : {R : Type 0} (rows left old out : List R) (k : ℕ) (row : R) (rest : List R) → Partly rows left old out k → left ≡ row ∷ rest
    → k < length old
    → Partly rows rest old (set out k row) (k + 1)
one_more rows left old out k row rest p e less = record {
  done = p.done ++ row ∷ [];
  are = p.are ∙ ap (λ l. p.done ++ l) e ∙ sym (append_assoc p.done (row ∷ []) rest);
  many = length-append p.done (row ∷ []) ∙ ap (λ n. n + 1) p.many;
  written = ap (λ l. set l k row) p.written ∙ set_following p.done old k row p.many less ∙ sym (append_assoc p.done (row ∷ []) (drop (k + 1) old));
}

pub all_of_them : {R : Type 0} (rows left old out : List R) (k : ℕ) → Partly rows left old out k → k ≤ length old → (left ≡ []) ⊎ (k ≡ length old)
    → Fills rows old out k
all_of_them rows left old out k p less end =
    let long = ap length p.are ∙ length-append p.done left in
    let many = p.many in
    record {
      count = elim end [
        | inl none ↦ (
            let nothing = ap length none in
            let is : length rows ≡ k = omega (arith, long, many, nothing) in
            sym is ∙ sym (min-eq_left (omega (arith, is, less))))
        | inr full ↦ full ∙ sym (min-eq_right (omega (arith, long, many, full)))
      ];
      items = p.written ∙ ap (λ l. l ++ drop k old) (sym (take-append_seam p.done left) ∙ ap (λ n. take n (p.done ++ left)) many ∙ ap (take k) (sym p.are));
    }

pub rest_of : {R : Type 0} (rows left old out : List R) (k : ℕ) → Partly rows left old out k → left ≡ drop k rows
rest_of rows left old out k p =
    sym (drop-append_seam p.done left) ∙ ap (λ n. drop n (p.done ++ left)) p.many ∙ ap (drop k) (sym p.are)

-- if nothing is left from a number on, nothing is left from a later one on
pub drop_past : {R : Type 0} (rows : List R) (k n : ℕ) → drop k rows ≡ [] → k ≤ n → drop n rows ≡ []
drop_past rows k n none less =
    let long = sym (length-drop k rows) ∙ ap length none in
    drop_of_length-le rows (omega (arith, long, less))

-- what is left after the first that is left
pub drop_next : {R : Type 0} (rows : List R) (k : ℕ) (row : R) (rest : List R) → drop k rows ≡ row ∷ rest → drop (k + 1) rows ≡ rest
drop_next [] zero row rest e = absurd (cc)
drop_next [] (suc k) row rest e = absurd (cc)
drop_next (x ∷ rows) zero row rest e = ap (drop 1) e
drop_next (x ∷ rows) (suc k) row rest e =
    let following : suc k + 1 ≡ suc (k + 1) = omega arith in
    ap (λ n. drop n (x ∷ rows)) following ∙ drop_next rows k row rest e

pub no_items : {A : Type 0} (item : ℕ → A) (first count : ℕ) → count ≡ 0 → items_from item first count ≡ []
no_items item first count none = ap (items_from item first) none

-- those after the first ones, by their numbers
after_first : {A : Type 0} (item : ℕ → A) (from count k : ℕ) → drop k (items_from item from count) ≡ items_from item (from + k) (count - k)
after_first item from count zero =
    let same : from + 0 ≡ from = omega arith in
    let all : count - 0 ≡ count = omega arith in rw (same, all) refl
after_first item from zero (suc k) = let none : 0 - suc k ≡ 0 = omega arith in rw none refl
after_first item from (suc count) (suc k) =
    let same : (from + 1) + k ≡ from + suc k = omega arith in
    let fewer : suc count - suc k ≡ count - k = omega arith in
    after_first item (from + 1) count k ∙ rw (same, fewer) refl

pub items_after : {A : Type 0} (item : ℕ → A) (count k : ℕ) → drop k (items_from item 0 count) ≡ items_from item k (count - k)
items_after item count k = let same : 0 + k ≡ k = omega arith in after_first item 0 count k ∙ rw same refl

-- the first of those that are left
pub items_next : {A : Type 0} (item : ℕ → A) (k n : ℕ) → k < n → items_from item k (n - k) ≡ item k ∷ items_from item (k + 1) (n - (k + 1))
items_next item k n less = let more : n - k ≡ suc (n - (k + 1)) = omega (arith, less) in ap (items_from item k) more
