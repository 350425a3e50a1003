-- Rows for items, written one after the other.
use Rattle.std.proofs.Common.{◌≡◌, ◌<◌, ◌≤◌, ◌+◌, ◌∙◌, ◌++◌, ◌∷◌, [], ◌⊎◌, inl, inr, ℕ, List, length, take, drop, set, map, refl, sym, ap, subst, arith}
use Rattle.std.specs.Prelude.{min}
use Rattle.std.proofs.lemmas.List.{append_assoc, length-append, length-map, take-map}
use Rattle.std.proofs.Math.Seq.{take-append_seam, drop-append_seam}
use Rattle.std.proofs.Math.Nat.{min-eq_left, min-eq_right}
use Rattle.goblin_mach_c.specs.Fill.{Fills}
use Rattle.goblin_mach_c.specs.Say.{AllSay, FillsBy}
use Rattle.goblin_mach_c.proofs.Filled.{set_following}

-- The first k of these items have their rows, and the others are left.
pub record SaidPartly {I R : Type 0} (Says : I → R → Type 0) (items left : List I) (old out : List R) (k : ℕ) : Type 0 where
  pub done : List I
  pub rows : List R
  pub are : items ≡ done ++ left
  pub say : AllSay Says done rows
  pub many : length done ≡ k
  pub written : out ≡ rows ++ drop k old

pub none_said : {I R : Type 0} (Says : I → R → Type 0) (items : List I) (old : List R) → SaidPartly Says items items old old 0
none_said Says items old = record { done = []; rows = []; are = refl; say = tt; many = refl; written = refl }

as_many : {I R : Type 0} (Says : I → R → Type 0) (items : List I) (rows : List R) → AllSay Says items rows → length rows ≡ length items
as_many Says [] [] say = refl
as_many Says (i ∷ items) [] say = absurd say
as_many Says [] (r ∷ rows) say = absurd say
as_many Says (i ∷ items) (r ∷ rows) say = let same = as_many Says items rows say.1 in omega (arith, same)

-- one more row for one more item
say_more : {I R : Type 0} (Says : I → R → Type 0) (items : List I) (rows : List R) (i : I) (r : R) → AllSay Says items rows → Says i r
    → AllSay Says (items ++ i ∷ []) (rows ++ r ∷ [])
say_more Says [] [] i r say one = (one, tt)
say_more Says (j ∷ items) [] i r say one = absurd say
say_more Says [] (s ∷ rows) i r say one = absurd say
say_more Says (j ∷ items) (s ∷ rows) i r say one = (say.0, say_more Says items rows i r say.1 one)

pub said_more : {I R : Type 0} (Says : I → R → Type 0) (items left : List I) (old out : List R) (k : ℕ) (i : I) (row : R) (rest : List I)
    → SaidPartly Says items left old out k → left ≡ i ∷ rest → Says i row → k < length old
    → SaidPartly Says items rest old (set out k row) (k + 1)
said_more Says items left old out k i row rest p e one less = record {
  done = p.done ++ i ∷ [];
  rows = p.rows ++ row ∷ [];
  are = p.are ∙ ap (λ l. p.done ++ l) e ∙ sym (append_assoc p.done (i ∷ []) rest);
  say = say_more Says p.done p.rows i row p.say one;
  many = length-append p.done (i ∷ []) ∙ ap (λ n. n + 1) p.many;
  written =
      ap (λ l. set l k row) p.written ∙ set_following p.rows old k row (as_many Says p.done p.rows p.say ∙ p.many) less
      ∙ sym (append_assoc p.rows (row ∷ []) (drop (k + 1) old));
}

first_are : {I R : Type 0} (Says : I → R → Type 0) (items left : List I) (old out : List R) (k : ℕ) (p : SaidPartly Says items left old out k)
    → p.done ≡ take k items
first_are Says items left old out k p = sym (take-append_seam p.done left) ∙ ap (λ n. take n (p.done ++ left)) p.many ∙ ap (take k) (sym p.are)

-- if nothing is left, or the array is full, all that fit have their rows
pub all_said : {I R : Type 0} (Says : I → R → Type 0) (items left : List I) (old out : List R) (k : ℕ) → SaidPartly Says items left old out k → k ≤ length old
    → (left ≡ []) ⊎ (k ≡ length old) → FillsBy Says items old out k
all_said Says items left old out k p less end =
    let long = ap length p.are ∙ length-append p.done left in
    let many = p.many in
    record {
      count = elim end [
        | inl none ↦ (
            let nothing = ap length none in
            let is : length items ≡ k = omega (arith, long, many, nothing) in
            sym is ∙ sym (min-eq_left (omega (arith, is, less))))
        | inr full ↦ full ∙ sym (min-eq_right (omega (arith, long, many, full)))
      ];
      rows = p.rows;
      say = subst (λ (done : _). AllSay Says done p.rows) (first_are Says items left old out k p) p.say;
      are = p.written;
    }

pub rest_said : {I R : Type 0} (Says : I → R → Type 0) (items left : List I) (old out : List R) (k : ℕ) → SaidPartly Says items left old out k
    → left ≡ drop k items
rest_said Says items left old out k p =
    sym (drop-append_seam p.done left) ∙ ap (λ n. drop n (p.done ++ left)) p.many ∙ ap (drop k) (sym p.are)

-- ---- rows that are functions of their items

mapped : {I R : Type 0} (row : I → R) (items : List I) (rows : List R) → AllSay (λ i r. r ≡ row i) items rows → rows ≡ map row items
mapped row [] [] say = refl
mapped row (i ∷ items) [] say = absurd say
mapped row [] (r ∷ rows) say = absurd say
mapped row (i ∷ items) (r ∷ rows) say = ap (λ x. x ∷ rows) say.0 ∙ ap (λ l. row i ∷ l) (mapped row items rows say.1)

pub mapped_fills : {I R : Type 0} (row : I → R) (items : List I) (old new : List R) (n : ℕ) → FillsBy (λ i r. r ≡ row i) items old new n
    → Fills (map row items) old new n
mapped_fills row items old new n p = record {
  count = p.count ∙ ap (λ k. min k (length old)) (sym (length-map items row));
  items = p.are ∙ ap (λ l. l ++ drop n old) (mapped row (take n items) p.rows p.say ∙ sym (take-map row n items));
}
