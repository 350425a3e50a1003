-- The names of a header's flags without their prefix, proved bit by bit.
use Rattle.std.proofs.Common.{◌≡◌, ◌++◌, ◌∷◌, [], ◌∙◌, ℕ, zero, suc, ◌+◌, ◌*◌, ◌%◌, ◌^◌}
use Rattle.std.proofs.Common.{◌<◌, List, Some, None, refl, sym, ap, take, drop, add-one, append-nil, arith}
use Rattle.std.specs.Prelude.{bit_and, bytes_eq, codes, true, false}
use Rattle.std.specs.List.{flat_map, range_with_len}
use Rattle.std.proofs.lemmas.Grind.{flat_map-append}
use Rattle.std.proofs.lemmas.List.{take-append-drop}
use Rattle.std.proofs.lemmas.Nat.{one_shl}
use Rattle.std.proofs.lemmas.Slice.Eq.{bytes_eq-Decides}
use Rattle.machinfo.specs.HeaderWords.{flag_short_name}
use Rattle.machinfo.specs.Summary.{flag_word}

pub short_some : (s name rest : List ℕ) → s ≡ 77 ∷ 72 ∷ 95 ∷ rest → name ≡ rest → Some name ≡ flag_short_name s
short_some s name rest is named = ap (λ (x : List ℕ). Some x) named ∙ sym (ap flag_short_name is)

pub short_none : (s : List ℕ) → ((rest : List ℕ) → s ≡ 77 ∷ 72 ∷ 95 ∷ rest → ⊥) → None ≡ flag_short_name s
short_none s none = elim (bytes_eq (take 3 s) (codes "MH_")) as (λ t. bytes_eq (take 3 s) (codes "MH_") ≡ t → None ≡ flag_short_name s) [
  | true ↦ λ is.
      let front : take 3 s ≡ codes "MH_" = (bytes_eq-Decides (take 3 s) (codes "MH_")).0 is in
      absurd (none (drop 3 s) (sym (take-append-drop 3 s) ∙ ap (λ (f : List ℕ). f ++ drop 3 s) front))
  | false ↦ λ is. rw is refl
] refl

range_more : (a n : ℕ) → range_with_len a (suc n) ≡ range_with_len a n ++ (a + n) ∷ []
range_more a zero = let same : a + 0 ≡ a = omega arith in rw same refl
range_more a (suc n) = let same : a + suc n ≡ a + 1 + n = omega arith in rw same (ap (λ r. a ∷ r) (range_more (a + 1) n))

pub one_more_flag : (flags k : ℕ)
    → flat_map (λ (bit : ℕ). flag_word (bit_and flags (2 ^ bit))) (range_with_len 0 (k + 1))
    ≡ flat_map (λ (bit : ℕ). flag_word (bit_and flags (2 ^ bit))) (range_with_len 0 k) ++ flag_word (bit_and flags (2 ^ k))
one_more_flag flags k =
    let word = λ (bit : ℕ). flag_word (bit_and flags (2 ^ bit)) in
    let from_zero : 0 + k ≡ k = omega arith in
    let more : range_with_len 0 (k + 1) ≡ range_with_len 0 k ++ k ∷ [] = rw (add-one, range_more 0 k, from_zero) refl in
    ap (flat_map word) more ∙ flat_map-append word (range_with_len 0 k) (k ∷ [])
    ∙ ap (λ (last : List ℕ). flat_map word (range_with_len 0 k) ++ last) (append-nil (word k))

pub bit_of : (k : ℕ) → k < 32 → (1 * 2 ^ (k % 32)) % 4294967296 ≡ 2 ^ k
bit_of k below = let same : k % 32 ≡ k = omega (arith, below) in rw same (one_shl k 32 below)
