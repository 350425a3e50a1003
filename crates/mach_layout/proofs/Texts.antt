-- The place where the last text among some strings ends.
use Rattle.std.proofs.Common.{◌≡◌, ℕ, ◌-◌, ◌≤◌, ◌<◌, ◌==◌, List, length, get_or, not, true, false, sym, ap, ◌∙◌, arith, inl, inr}
use Rattle.std.proofs.lemmas.Bool.Decides.{eqb_tells, leb_tells}
use Rattle.std.proofs.lemmas.List.Sums.{suffix_len_is}
use Rattle.std.specs.List.{suffix_len}
use Rattle.mach_layout.specs.Symbols.{texts_end}

other_than_zero : (b : ℕ) → (b ≡ 0 → ⊥) → not (b == 0) ≡ true
other_than_zero b h = elim (eqb_tells b 0) [ inl same ↦ absurd (h same.1) | inr other ↦ ap not other.0 ]

-- there is no zero byte from a place on
abbrev pub NoneFrom : List ℕ → ℕ → Type 0
NoneFrom xs n = (k : ℕ) → n ≤ k → k < length xs → not (get_or xs k 0 == 0) ≡ true

pub none_from_before : (xs : List ℕ) (n : ℕ) → 0 < n → (get_or xs (n - 1) 0 ≡ 0 → ⊥) → NoneFrom xs n → NoneFrom xs (n - 1)
none_from_before xs n some here following k from within =
    elim (leb_tells n k) [
      | inl later ↦ following k later.1 within
      | inr front ↦
          let same : k ≡ n - 1 = omega (arith, front.1) in
          other_than_zero (get_or xs k 0) (λ e. here (ap (λ (i : ℕ). get_or xs i 0) (sym same) ∙ e))
    ]

pub texts_end_is : (xs : List ℕ) (n : ℕ) → n ≤ length xs → NoneFrom xs n → (0 < n → not (get_or xs (n - 1) 0 == 0) ≡ false) → n ≡ texts_end xs
texts_end_is xs n within following last =
    let is : suffix_len (λ b. not (b == 0)) xs ≡ length xs - n = suffix_len_is (λ b. not (b == 0)) xs n 0 within following last in
    omega (arith, within, is)
