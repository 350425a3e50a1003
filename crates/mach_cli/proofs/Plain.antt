-- Bytes that a terminal gets unchanged.
use Rattle.std.proofs.Common.{◌≡◌, ◌∙◌, ◌⊎◌, ◌≤◌, ◌<◌, ◌+◌, ℕ, List, [], ◌∷◌, ◌++◌, inl, inr, true, false, get_or, leb, length, take, refl}
use Rattle.std.proofs.Common.{sym, ap, subst, arith}
use Rattle.std.proofs.lemmas.Bool.Decides.{leb_tells}
use Rattle.std.proofs.lemmas.Grind.{flat_map-append}
use Rattle.std.proofs.lemmas.List.{take_more}
use Rattle.mach_cli.specs.TerminalShown.{is_control, shown_byte, shown_text}

module _ (xs : List ℕ) where
  -- each of the first bytes up to that length is unchanged
  abbrev pub ArePlain : ℕ → Type 0
  ArePlain i = (n : ℕ) → n ≤ i → shown_text (take n xs) ≡ take n xs

  pub none_plain : ArePlain 0
  none_plain n few = let none : n ≡ 0 = omega (arith, few) in subst (λ (k : ℕ). shown_text (take k xs) ≡ take k xs) (sym none) refl

  byte_plain : (x : ℕ) → is_control x ≡ false → shown_text (x ∷ []) ≡ x ∷ []
  byte_plain x plain = rw plain refl

  next_plain : (i : ℕ) → i < length xs → is_control (get_or xs i 0) ≡ false → ArePlain i → shown_text (take (i + 1) xs) ≡ take (i + 1) xs
  next_plain i inside plain before =
      let x = get_or xs i 0 in
      let is = take_more xs i 0 inside in
      ap shown_text is ∙ flat_map-append shown_byte (take i xs) (x ∷ [])
      ∙ ap (λ front. front ++ shown_text (x ∷ [])) (before i (omega arith)) ∙ ap (λ last. take i xs ++ last) (byte_plain x plain) ∙ sym is

  by_length : (i n : ℕ) → i < length xs → is_control (get_or xs i 0) ≡ false → ArePlain i → n ≤ i + 1
      → ((leb n i ≡ true) × (n ≤ i)) ⊎ ((leb n i ≡ false) × (i < n)) → shown_text (take n xs) ≡ take n xs
  by_length i n inside plain before few (inl h) = before n h.1
  by_length i n inside plain before few (inr h) =
      let last : n ≡ i + 1 = omega (arith, few, h.1) in
      subst (λ (k : ℕ). shown_text (take k xs) ≡ take k xs) (sym last) (next_plain i inside plain before)

  -- so is one more
  pub more_plain : (i : ℕ) → i < length xs → is_control (get_or xs i 0) ≡ false → ArePlain i → ArePlain (i + 1)
  more_plain i inside plain before n few = by_length i n inside plain before few (leb_tells n i)
