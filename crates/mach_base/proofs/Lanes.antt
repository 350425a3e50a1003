-- From the mask of 32 bytes to the first byte that ends a run of ASCII, and to the text before it.
use Rattle.std.proofs.Common.{◌≡◌, ℕ, ◌+◌, ◌%◌, ◌^◌, ◌<◌, ◌≤◌, Bool, true, false, ◌||◌, cond, eqb, leb, List, map, length, take, get_or, replicate, bit_or}
use Rattle.std.proofs.Common.{w64, inl, inr, refl, sym, ap, subst, ◌∙◌, arith}
use Rattle.std.proofs.lemmas.Bool.{cases_lt, leb-false, eq-eqb}
use Rattle.std.proofs.lemmas.List.{length-map, length-take-le, get_or-take}
use Rattle.std.proofs.lemmas.List.Sums.{position_or_len_is, fails_before_first}
use Rattle.std.proofs.lemmas.Nat.Bits.{bit_at-trailing_zeros}
use Rattle.std.proofs.lemmas.Simd.{zip2_splat, zip2_splat_left, zip2_of_maps, map-map, mask_l-lt, mask_l-mod, length-chunk, trailing_mask_l}
use Rattle.std.proofs.lemmas.Simd.{run_in_chunk_le, run_in_chunk_fails, run_in_chunk_stops, none_from_empty_mask}
use Rattle.std.proofs.lemmas.Str.Ascii.{IsAscii-from_reads}
use Rattle.std.proofs.lemmas.Str.{IsUtf8-from_ascii}
use Rattle.std.specs.Int.{bit_at, trailing_zeros}
use Rattle.std.specs.List.{before_first, position_or_len}
use Rattle.std.specs.Str.{IsAscii, IsUtf8}
use lib.Lanes.{chunk, zip2, mask_l, top}
use Rattle.mach_base.specs.Text.{is_zero, is_stop}

joined : (a b : Bool) → top 7 (bit_or (cond a 255 0) (cond b 255 0)) ≡ (a || b)
joined true true = refl
joined true false = refl
joined false true = refl
joined false false = refl

neither : (a b : Bool) → (a || b) ≡ false → (a ≡ false) × (b ≡ false)
neither true b h = absurd (let wrong = h in cc)
neither false b h = (refl, h)

-- the mask of the lanes that are zero or not ASCII
pub mask_of_stops : (v : List ℕ) → length v ≡ 32
    → mask_l (map (top 7) (zip2 bit_or (zip2 (λ a b. cond (eqb a b) 255 0) v (replicate 32 0)) (zip2 (λ a b. cond (leb a b) 255 0) (replicate 32 128) v)))
    % 2 ^ 64 ≡ mask_l (map is_stop v)
mask_of_stops v long =
    let zeros = zip2_splat (λ (a b : ℕ). cond {A = ℕ} (eqb a b) 255 0) v 32 0 long in
    let highs = zip2_splat_left (λ (a b : ℕ). cond {A = ℕ} (leb a b) 255 0) 128 32 v long in
    let both = zip2_of_maps bit_or _ _ v zeros highs in
    let tops : map (top 7) (zip2 bit_or (zip2 (λ a b. cond (eqb a b) 255 0) v (replicate 32 0)) (zip2 (λ a b. cond (leb a b) 255 0) (replicate 32 128) v))
    ≡ map is_stop v =
    ap (map (top 7)) both ∙ map-map (top 7) _ v ∙ (λ i. map (λ x. joined (eqb x 0) (leb 128 x) i) v) in
    ap (λ ms. mask_l ms % 2 ^ 64) tops ∙ mask_l-mod (map is_stop v) 64 (omega (arith, length-map v is_stop))

module _ (xs : List ℕ) (i m : ℕ) (room : i + 32 ≤ length xs) (is : m ≡ mask_l (map is_stop (chunk i 32 xs))) where
  -- no bit is set
  pub none_stops : m ≡ 0 → (k : ℕ) → i ≤ k → k < i + 32 → is_stop (get_or xs k 0) ≡ false
  none_stops e = none_from_empty_mask is_stop xs i 32 0 room (sym is ∙ e)

  long : length (chunk i 32 xs) ≡ 32
  long = length-chunk i 32 xs room

  small : m < 2 ^ 32
  small = subst (λ k. m < 2 ^ k) (length-map (chunk i 32 xs) is_stop ∙ long)
      (subst (λ n. n < 2 ^ length (map is_stop (chunk i 32 xs))) (sym is) (mask_l-lt (map is_stop (chunk i 32 xs))))

  -- the lowest bit that is set
  pub lowest_stops : 0 < m → (trailing_zeros w64 m < 32) × ((k : ℕ) → i ≤ k → k < i + trailing_zeros w64 m → is_stop (get_or xs k 0) ≡ false)
      × (is_stop (get_or xs (i + trailing_zeros w64 m) 0) ≡ true)
  lowest_stops some =
      let r = trailing_zeros w64 m in
      let counted = ap (trailing_zeros w64) is ∙ trailing_mask_l is_stop 64 (chunk i 32 xs) (omega (arith, long)) (subst (λ n. 0 < n) is some) in
      let most : r ≤ 32 = run_in_chunk_le is_stop xs i 32 r 0 room counted in
      let bit = bit_at-trailing_zeros w64 m some (omega (arith, small)) in
      let less : r < 32 = elim (cases_lt r 32) [
        | inl l ↦ l
        | inr ge ↦ absurd (let at : bit_at m 32 ≡ 1 = subst (λ k. bit_at m k ≡ 1) (let e : r ≡ 32 = omega (arith, most, ge) in e) bit.1 in
            omega (arith, small, at))
      ] in
      (less, run_in_chunk_fails is_stop xs i 32 r 0 room counted, run_in_chunk_stops is_stop xs i 32 r 0 room counted less)

pub first_stop : (xs : List ℕ) (n : ℕ) → n ≤ length xs → ((k : ℕ) → k < n → is_stop (get_or xs k 0) ≡ false)
    → (n < length xs → is_stop (get_or xs n 0) ≡ true) → n ≡ position_or_len is_stop xs
first_stop xs n inside before at = sym (position_or_len_is is_stop xs n 0 inside before at)

module _ (xs : List ℕ) (n : ℕ) (inside : n ≤ length xs) (is : n ≡ position_or_len is_stop xs) where
  no_stop : (k : ℕ) → k < n → is_stop (get_or xs k 0) ≡ false
  no_stop k l = fails_before_first is_stop xs k 0 (subst (λ m. k < m) is l)

  -- all bytes before the first stop are ASCII
  pub plain_before : IsAscii (take n xs)
  plain_before = IsAscii-from_reads (take n xs) n (let long = length-take-le n xs inside in omega arith)
      (λ k l. rw (get_or-take n xs k 0 l) (leb-false 128 _ (neither _ _ (no_stop k l)).1))

  -- they are the run before the first zero byte, if no other byte ends it
  pub run_before : (n < length xs → get_or xs n 0 ≡ 0) → take n xs ≡ before_first is_zero xs
  run_before at = ap (λ m. take m xs) (sym (position_or_len_is is_zero xs n 0 inside (λ k l. (neither _ _ (no_stop k l)).0) (λ l. eq-eqb _ _ (at l))))

  pub text_before : (text : List ℕ) → text ≡ take n xs → (n < length xs → get_or xs n 0 ≡ 0)
      → (text ≡ before_first is_zero xs) × IsUtf8 (before_first is_zero xs)
  text_before text same at =
      let run = run_before at in
      (same ∙ run, subst IsUtf8 run (IsUtf8-from_ascii (take n xs) plain_before))
