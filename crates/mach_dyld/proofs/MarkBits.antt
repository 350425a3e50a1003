-- Marks of places, bit by bit.
use Rattle.std.proofs.Common.{◌≡◌, ℕ, ◌*◌, ◌/◌, ◌%◌, ◌^◌, ◌<◌, ◌≤◌, true, false, not, eqb, List, length, replicate, get_or, set, sym, ◌∙◌, ap, inl, inr}
use Rattle.std.proofs.Common.{arith, ext_get_or, length-set, get_or-set_same, get_or-set_other, eq-eqb, ne_eqb, w64}
use Rattle.std.proofs.lemmas.List.{length-replicate, get_or-replicate}
use Rattle.std.proofs.lemmas.List.FromFn.{length-map-range_with_len, get_or-map-range_with_len}
use Rattle.std.proofs.lemmas.Bool.{cases_eq}
use Rattle.std.proofs.lemmas.Nat.{one_shl, pow_pos}
use Rattle.std.proofs.lemmas.Nat.Bits.{bit_at_set_same, bit_at_set_other, bit_at-zero, and_pow}
use Rattle.std.specs.Prelude.{bit_and, bit_or}
use Rattle.std.specs.Int.{bit_at}
use Rattle.mach_dyld.specs.Marks.{mark_of, marks_of}

pub length-marks_of : (words : List ℕ) (len : ℕ) → length (marks_of words len) ≡ len
unfolding marks_of
length-marks_of words len = length-map-range_with_len (mark_of words) 0 len

pub get_or-marks_of : (words : List ℕ) (len at : ℕ) → at < len → get_or (marks_of words len) at false ≡ mark_of words at
unfolding marks_of
get_or-marks_of words len at h = get_or-map-range_with_len (mark_of words) 0 len at at false h (omega arith)

-- words of zeros mark nothing
pub none_marked : (n len : ℕ) → len ≤ 64 * n → marks_of (replicate n 0) len ≡ replicate len false
none_marked n len room =
    let zeros : List ℕ = replicate n 0 in
    ext_get_or false _ _ (length-marks_of zeros len ∙ sym (length-replicate len false)) (λ at h.
    let within : at < len = rw length-marks_of at h in
    get_or-marks_of zeros len at within
    ∙ ap (λ x. eqb (bit_at x (at % 64)) 1) (get_or-replicate n (at / 64) 0 0 (omega arith))
    ∙ ap (λ x. eqb x 1) (bit_at-zero (at % 64))
    ∙ sym (get_or-replicate len at false false within))

-- the test `word & bit != 0`
pub bit_tested : (word k : ℕ) → k < 64 → not (eqb (bit_and word (1 * 2 ^ k % 2 ^ 64)) 0) ≡ eqb (bit_at word k) 1
bit_tested word k h =
    let e : bit_and word (1 * 2 ^ k % 2 ^ 64) ≡ bit_at word k * 2 ^ k = ap (bit_and word) (one_shl k 64 h) ∙ and_pow word k in
    let b : ℕ = bit_at word k in
    let small : b < 2 = omega arith in
    elim (cases_eq b 1) [
      | inl one ↦ (let big : 0 < bit_and word (1 * 2 ^ k % 2 ^ 64) = rw (e, one) (omega (arith, pow_pos k)) in
          ap not (ne_eqb _ 0 (omega arith)) ∙ sym (eq-eqb b 1 one))
      | inr other ↦ (let none : b ≡ 0 = omega arith in
          ap not (eq-eqb _ 0 (rw (e, none) (omega arith))) ∙ sym (ne_eqb b 1 other))
    ]

-- the words with one more bit set mark one more place
pub marked_at : (words : List ℕ) (len at word : ℕ) → len ≤ 64 * length words → at < len → word ≡ get_or words (at / 64) 0
    → marks_of (set words (at / 64) (bit_or word (1 * 2 ^ (at % 64) % 2 ^ 64))) len ≡ set (marks_of words len) at true
marked_at words len at word room within read =
    let v : ℕ = bit_or word (1 * 2 ^ (at % 64) % 2 ^ 64) in
    let at_in : at < length (marks_of words len) = omega (arith, length-marks_of words len) in
    let word_in : at / 64 < length words = omega arith in
    let low : at % 64 < 64 = omega arith in
    ext_get_or false _ _
    (length-marks_of _ len ∙ sym (length-marks_of words len) ∙ sym (length-set (marks_of words len) at true))
    (λ k h.
    let k_in : k < len = rw length-marks_of at h in
    get_or-marks_of _ len k k_in
    ∙ (elim (cases_eq k at) as (λ _. mark_of (set words (at / 64) v) k ≡ get_or (set (marks_of words len) at true) k false) [
      | inl same ↦
          rw same
          (ap (λ x. eqb (bit_at x (at % 64)) 1) (get_or-set_same words (at / 64) v 0 word_in)
          ∙ eq-eqb _ 1 (bit_at_set_same w64 word (at % 64) low)
          ∙ sym (get_or-set_same (marks_of words len) at true false at_in))
      | inr other ↦
          (elim (cases_eq (k / 64) (at / 64)) as (λ _. mark_of (set words (at / 64) v) k ≡ mark_of words k) [
            | inl row ↦
                ap (λ x. eqb (bit_at (get_or (set words (at / 64) v) x 0) (k % 64)) 1) row
                ∙ ap (λ x. eqb (bit_at x (k % 64)) 1) (get_or-set_same words (at / 64) v 0 word_in)
                ∙ ap (λ x. eqb x 1) (bit_at_set_other w64 word (at % 64) low (k % 64) (omega arith))
                ∙ ap (λ x. eqb (bit_at x (k % 64)) 1) (read ∙ ap (λ x. get_or words x 0) (sym row))
            | inr apart ↦ ap (λ x. eqb (bit_at x (k % 64)) 1) (get_or-set_other words (at / 64) (k / 64) v 0 apart)
          ])
          ∙ sym (get_or-marks_of words len k k_in)
          ∙ sym (get_or-set_other (marks_of words len) at k true false other)
    ]))
