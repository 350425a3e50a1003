-- A text without a suffix, and the parts around a byte.
use Rattle.std.proofs.Common.{◌≡◌, ◌++◌, ◌∙◌, [], ℕ, ◌+◌, ◌-◌, ◌≤◌, ◌<◌, List, Option, Bool, true, false, length, take, drop, get_or, refl, sym, ap, arith}
use Rattle.std.proofs.lemmas.Bool.{cond-true, cond-false, ne_eqb, eq-eqb}
use Rattle.std.proofs.lemmas.List.{take-append-drop, get_or-drop, length-drop}
use Rattle.std.proofs.lemmas.List.Sums.{suffix_len_is}
use Rattle.std.proofs.lemmas.Slice.Eq.{bytes_eq-Decides}
use Rattle.std.proofs.lemmas.Str.{len_utf8_ascii}
use Rattle.std.proofs.lemmas.Str.Pattern.{NoCharPasses-char}
use Rattle.std.proofs.Math.Seq.{drop-append_seam}
use Rattle.std.specs.Borrow.{Bor}
use Rattle.std.specs.List.{suffix_len}
use Rattle.std.specs.Option.{option_map}
use Rattle.std.specs.Prelude.{MatchOption, Some, None, not}
use Rattle.std.specs.Str.{bytes_eq}
use Rattle.std.specs.Str.Pattern.{FindsTextSuffix, StripsSuffix, RFindsChar, SplitsAroundMatch}
use Rattle.machsyms.specs.ShortNames.{cut_end, is_other, part_after, part_before}

never_so : (b : Bool) → (b ≡ true → ⊥) → b ≡ false
never_so true never = absurd (never refl)
never_so false never = refl

-- what `strip_suffix` returns
pub end_cut : (end text : List ℕ) (r : Option (Bor (List ℕ)))
    → MatchOption r (FindsTextSuffix end text None) (λ x. StripsSuffix (FindsTextSuffix end) text x.now)
    → option_map (λ x. x.now) r ≡ cut_end end text
end_cut end text None h =
    let k = length text - length end in
    let front = take k text in
    let never : bytes_eq (drop k text) end ≡ true → ⊥ = λ e.
    h front (sym (take-append-drop k text) ∙ ap (λ back. front ++ back) ((bytes_eq-Decides (drop k text) end).0 e)) in
    sym (cond-false (bytes_eq (drop k text) end) (Some front) None (never_so _ never))
end_cut end text (Some x) h =
    let k = length text - length end in
    let front = take k text in
    let there : x.now ≡ front = h.2 ∙ ap (λ n. take (length text - n) text) h.1.0 in
    let split : text ≡ front ++ end = h.1.1 ∙ ap (λ n. take (length text - n) text ++ end) h.1.0 in
    let long : length front ≡ k = omega (arith, ap length there, h.3, h.1.0) in
    let back : drop k text ≡ end = ap (drop k) split ∙ ap (λ n. drop n (front ++ end)) (sym long) ∙ drop-append_seam front end in
    ap (λ t. Some t) there ∙ sym (cond-true (bytes_eq (drop k text) end) (Some front) None ((bytes_eq-Decides (drop k text) end).1 back))

-- what `rsplit_once` returns for a byte that is a character
module _ (c : ℕ) (text : List ℕ) (low : c < 128) where
  pub no_parts : RFindsChar c text None → (part_after c text ≡ text) × (part_before c text ≡ [])
  no_parts none =
      let all : suffix_len (is_other c) text ≡ length text - 0 =
      suffix_len_is (is_other c) text 0 0 (omega arith) (λ k a inside. ap not (ne_eqb (get_or text k 0) c (NoCharPasses-char c text k none low inside)))
      (λ some. absurd (omega (arith, some))) in (
        ap (λ n. drop n text) {x = length text - suffix_len (is_other c) text} {y = 0} (omega (arith, all)),
        ap (λ n. take n text) {x = length text - suffix_len (is_other c) text - 1} {y = 0} (omega (arith, all)),
      )

  pub parts_around : (front back : List ℕ) → SplitsAroundMatch (RFindsChar c) text front back
      → (front ≡ part_before c text) × (back ≡ part_after c text)
  parts_around front back h =
      let i = h.0 in
      let j = h.1 in
      let next : j ≡ i + 1 = omega (arith, h.2.1.ends, len_utf8_ascii c low) in
      let inside : i + 1 ≤ length text = omega (arith, h.7, next) in
      let later : (k : ℕ) → i + 1 ≤ k → k < length text → get_or text k 0 ≡ c → ⊥ = λ k a l e.
      let there : j + (k - j) ≡ k = omega (arith, a, next) in
      NoCharPasses-char c (drop j text) (k - j) h.2.0 low (omega (arith, length-drop j text, l, a, next))
      (get_or-drop j text (k - j) 0 ∙ ap (λ n. get_or text n 0) there ∙ e) in
      let here : get_or text (i + 1 - 1) 0 ≡ c = ap (λ n. get_or text n 0) {x = i + 1 - 1} {y = i} (omega arith) ∙ h.2.1.byte low in
      let count : suffix_len (is_other c) text ≡ length text - (i + 1) =
      suffix_len_is (is_other c) text (i + 1) 0 inside (λ k a l. ap not (ne_eqb (get_or text k 0) c (later k a l))) (λ some. ap not (eq-eqb _ c here)) in (
        h.3 ∙ ap (λ n. take n text) {x = i} {y = length text - suffix_len (is_other c) text - 1} (omega (arith, count, inside)),
        h.4 ∙ ap (λ n. drop n text) {x = j} {y = length text - suffix_len (is_other c) text} (omega (arith, count, inside, next)),
      )
