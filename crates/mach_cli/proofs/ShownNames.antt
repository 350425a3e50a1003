-- The text of a name has no hidden character.
use Rattle.std.proofs.Common.{◌≡◌, ◌∙◌, ℕ, zero, suc, ◌-◌, ◌^◌, ◌<◌, ◌≤◌, ◌==◌, ◌&&◌, ◌||◌, nat_lt, Bool, cond, true, false}
use Rattle.std.proofs.Common.{List, [], ◌∷◌, ◌++◌, All, length, take, drop, ⊎_elim, refl, sym, ap, append_assoc, arith, length-drop}
use Rattle.std.proofs.lemmas.Bool.{and_left, and_right}
use Rattle.std.proofs.lemmas.Bool.Decides.{nat_tests}
use Rattle.std.proofs.lemmas.List.Elements.{All-head, All-nil, All-tail}
use Rattle.std.specs.Fmt.{digit_glyph, digits}
use Rattle.std.specs.List.{flat_map}
use Rattle.mach_cli.specs.Escapes.{byte_in, byte_text, escape_len, escape_of, escape_text, escaped_text, hidden_len, hidden_of, written}
use Rattle.mach_cli.specs.Escapes.{hides_four, hides_three, hides_two, is_tail}
use Rattle.mach_cli.specs.declared.escaped.Style.TheVariants.{Name}
use Rattle.mach_cli.proofs.OneLine.{All-digits, All-padded}
use Rattle.mach_cli.proofs.Written.{written-escaped, written-kept, written-nil, zero_or_more}

-- no character at any place is hidden
abbrev pub AllShown : List ℕ → Type 0
AllShown xs = (i : ℕ) → hidden_len (drop i xs) ≡ 0

shown-nil : AllShown []
unfolding hidden_len
shown-nil zero = refl
shown-nil (suc i) = refl

shown-cons : (b : ℕ) (xs : List ℕ) → hidden_len (b ∷ xs) ≡ 0 → AllShown xs → AllShown (b ∷ xs)
shown-cons b xs first others zero = first
shown-cons b xs first others (suc i) = others i

-- ---- escapes

abbrev IsVisible : ℕ → Type 0
IsVisible b = (0x20 ≤ b) × (b < 0x7f)

visible_shown : (b : ℕ) (xs : List ℕ) → IsVisible b → hidden_len (b ∷ xs) ≡ 0
unfolding hidden_len
visible_shown b xs h = grind (arith, nat_tests)

shown-front : (front xs : List ℕ) → All IsVisible front → AllShown xs → AllShown (front ++ xs)
shown-front [] xs all others = others
shown-front (b ∷ front) xs all others =
    shown-cons b (front ++ xs) (visible_shown b (front ++ xs) (All-head IsVisible b front all)) (shown-front front xs (All-tail IsVisible b front all) others)

glyph : (d : ℕ) → d < 16 → IsVisible (digit_glyph false d)
glyph d small = (grind (arith, nat_tests), grind (arith, nat_tests))

visible-byte : (n : ℕ) → All IsVisible (byte_text n)
visible-byte n =
    All-padded IsVisible 0 4 2 (2 ^ 64 - 1) false [] (digits 16 false n) (omega arith, omega arith) (omega arith, omega arith) (omega arith, omega arith)
    (omega arith, omega arith) (All-nil IsVisible) (All-digits IsVisible 16 false n glyph (omega arith))

shown-escape : (n : ℕ) (xs : List ℕ) → AllShown xs → AllShown (escape_text n ++ xs)
shown-escape n xs others =
    let hex = shown-front (byte_text n) xs (visible-byte n) others in
    shown-cons 0x5c (0x78 ∷ (byte_text n ++ xs)) (visible_shown 0x5c _ (omega arith, omega arith))
    (shown-cons 0x78 (byte_text n ++ xs) (visible_shown 0x78 _ (omega arith, omega arith)) hex)

shown-escapes : (bs xs : List ℕ) → AllShown xs → AllShown (flat_map escape_text bs ++ xs)
shown-escapes [] xs others = others
shown-escapes (b ∷ bs) xs others =
    rw (append_assoc (escape_text b) (flat_map escape_text bs) xs) (shown-escape b (flat_map escape_text bs ++ xs) (shown-escapes bs xs others))

slash_is : (b : ℕ) → b == 0x5c ≡ true → b ≡ 0x5c
slash_is b is = grind (arith, nat_tests)

shown-first : (s xs : List ℕ) → AllShown xs → AllShown (escape_of Name s ++ xs)
shown-first [] xs others = shown-escapes (take (hidden_len []) []) xs others
shown-first (b ∷ s) xs others = let hidden = flat_map escape_text (take (hidden_len (b ∷ s)) (b ∷ s)) in
    elim (b == 0x5c) as (λ t. b == 0x5c ≡ t → AllShown (cond t (0x5c ∷ b ∷ []) hidden ++ xs)) [
      | true ↦ λ is. let slash = slash_is b is in
          shown-cons 0x5c (b ∷ xs) (visible_shown 0x5c _ (omega arith, omega arith))
          (shown-cons b xs (visible_shown b xs (omega (arith, slash), omega (arith, slash))) others)
      | false ↦ λ is. shown-escapes (take (hidden_len (b ∷ s)) (b ∷ s)) xs others
    ] refl

-- ---- bytes that are kept

-- the text of a name begins with an escape, or with the name's own first byte
data Front (s : List ℕ) : Type 0 where
  none : s ≡ [] → Front s
  escape : byte_in (written Name s) 0 ≡ 0x5c → Front s
  same : (c : ℕ) (t : List ℕ) → s ≡ c ∷ t → written Name s ≡ c ∷ written Name t → Front s

escape_begins : (b : ℕ) (s xs : List ℕ) (n : ℕ) → 0 < n → byte_in (flat_map escape_text (take n (b ∷ s)) ++ xs) 0 ≡ 0x5c
escape_begins b s xs zero some = absurd (omega (arith, some))
escape_begins b s xs (suc n) some = refl

first_begins : (b : ℕ) (s xs : List ℕ) → 0 < escape_len Name (b ∷ s) → byte_in (escape_of Name (b ∷ s) ++ xs) 0 ≡ 0x5c
unfolding escape_len
first_begins b s xs some = let hidden = flat_map escape_text (take (hidden_len (b ∷ s)) (b ∷ s)) in
    elim (b == 0x5c) as (λ t. 0 < cond t 1 (hidden_len (b ∷ s)) → byte_in (cond t (0x5c ∷ b ∷ []) hidden ++ xs) 0 ≡ 0x5c) [
      | true ↦ λ _. refl
      | false ↦ λ more. escape_begins b s xs (hidden_len (b ∷ s)) more
    ] some

front_of : (s : List ℕ) → Front s
front_of [] = none refl
front_of (b ∷ s) = ⊎_elim (λ kept. same b s refl (written-kept Name b s kept))
    (λ some. escape (ap (λ t. byte_in t 0) (written-escaped Name (b ∷ s) some) ∙ first_begins b s (written Name (drop (escape_len Name (b ∷ s)) (b ∷ s))) some))
    (zero_or_more (escape_len Name (b ∷ s)))

four : (b : ℕ) (xs : List ℕ) → hidden_len (b ∷ xs) ≡ hidden_of b (byte_in xs 0) (byte_in xs 1) (byte_in xs 2)
unfolding hidden_len
four b xs = refl

cond_none : (t : Bool) (n k : ℕ) → cond t (suc n) k ≡ 0 → (t ≡ false) × (k ≡ 0)
cond_none true n k h = absurd (omega (arith, h))
cond_none false n k h = (refl, h)

no_pair : (b c : ℕ) → is_tail c ≡ false → hides_two b c ≡ false
no_pair b c other = and_left _ _ (and_right _ _ other)

no_triple : (b c d : ℕ) → (is_tail c && is_tail d) ≡ false → hides_three b c d ≡ false
no_triple b c d other = and_left _ _ (and_right _ _ other)

no_quad : (b c d e : ℕ) → (is_tail c && (is_tail d && is_tail e)) ≡ false → hides_four b c d e ≡ false
no_quad b c d e other = and_left _ _ (and_right _ _ other)

-- how many bytes are hidden after the tests of ASCII and of two bytes
abbrev of_more : (b c d e : ℕ) → ℕ
of_more b c d e = cond (hides_three b c d) 3 (cond (hides_four b c d e) 4 0)

-- an escape in place of the second, the third or the fourth byte
second_escape : (b c d e x y : ℕ) → hidden_of b c d e ≡ 0 → hidden_of b 0x5c x y ≡ 0
second_escape b c d e x y h = elim (nat_lt b 0x80) as (λ t. cond t (cond (nat_lt b 0x20 || b == 0x7f) 1 0) (cond (hides_two b c) 2 (of_more b c d e)) ≡ 0
    → cond t (cond (nat_lt b 0x20 || b == 0x7f) 1 0) (cond (hides_two b 0x5c) 2 (of_more b 0x5c x y)) ≡ 0) [
      | true ↦ λ low. low
      | false ↦ λ _. rw (no_pair b 0x5c refl, no_triple b 0x5c x refl, no_quad b 0x5c x y refl) refl
    ] h

third_escape : (b c d e x : ℕ) → hidden_of b c d e ≡ 0 → hidden_of b c 0x5c x ≡ 0
third_escape b c d e x h = elim (nat_lt b 0x80) as (λ t. cond t (cond (nat_lt b 0x20 || b == 0x7f) 1 0) (cond (hides_two b c) 2 (of_more b c d e)) ≡ 0
    → cond t (cond (nat_lt b 0x20 || b == 0x7f) 1 0) (cond (hides_two b c) 2 (of_more b c 0x5c x)) ≡ 0) [
      | true ↦ λ low. low
      | false ↦ λ high. let two = (cond_none (hides_two b c) 1 _ high).0 in
          rw (two, no_triple b c 0x5c (and_right _ _ refl), no_quad b c 0x5c x (and_right _ _ refl)) refl
    ] h

fourth_escape : (b c d e : ℕ) → hidden_of b c d e ≡ 0 → hidden_of b c d 0x5c ≡ 0
fourth_escape b c d e h = elim (nat_lt b 0x80) as (λ t. cond t (cond (nat_lt b 0x20 || b == 0x7f) 1 0) (cond (hides_two b c) 2 (of_more b c d e)) ≡ 0
    → cond t (cond (nat_lt b 0x20 || b == 0x7f) 1 0) (cond (hides_two b c) 2 (of_more b c d 0x5c)) ≡ 0) [
      | true ↦ λ low. low
      | false ↦ λ high.
          let two = cond_none (hides_two b c) 1 _ high in
          let three = cond_none (hides_three b c d) 2 _ two.1 in
          rw (two.0, three.0, no_quad b c d 0x5c (and_right _ _ (and_right _ _ refl))) refl
    ] h

not_hidden : (b : ℕ) (s : List ℕ) → escape_len Name (b ∷ s) ≡ 0 → hidden_len (b ∷ s) ≡ 0
unfolding escape_len
not_hidden b s kept = elim (b == 0x5c) as (λ t. cond t 1 (hidden_len (b ∷ s)) ≡ 0 → hidden_len (b ∷ s) ≡ 0) [
  | true ↦ λ one. absurd (omega (arith, one))
  | false ↦ λ is. is
] kept

fourth : (b c d : ℕ) (t : List ℕ) → Front t → hidden_of b c d (byte_in t 0) ≡ 0 → hidden_of b c d (byte_in (written Name t) 0) ≡ 0
fourth b c d t (none is) h = rw (is, written-nil Name) (rw is at h)
fourth b c d t (escape is) h = rw is (fourth_escape b c d (byte_in t 0) h)
fourth b c d t (same e u is text) h = rw text (rw is at h)

third : (b c : ℕ) (t : List ℕ) → Front t → hidden_of b c (byte_in t 0) (byte_in t 1) ≡ 0
    → hidden_of b c (byte_in (written Name t) 0) (byte_in (written Name t) 1) ≡ 0
third b c t (none is) h = rw (is, written-nil Name) (rw is at h)
third b c t (escape is) h = rw is (third_escape b c (byte_in t 0) (byte_in t 1) (byte_in (written Name t) 1) h)
third b c t (same d u is text) h = rw text (fourth b c d u (front_of u) (rw is at h))

second : (b : ℕ) (s : List ℕ) → Front s → hidden_of b (byte_in s 0) (byte_in s 1) (byte_in s 2) ≡ 0
    → hidden_of b (byte_in (written Name s) 0) (byte_in (written Name s) 1) (byte_in (written Name s) 2) ≡ 0
second b s (none is) h = rw (is, written-nil Name) (rw is at h)
second b s (escape is) h =
    rw is (second_escape b (byte_in s 0) (byte_in s 1) (byte_in s 2) (byte_in (written Name s) 1) (byte_in (written Name s) 2) h)
second b s (same c t is text) h = rw text (third b c t (front_of t) (rw is at h))

kept_shown : (b : ℕ) (s : List ℕ) → escape_len Name (b ∷ s) ≡ 0 → hidden_len (b ∷ written Name s) ≡ 0
kept_shown b s kept = four b (written Name s) ∙ second b s (front_of s) (sym (four b s) ∙ not_hidden b s kept)

shown-within : (k : ℕ) (s : List ℕ) → length s ≤ k → AllShown (written Name s)
shown-within k [] enough = rw (written-nil Name) shown-nil
shown-within zero (b ∷ s) enough = absurd (omega (arith, enough))
shown-within (suc k) (b ∷ s) enough = ⊎_elim
    (λ kept. rw (written-kept Name b s kept) (shown-cons b (written Name s) (kept_shown b s kept) (shown-within k s (omega (arith, enough)))))
    (λ some.
    let n = escape_len Name (b ∷ s) in
    let left : length (drop n (b ∷ s)) ≤ k = omega (arith, length-drop n (b ∷ s), enough, some) in
    rw (written-escaped Name (b ∷ s) some) (shown-first (b ∷ s) (written Name (drop n (b ∷ s))) (shown-within k (drop n (b ∷ s)) left)))
    (zero_or_more (escape_len Name (b ∷ s)))

pub shown-text : (s : List ℕ) → AllShown (escaped_text s)
shown-text s = shown-within (length s) s (omega arith)
