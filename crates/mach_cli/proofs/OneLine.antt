-- Texts with no line feed, and lines. `has_no_feed` of literals computes: `refl` shows it.
use Rattle.std.proofs.Common.{◌≡◌, ◌∙◌, ℕ, zero, suc, ◌-◌, ◌/◌, ◌%◌, ◌^◌, ◌<◌, ◌≤◌, ◌==◌, not, Bool, cond, true, false, List, [], ◌∷◌, ◌++◌, codes, All}
use Rattle.std.proofs.Common.{length, take, drop, ⊎_elim, refl, sym, ap, arith, append_assoc, length-drop, replicate, ℤ, pos, negsuc}
use Rattle.std.proofs.lemmas.Bool.{ne_eqb}
use Rattle.std.proofs.lemmas.Bool.Decides.{nat_tests}
use Rattle.std.proofs.lemmas.Nat.{mod_below}
use Rattle.std.proofs.lemmas.List.Elements.{All-append, All-cons, All-nil, All-replicate, All-weaker}
use Rattle.std.proofs.lemmas.List.Folds.{list_all-append}
use Rattle.std.proofs.lemmas.List.Sums.{AllPass-from_list_all, list_all-from_AllPass}
use Rattle.std.proofs.lemmas.Str.{encode_ascii}
use Rattle.std.proofs.Math.Utf8.{encode}
use Rattle.std.specs.Fmt.{before_digits, decimal, digit_glyph, digits, digits_onto, fill_after_digits, fill_text, format_spec, number_padding}
use Rattle.std.specs.Fmt.{padded_integral, padding_before}
use Rattle.std.specs.Fmt.{shown_prefix, sign_text_with, signed_decimal}
use Rattle.std.specs.List.{flat_map, repeat}
use Rattle.std.specs.Str.Lossy.{after_first_chunk, utf8_invalid_len, utf8_valid_len}
use Rattle.mach_cli.specs.Escapes.{byte_text, escape_len, escape_of, escape_text, escaped_bytes, escaped_bytes_within, escaped_text, has_no_feed}
use Rattle.mach_cli.specs.Escapes.{hidden_len, written, IsOneLine, IsPrinted}
use Rattle.mach_cli.specs.declared.escaped.Style.TheVariants.{Name}
use Rattle.mach_cli.proofs.Written.{written-escaped, written-kept, written-nil, zero_or_more}

-- ---- what holds for each byte of a number

module _ (P : ℕ → Type 0) where
  All-repeat : (n : ℕ) (xs : List ℕ) → All P xs → All P (repeat n xs)
  All-repeat zero xs all = All-nil P
  All-repeat (suc n) xs all = All-append P xs (repeat n xs) all (All-repeat n xs all)

  All-if : (b : Bool) (xs ys : List ℕ) → All P xs → All P ys → All P (cond b xs ys)
  All-if true xs ys h k = h
  All-if false xs ys h k = k

  -- for a number with its spaces, sign, prefix and zeros
  pub All-padded : (align flags width precision : ℕ) (negative : Bool) (prefix numeral : List ℕ) → P 32 → P 43 → P 45 → P 48
      → All P prefix → All P numeral → All P (padded_integral (format_spec 32 align flags width precision) negative prefix numeral)
  unfolding padded_integral
  All-padded align flags width precision negative prefix numeral space plus minus nought before all =
      let fill : All P (encode 32) = rw (encode_ascii 32 (omega arith)) (All-cons P 32 [] space (All-nil P)) in
      let s = format_spec 32 align flags width precision in
      let padding = number_padding s negative prefix (length numeral) in
      let spaces = cond s.zero 0 (padding_before s padding 3) in
      let zeros = cond s.zero padding 0 in
      let signs = All-if negative (45 ∷ []) (cond s.plus (43 ∷ []) []) (All-cons P 45 [] minus (All-nil P))
      (All-if s.plus (43 ∷ []) [] (All-cons P 43 [] plus (All-nil P)) (All-nil P)) in
      let front = All-append P (fill_text s spaces) (sign_text_with s.plus negative) (All-repeat spaces (encode 32) fill) signs in
      let signed = fill_text s spaces ++ sign_text_with s.plus negative in
      let named = All-append P signed (shown_prefix s prefix) front (All-if s.alternate prefix [] before (All-nil P)) in
      let whole = All-append P (signed ++ shown_prefix s prefix) (replicate zeros 48) named (All-replicate P zeros 48 nought) in
      let following = fill_after_digits s negative prefix (length numeral) in
      All-append P (before_digits s negative prefix (length numeral)) (numeral ++ fill_text s following) whole
      (All-append P numeral (fill_text s following) all (All-repeat following (encode 32) fill))

  -- for the digits of a number
  onto : (k base : ℕ) (upper : Bool) (n : ℕ) (acc : List ℕ) → ((d : ℕ) → d < base → P (digit_glyph upper d)) → 0 < base
      → All P acc → All P (digits_onto k base upper n acc)
  onto zero base upper n acc glyph some all = all
  onto (suc k) base upper n acc glyph some all =
      let d = All-cons P (digit_glyph upper (n % base)) acc (glyph (n % base) (mod_below n base some)) all in
      All-if (n / base == 0) (digit_glyph upper (n % base) ∷ acc) (digits_onto k base upper (n / base) (digit_glyph upper (n % base) ∷ acc)) d
      (onto k base upper (n / base) (digit_glyph upper (n % base) ∷ acc) glyph some d)

  pub All-digits : (base : ℕ) (upper : Bool) (n : ℕ) → ((d : ℕ) → d < base → P (digit_glyph upper d)) → 0 < base → All P (digits base upper n)
  unfolding digits
  All-digits base upper n glyph some = onto 64 base upper n [] glyph some (All-nil P)

-- ---- printed bytes

small_glyph : (upper : Bool) (d : ℕ) → d < 16 → IsPrinted (digit_glyph upper d)
small_glyph true d small = (grind (arith, nat_tests), λ e. grind (arith, nat_tests))
small_glyph false d small = (grind (arith, nat_tests), λ e. grind (arith, nat_tests))

-- a byte of ASCII
pub printed-ascii : (b : ℕ) → 0x20 ≤ b → b < 0x7f → IsPrinted b
printed-ascii b low high = (low, λ e. omega (arith, e, high))

pub printed-digits : (base : ℕ) (upper : Bool) (n : ℕ) → 0 < base → base ≤ 16 → All IsPrinted (digits base upper n)
printed-digits base upper n some few = All-digits IsPrinted base upper n (λ d small. small_glyph upper d (omega (arith, small, few))) some

pub printed-decimal : (n : ℕ) → All IsPrinted (decimal n)
printed-decimal n = printed-digits 10 false n (omega arith) (omega arith)

-- a number as it is printed under options
pub printed-padded : (align flags width precision : ℕ) (negative : Bool) (prefix numeral : List ℕ) → All IsPrinted prefix → All IsPrinted numeral
    → All IsPrinted (padded_integral (format_spec 32 align flags width precision) negative prefix numeral)
printed-padded align flags width precision negative prefix numeral before all =
    All-padded IsPrinted align flags width precision negative prefix numeral (printed-ascii 32 (omega arith) (omega arith))
    (printed-ascii 43 (omega arith) (omega arith)) (printed-ascii 45 (omega arith) (omega arith)) (printed-ascii 48 (omega arith) (omega arith)) before all

pub printed-byte : (n : ℕ) → All IsPrinted (byte_text n)
printed-byte n = printed-padded 0 4 2 (2 ^ 64 - 1) false [] (digits 16 false n) (All-nil IsPrinted) (printed-digits 16 false n (omega arith) (omega arith))

pub printed-escape : (n : ℕ) → All IsPrinted (escape_text n)
printed-escape n =
    All-cons IsPrinted 0x5c (0x78 ∷ byte_text n) (printed-ascii 0x5c (omega arith) (omega arith))
    (All-cons IsPrinted 0x78 (byte_text n) (printed-ascii 0x78 (omega arith) (omega arith)) (printed-byte n))

printed-escapes : (bs : List ℕ) → All IsPrinted (flat_map escape_text bs)
printed-escapes [] = All-nil IsPrinted
printed-escapes (b ∷ bs) = All-append IsPrinted (escape_text b) (flat_map escape_text bs) (printed-escape b) (printed-escapes bs)

-- ---- names

-- a byte that is kept is no control character
kept_printed : (b : ℕ) (s : List ℕ) → escape_len Name (b ∷ s) ≡ 0 → IsPrinted b
unfolding escape_len hidden_len
kept_printed b s none = (grind (arith, nat_tests), λ e. grind (arith, nat_tests))

printed-first : (s : List ℕ) → All IsPrinted (escape_of Name s)
printed-first [] = printed-escapes (take (hidden_len []) [])
printed-first (b ∷ s) = let hidden = flat_map escape_text (take (hidden_len (b ∷ s)) (b ∷ s)) in
    elim (b == 0x5c) as (λ t. b == 0x5c ≡ t → All IsPrinted (cond t (0x5c ∷ b ∷ []) hidden)) [
      | true ↦ λ is. let slash : b ≡ 0x5c = grind (arith, nat_tests) in
          All-cons IsPrinted 0x5c (b ∷ []) (printed-ascii 0x5c (omega arith) (omega arith))
          (All-cons IsPrinted b [] (printed-ascii b (omega (arith, slash)) (omega (arith, slash))) (All-nil IsPrinted))
      | false ↦ λ is. printed-escapes (take (hidden_len (b ∷ s)) (b ∷ s))
    ] refl

printed-within : (k : ℕ) (s : List ℕ) → length s ≤ k → All IsPrinted (written Name s)
printed-within k [] enough = rw (written-nil Name) (All-nil IsPrinted)
printed-within zero (b ∷ s) enough = absurd (omega (arith, enough))
printed-within (suc k) (b ∷ s) enough = ⊎_elim
    (λ none. rw (written-kept Name b s none) (All-cons IsPrinted b (written Name s) (kept_printed b s none) (printed-within k s (omega (arith, enough)))))
    (λ some.
    let n = escape_len Name (b ∷ s) in
    let left : length (drop n (b ∷ s)) ≤ k = omega (arith, length-drop n (b ∷ s), enough, some) in
    let others = printed-within k (drop n (b ∷ s)) left in
    rw (written-escaped Name (b ∷ s) some) (All-append IsPrinted (escape_of Name (b ∷ s)) (written Name (drop n (b ∷ s))) (printed-first (b ∷ s)) others))
    (zero_or_more (escape_len Name (b ∷ s)))

pub printed-text : (s : List ℕ) → All IsPrinted (escaped_text s)
printed-text s = printed-within (length s) s (omega arith)

printed-cut : (k : ℕ) (bs : List ℕ) → All IsPrinted (escaped_bytes_within k bs)
printed-cut zero bs = printed-text bs
printed-cut (suc k) bs =
    let n = utf8_valid_len bs in
    let bytes = take (utf8_invalid_len (drop n bs)) (drop n bs) in
    let others = escaped_bytes_within k (after_first_chunk bs) in
    let following = All-append IsPrinted (flat_map escape_text bytes) others (printed-escapes bytes) (printed-cut k (after_first_chunk bs)) in
    All-if IsPrinted (n == length bs) (escaped_text bs) (escaped_text (take n bs) ++ (flat_map escape_text bytes ++ others)) (printed-text bs)
    (All-append IsPrinted (escaped_text (take n bs)) (flat_map escape_text bytes ++ others) (printed-text (take n bs)) following)

pub printed-bytes : (bs : List ℕ) → All IsPrinted (escaped_bytes bs)
unfolding escaped_bytes
printed-bytes bs = printed-cut (length bs) bs

-- ---- no line feed

no_feed : (b : ℕ) → IsPrinted b → not (b == 0x0a) ≡ true
no_feed b printed = rw (ne_eqb b 0x0a (λ e. omega (arith, e, printed.0))) refl

pub no_feed-printed : (xs : List ℕ) → All IsPrinted xs → has_no_feed xs ≡ true
no_feed-printed xs all = list_all-from_AllPass (λ b. not (b == 0x0a)) xs (All-weaker IsPrinted (λ b. not (b == 0x0a) ≡ true) no_feed xs all)

pub no_feed-append : (xs ys : List ℕ) → has_no_feed xs ≡ true → has_no_feed ys ≡ true → has_no_feed (xs ++ ys) ≡ true
no_feed-append xs ys h k = rw (list_all-append (λ b. not (b == 0x0a)) xs ys, h, k) refl

pub no_feed-if : (b : Bool) (xs ys : List ℕ) → has_no_feed xs ≡ true → has_no_feed ys ≡ true → has_no_feed (cond b xs ys) ≡ true
no_feed-if true xs ys h k = h
no_feed-if false xs ys h k = k

pub no_feed-flat_map : {A : Type 0} (f : A → List ℕ) (xs : List A) → ((x : A) → has_no_feed (f x) ≡ true) → has_no_feed (flat_map f xs) ≡ true
no_feed-flat_map f [] each = refl
no_feed-flat_map f (x ∷ xs) each = no_feed-append (f x) (flat_map f xs) (each x) (no_feed-flat_map f xs each)

pub no_feed-repeat : (n : ℕ) (text : List ℕ) → has_no_feed text ≡ true → has_no_feed (repeat n text) ≡ true
no_feed-repeat zero text h = refl
no_feed-repeat (suc n) text h = no_feed-append text (repeat n text) h (no_feed-repeat n text h)

pub no_feed-space : has_no_feed (encode 32) ≡ true
no_feed-space = rw (encode_ascii 32 (omega arith)) refl

pub no_feed-decimal : (n : ℕ) → has_no_feed (decimal n) ≡ true
no_feed-decimal n = no_feed-printed (decimal n) (printed-decimal n)

pub no_feed-hex : (n : ℕ) → has_no_feed (digits 16 false n) ≡ true
no_feed-hex n = no_feed-printed (digits 16 false n) (printed-digits 16 false n (omega arith) (omega arith))

-- a number under options, as `{:08x}`
pub no_feed-padded : (align flags width precision : ℕ) (negative : Bool) (prefix numeral : List ℕ) → has_no_feed prefix ≡ true → has_no_feed numeral ≡ true
    → has_no_feed (padded_integral (format_spec 32 align flags width precision) negative prefix numeral) ≡ true
no_feed-padded align flags width precision negative prefix numeral h k =
    list_all-from_AllPass (λ b. not (b == 0x0a)) (padded_integral (format_spec 32 align flags width precision) negative prefix numeral)
    (All-padded (λ b. not (b == 0x0a) ≡ true) align flags width precision negative prefix numeral refl refl refl refl
    (AllPass-from_list_all (λ b. not (b == 0x0a)) prefix h) (AllPass-from_list_all (λ b. not (b == 0x0a)) numeral k))

pub no_feed-signed_decimal : (n : ℤ) → has_no_feed (signed_decimal n) ≡ true
no_feed-signed_decimal (pos n) = no_feed-decimal n
no_feed-signed_decimal (negsuc n) = no_feed-decimal (suc n)

pub no_feed-escaped : (name : List ℕ) → has_no_feed (escaped_text name) ≡ true
no_feed-escaped name = no_feed-printed (escaped_text name) (printed-text name)

pub no_feed-escaped_bytes : (name : List ℕ) → has_no_feed (escaped_bytes name) ≡ true
no_feed-escaped_bytes name = no_feed-printed (escaped_bytes name) (printed-bytes name)

pub no_feed-bytes : (bytes : List ℕ) → has_no_feed (flat_map byte_text bytes) ≡ true
no_feed-bytes bytes = no_feed-flat_map byte_text bytes (λ n. no_feed-printed (byte_text n) (printed-byte n))

pub ruleset no_feed_numbers = (no_feed-decimal, no_feed-signed_decimal, no_feed-hex, no_feed-padded)

-- `search (no_feeds, rules)` shows that a text of such pieces has no line feed
pub ruleset no_feeds = (no_feed-append, no_feed-if, no_feed_numbers, no_feed-escaped, no_feed-escaped_bytes, no_feed-bytes)

-- ---- one line

-- the end of a line
pub line-end : (xs : List ℕ) → has_no_feed xs ≡ true → IsOneLine (xs ++ codes "\n")
line-end xs h = record { line = xs; whole = refl; one = h }

-- the part before its end
pub line-more : (xs ys : List ℕ) → has_no_feed xs ≡ true → IsOneLine ys → IsOneLine (xs ++ ys)
line-more xs ys h one = record {
  line = xs ++ one.line;
  whole = ap (λ t. xs ++ t) one.whole ∙ sym (append_assoc xs one.line (codes "\n"));
  one = no_feed-append xs one.line h one.one;
}

-- either of two lines
pub line-if : (b : Bool) (xs ys : List ℕ) → IsOneLine xs → IsOneLine ys → IsOneLine (cond b xs ys)
line-if true xs ys h k = h
line-if false xs ys h k = k
