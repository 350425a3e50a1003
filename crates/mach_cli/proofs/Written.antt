-- How a text is written, and where its characters begin.
use Rattle.std.proofs.Common.{◌≡◌, ◌∙◌, ◌⊎◌, ℕ, zero, suc, ◌+◌, ◌-◌, ◌/◌, ◌%◌, ◌<◌, ◌≤◌, ◌==◌, ◌&&◌, ◌||◌, nat_lt, Bool, cond, not, true, false, List}
use Rattle.std.proofs.Common.{All, [], ◌∷◌, ◌++◌, length, get_or, take, drop, inl, inr, ⊎_elim, refl, sym, ap}
use Rattle.std.proofs.Common.{length-append, append-nil, append_assoc, arith, drop-drop, get_or-drop, length-drop, take_all}
use Rattle.std.proofs.lemmas.Bool.{and_parts, eq-eqb, lt-ltb, ne_eqb, not-true}
use Rattle.std.proofs.lemmas.Bool.Decides.{leb_tells, nat_tests}
use Rattle.std.proofs.lemmas.List.{drop_all, drop_at, take_at, drop_more, get_or_default, get_or_past, take_more}
use Rattle.std.proofs.lemmas.Str.{IsCharBoundary-past_char, IsUtf8-drop, encode_ascii, utf8_valid_len_le}
use Rattle.std.proofs.Math.Nat.{sub_self}
use Rattle.std.proofs.Math.Utf8.{encode}
use Rattle.std.specs.Char.{len_utf8}
use Rattle.std.specs.Int.{is_in_range}
use Rattle.std.specs.List.{flat_map, list_all}
use Rattle.std.specs.Str.Lossy.{after_first_chunk, utf8_invalid_len, utf8_valid_len}
use Rattle.std.proofs.lemmas.List.Elements.{All-cons, All-nil}
use Rattle.std.proofs.lemmas.Str.{chars-IsAscii}
use Rattle.std.proofs.lemmas.Str.Ascii.{IsAscii-from_all}
use Rattle.std.specs.Str.{chars, IsCharBoundary, IsUtf8}
use Rattle.mach_cli.specs.Escapes.{byte_in, escape_len, escape_of, escape_text, escaped_bytes, escaped_bytes_within, escaped_text, hidden_len}
use Rattle.mach_cli.specs.Escapes.{char_of_four, char_of_three, char_of_two, hides_four, hides_three, hides_two, is_hidden, is_visible, is_quoted, is_tail}
use Rattle.mach_cli.specs.Escapes.{written, written_past}
use Rattle.mach_cli.specs.declared.escaped.Style.{Style}
use Rattle.mach_cli.specs.declared.escaped.Style.TheVariants.{Json, Name}

-- ---- the first character

abbrev IsLow : ℕ → Type 0
IsLow b = (b < 128) × (b ≡ 0x20 → ⊥)

abbrev IsTail : ℕ → Type 0
IsTail b = (0x80 ≤ b) × (b ≤ 0xbf)

abbrev IsTwo : ℕ → ℕ → Type 0
IsTwo b c = (0xc2 ≤ b) × (b ≤ 0xdf) × IsTail c

abbrev IsThree : ℕ → ℕ → ℕ → Type 0
IsThree b c d = (0xe1 ≤ b) × (b ≤ 0xef) × IsTail c × IsTail d

abbrev IsFour : ℕ → ℕ → ℕ → ℕ → Type 0
IsFour b c d e = (0xf1 ≤ b) × (b ≤ 0xf4) × IsTail c × IsTail d × IsTail e

-- the first character of s has n bytes and is escaped
pub data Kind (s : List ℕ) (n : ℕ) : Type 0 where
  one : n ≡ 1 → IsLow (byte_in s 0) → Kind s n
  two : n ≡ 2 → IsTwo (byte_in s 0) (byte_in s 1) → Kind s n
  three : n ≡ 3 → IsThree (byte_in s 0) (byte_in s 1) (byte_in s 2) → Kind s n
  four : n ≡ 4 → IsFour (byte_in s 0) (byte_in s 1) (byte_in s 2) (byte_in s 3) → Kind s n

quoted_is : (style : Style) (b : ℕ) → is_quoted style b ≡ true → IsLow b
quoted_is Name b h = grind (arith, nat_tests)
quoted_is Json b h = grind (arith, nat_tests)

low_is : (b : ℕ) → (nat_lt b 0x20 || b == 0x7f) ≡ true → IsLow b
low_is b h = grind (arith, nat_tests)

two_is : (b c : ℕ) → hides_two b c ≡ true → IsTwo b c
two_is b c h = let k = (and_parts (is_in_range 0xc2 0xdf b && is_tail c) (is_hidden (char_of_two b c)) h).0 in grind (arith, nat_tests)

three_is : (b c d : ℕ) → hides_three b c d ≡ true → IsThree b c d
three_is b c d h =
    let k = (and_parts (is_in_range 0xe1 0xef b && (is_tail c && is_tail d)) (is_hidden (char_of_three b c d)) h).0 in
    grind (arith, nat_tests)

four_is : (b c d e : ℕ) → hides_four b c d e ≡ true → IsFour b c d e
four_is b c d e h =
    let k = (and_parts (is_in_range 0xf1 0xf4 b && (is_tail c && (is_tail d && is_tail e))) (is_hidden (char_of_four b c d e)) h).0 in
    grind (arith, nat_tests)

-- a byte that isn't a space is there
there : (s : List ℕ) (i : ℕ) → (byte_in s i ≡ 0x20 → ⊥) → i < length s
there s i other = ⊎_elim (λ past. absurd (other (get_or_past s i 0x20 past.1))) (λ h. h.1) (leb_tells (length s) i)

by_four : (s : List ℕ) (m : Bool) → (m ≡ true → IsFour (byte_in s 0) (byte_in s 1) (byte_in s 2) (byte_in s 3)) → 0 < cond m 4 0 → Kind s (cond m 4 0)
by_four s true h some = four refl (h refl)
by_four s false h some = absurd (omega (arith, some))

by_three : (s : List ℕ) (m : Bool) (n : ℕ) → (m ≡ true → IsThree (byte_in s 0) (byte_in s 1) (byte_in s 2)) → (0 < n → Kind s n)
    → 0 < cond m 3 n → Kind s (cond m 3 n)
by_three s true n h other some = three refl (h refl)
by_three s false n h other some = other some

by_two : (s : List ℕ) (m : Bool) (n : ℕ) → (m ≡ true → IsTwo (byte_in s 0) (byte_in s 1)) → (0 < n → Kind s n) → 0 < cond m 2 n → Kind s (cond m 2 n)
by_two s true n h other some = two refl (h refl)
by_two s false n h other some = other some

by_low : (s : List ℕ) (m : Bool) → (m ≡ true → IsLow (byte_in s 0)) → 0 < cond m 1 0 → Kind s (cond m 1 0)
by_low s true h some = one refl (h refl)
by_low s false h some = absurd (omega (arith, some))

by_first : (s : List ℕ) (m : Bool) (n k : ℕ) → (0 < n → Kind s n) → (0 < k → Kind s k) → 0 < cond m n k → Kind s (cond m n k)
by_first s true n k low high some = low some
by_first s false n k low high some = high some

pub hidden_kind : (s : List ℕ) → 0 < hidden_len s → Kind s (hidden_len s)
unfolding hidden_len
hidden_kind s some =
    let b : ℕ = byte_in s 0 in
    let c : ℕ = byte_in s 1 in
    let d : ℕ = byte_in s 2 in
    let e : ℕ = byte_in s 3 in
    by_first s (nat_lt b 0x80) _ _ (by_low s (nat_lt b 0x20 || b == 0x7f) (low_is b))
    (by_two s (hides_two b c) _ (two_is b c) (by_three s (hides_three b c d) _ (three_is b c d) (by_four s (hides_four b c d e) (four_is b c d e)))) some

pub escape_kind : (style : Style) (s : List ℕ) → 0 < escape_len style s → Kind s (escape_len style s)
unfolding escape_len
escape_kind style s some =
    let quoted = is_quoted style (byte_in s 0) in
    elim quoted as (λ b. quoted ≡ b → 0 < cond b 1 (hidden_len s) → Kind s (cond b 1 (hidden_len s))) [
      | true ↦ λ is _. let k = quoted_is style (byte_in s 0) is in one refl k
      | false ↦ λ _ more. hidden_kind s more
    ] refl some

kind_within : (s : List ℕ) (n : ℕ) → Kind s n → n ≤ length s
kind_within s n (one is low) = let h = there s 0 low.1 in omega (arith, is, h)
kind_within s n (two is k) = let h = there s 1 (λ e. omega (arith, e, k.2.0)) in omega (arith, is, h)
kind_within s n (three is k) = let h = there s 2 (λ e. omega (arith, e, k.3.0)) in omega (arith, is, h)
kind_within s n (four is k) = let h = there s 3 (λ e. omega (arith, e, k.4.0)) in omega (arith, is, h)

pub zero_or_more : (n : ℕ) → (n ≡ 0) ⊎ (0 < n)
zero_or_more zero = inl refl
zero_or_more (suc n) = inr (omega arith)

pub hidden_within : (s : List ℕ) → hidden_len s ≤ length s
hidden_within s = ⊎_elim (λ none. omega (arith, none)) (λ some. kind_within s _ (hidden_kind s some)) (zero_or_more (hidden_len s))

pub escape_within : (style : Style) (s : List ℕ) → escape_len style s ≤ length s
escape_within style s = ⊎_elim (λ none. omega (arith, none)) (λ some. kind_within s _ (escape_kind style s some)) (zero_or_more (escape_len style s))

-- ---- texts without escapes

plain_kept : (style : Style) (b : ℕ) (rest : List ℕ) → is_visible style b ≡ true → escape_len style (b ∷ rest) ≡ 0
unfolding escape_len hidden_len
plain_kept style b rest plain =
    let parts = and_parts (is_in_range 0x20 0x7e b) (not (is_quoted style b)) plain in
    let quoted : is_quoted style b ≡ false = not-true (is_quoted style b) parts.1 in
    let seven : nat_lt b 0x80 ≡ true = let low = parts.0 in grind (arith, nat_tests) in
    let shown : (nat_lt b 0x20 || b == 0x7f) ≡ false = let low = parts.0 in grind (arith, nat_tests) in
    rw (quoted, seven, shown) refl

pub written_plain : (style : Style) (text : List ℕ) → list_all (is_visible style) text ≡ true → text ≡ written style text
unfolding written
written_plain style [] all = refl
written_plain style (b ∷ rest) all =
    let parts = and_parts (is_visible style b) (list_all (is_visible style) rest) all in
    rw (plain_kept style b rest parts.0) (ap (λ t. b ∷ t) (written_plain style rest parts.1))

ascii_byte : (style : Style) (b : ℕ) → is_visible style b ≡ true → b < 128
ascii_byte style b plain = let low = (and_parts (is_in_range 0x20 0x7e b) (not (is_quoted style b)) plain).0 in grind (arith, nat_tests)

ascii_bytes : (style : Style) (text : List ℕ) → list_all (is_visible style) text ≡ true → All (λ b. b < 128) text
ascii_bytes style [] all = All-nil (λ b. b < 128)
ascii_bytes style (b ∷ rest) all =
    let parts = and_parts (is_visible style b) (list_all (is_visible style) rest) all in
    All-cons (λ b. b < 128) b rest (ascii_byte style b parts.0) (ascii_bytes style rest parts.1)

-- such a text has as many characters as bytes
pub visible_chars : (style : Style) (text : List ℕ) → list_all (is_visible style) text ≡ true → length (chars text) ≡ length text
visible_chars style text all = ap length (chars-IsAscii text (IsAscii-from_all text (ascii_bytes style text all)))

-- ---- where characters begin

first_byte : (s : List ℕ) (i : ℕ) → i < length s → (n : ℕ) → Kind (drop i s) n → 128 ≤ get_or s i 0 → 192 ≤ get_or s i 0
first_byte s i within n kind high =
    let at = get_or-drop i s 0 0x20 in
    let same = get_or_default s i 0x20 0 within in
    elim kind [
      | one is k ↦ let low = k.0 in absurd (grind (arith, at, same, low, high))
      | two is k ↦ let lead = k.0 in grind (arith, at, same, lead)
      | three is k ↦ let lead = k.0 in grind (arith, at, same, lead)
      | four is k ↦ let lead = k.0 in grind (arith, at, same, lead)
    ]

-- the byte at i begins an escaped character, or is one
pub escape_here : (style : Style) (s : List ℕ) (i : ℕ) → i < length s → 0 < escape_len style (drop i s) → IsCharBoundary s i
escape_here style s i within some = (omega arith, λ _ high. first_byte s i within _ (escape_kind style (drop i s) some) high)

two_encoded : (b c : ℕ) → IsTwo b c → (encode (char_of_two b c) ≡ b ∷ c ∷ []) × (len_utf8 (char_of_two b c) ≡ 2)
unfolding encode
two_encoded b c (from, to, (low, up)) =
    let x = char_of_two b c in
    let one : nat_lt x 128 ≡ false = grind (arith, nat_tests) in
    let two : nat_lt x 2048 ≡ true = grind (arith, nat_tests) in
    let first : 192 + x / 64 ≡ b = omega arith in
    let second : 128 + x % 64 ≡ c = omega arith in
    (rw (one, two, first, second) refl, rw (one, two) refl)

three_encoded : (b c d : ℕ) → IsThree b c d → (encode (char_of_three b c d) ≡ b ∷ c ∷ d ∷ []) × (len_utf8 (char_of_three b c d) ≡ 3)
unfolding encode
three_encoded b c d (from, to, (low, up), (low_d, up_d)) =
    let x = char_of_three b c d in
    let one : nat_lt x 128 ≡ false = grind (arith, nat_tests) in
    let two : nat_lt x 2048 ≡ false = grind (arith, nat_tests) in
    let three : nat_lt x 65536 ≡ true = grind (arith, nat_tests) in
    let first : 224 + x / 4096 ≡ b = omega arith in
    let second : 128 + x / 64 % 64 ≡ c = omega arith in
    let third : 128 + x % 64 ≡ d = omega arith in
    (rw (one, two, three, first, second, third) refl, rw (one, two, three) refl)

four_encoded : (b c d e : ℕ) → IsFour b c d e → (encode (char_of_four b c d e) ≡ b ∷ c ∷ d ∷ e ∷ []) × (len_utf8 (char_of_four b c d e) ≡ 4)
unfolding encode
four_encoded b c d e (from, to, (low, up), (low_d, up_d), (low_e, up_e)) =
    let x = char_of_four b c d e in
    let one : nat_lt x 128 ≡ false = grind (arith, nat_tests) in
    let two : nat_lt x 2048 ≡ false = grind (arith, nat_tests) in
    let three : nat_lt x 65536 ≡ false = grind (arith, nat_tests) in
    let first : 240 + x / 262144 ≡ b = omega arith in
    let second : 128 + x / 4096 % 64 ≡ c = omega arith in
    let third : 128 + x / 64 % 64 ≡ d = omega arith in
    let fourth : 128 + x % 64 ≡ e = omega arith in
    (rw (one, two, three, first, second, third, fourth) refl, rw (one, two, three) refl)

front : (s : List ℕ) (i : ℕ) → i < length s → drop i s ≡ byte_in s i ∷ drop (i + 1) s
front s i within = drop_more s i 0x20 within

-- the first two, three and four bytes
front_two : (s : List ℕ) → 1 < length s → s ≡ byte_in s 0 ∷ byte_in s 1 ∷ drop 2 s
front_two s within = front s 0 (omega (arith, within)) ∙ ap (λ t. byte_in s 0 ∷ t) (front s 1 within)

front_three : (s : List ℕ) → 2 < length s → s ≡ byte_in s 0 ∷ byte_in s 1 ∷ byte_in s 2 ∷ drop 3 s
front_three s within = front_two s (omega (arith, within)) ∙ ap (λ t. byte_in s 0 ∷ byte_in s 1 ∷ t) (front s 2 within)

front_four : (s : List ℕ) → 3 < length s → s ≡ byte_in s 0 ∷ byte_in s 1 ∷ byte_in s 2 ∷ byte_in s 3 ∷ drop 4 s
front_four s within = front_three s (omega (arith, within)) ∙ ap (λ t. byte_in s 0 ∷ byte_in s 1 ∷ byte_in s 2 ∷ t) (front s 3 within)

-- the start of a text that is escaped is a character
char_first : (s : List ℕ) (n : ℕ) → Kind s n → (c : ℕ) × (s ≡ encode c ++ drop n s) × (len_utf8 c ≡ n)
char_first s n (one is low) =
    let some = there s 0 low.1 in
    let small : nat_lt (byte_in s 0) 128 ≡ true = lt-ltb (byte_in s 0) 128 low.0 in
    (byte_in s 0, rw (is, encode_ascii (byte_in s 0) low.0) (front s 0 some), rw (is, small) refl)
char_first s n (two is k) =
    let some = there s 1 (λ e. omega (arith, e, k.2.0)) in
    let known = two_encoded (byte_in s 0) (byte_in s 1) k in
    (char_of_two (byte_in s 0) (byte_in s 1), rw (is, known.0) (front_two s some), known.1 ∙ sym is)
char_first s n (three is k) =
    let some = there s 2 (λ e. omega (arith, e, k.3.0)) in
    let known = three_encoded (byte_in s 0) (byte_in s 1) (byte_in s 2) k in
    (char_of_three (byte_in s 0) (byte_in s 1) (byte_in s 2), rw (is, known.0) (front_three s some), known.1 ∙ sym is)
char_first s n (four is k) =
    let some = there s 3 (λ e. omega (arith, e, k.4.0)) in
    let known = four_encoded (byte_in s 0) (byte_in s 1) (byte_in s 2) (byte_in s 3) k in
    (char_of_four (byte_in s 0) (byte_in s 1) (byte_in s 2) (byte_in s 3), rw (is, known.0) (front_four s some), known.1 ∙ sym is)

-- and after it the next one begins
pub escape_after : (style : Style) (s : List ℕ) (i : ℕ) → i < length s → IsUtf8 s → 0 < escape_len style (drop i s)
    → IsCharBoundary s (i + escape_len style (drop i s))
escape_after style s i within text some =
    let here = escape_here style s i within some in
    let (c, is, len) = char_first (drop i s) _ (escape_kind style (drop i s) some) in
    rw (sym len) (IsCharBoundary-past_char s _ i c (omega arith) (IsUtf8-drop s i text here) is)

-- ---- what is written

pub written-nil : (style : Style) → written style [] ≡ []
unfolding written
written-nil style = refl

pub written-kept : (style : Style) (b : ℕ) (s : List ℕ) → escape_len style (b ∷ s) ≡ 0 → written style (b ∷ s) ≡ b ∷ written style s
unfolding written
written-kept style b s none = rw none refl

past : (style : Style) (n : ℕ) (s : List ℕ) → written_past style n s ≡ written_past style 0 (drop n s)
past style zero s = refl
past style (suc n) [] = refl
past style (suc n) (b ∷ s) = past style n s

one_less : (n : ℕ) (b : ℕ) (s : List ℕ) → 0 < n → drop (n - 1) s ≡ drop n (b ∷ s)
one_less zero b s some = absurd (omega arith)
one_less (suc n) b s some = let is : suc n - 1 ≡ n = omega arith in rw is refl

pub written-escaped : (style : Style) (s : List ℕ) → 0 < escape_len style s → written style s ≡ escape_of style s ++ written style (drop (escape_len style s) s)
unfolding written
written-escaped style [] some = let none = escape_within style [] in absurd (omega (arith, none, some))
written-escaped style (b ∷ s) some =
    let n = escape_len style (b ∷ s) in
    let other : n == 0 ≡ false = grind (arith, nat_tests) in
    rw other (ap (λ t. escape_of style (b ∷ s) ++ t) (past style (n - 1) s ∙ ap (written_past style 0) (one_less n b s some)))

-- ---- the loop

-- `done` is written for the first `at` bytes. What is left is the run from start on, and the text for what follows it.
abbrev pub IsSoFar : Style → List ℕ → (start at : ℕ) → (done : List ℕ) → Type 0
IsSoFar style s start at done =
    (start ≤ at → done ++ (take (at - start) (drop start s) ++ written style (drop at s)) ≡ written style s)
    × (at ≤ start → done ++ written style (drop start s) ≡ written style s)

pub so_far-init : (style : Style) (s : List ℕ) → IsSoFar style s 0 0 []
so_far-init style s = (λ _. refl, λ _. refl)

run_to : (a b : ℕ) → a ≤ b → a + (b - a) ≡ b
run_to a b h = omega arith

-- a byte before the run is passed over
pub so_far-passed : (style : Style) (s done : List ℕ) (start at : ℕ) → at < start → IsSoFar style s start at done → IsSoFar style s start (at + 1) done
so_far-passed style s done start at before so_far = (
  λ low. let same : at + 1 ≡ start = omega (arith, low, before) in rw (same, sub_self start) (so_far.1 (omega (arith, before))),
  λ _. so_far.1 (omega (arith, before)),
)

-- an unescaped byte joins the run
pub so_far-kept : (style : Style) (s done : List ℕ) (start at : ℕ) → start ≤ at → at < length s → escape_len style (drop at s) ≡ 0
    → IsSoFar style s start at done → IsSoFar style s start (at + 1) done
so_far-kept style s done start at low within none so_far =
    let x = get_or s at 0 in
    let following = get_or-drop start s (at - start) 0 in
    let is : get_or (drop start s) (at - start) 0 ≡ x = rw (following, run_to start at low) refl in
    let more = take_more (drop start s) (at - start) 0 (omega (arith, length-drop start s)) in
    let next : at + 1 - start ≡ at - start + 1 = omega arith in
    let front = drop_more s at 0 within in
    let text = ap (written style) front ∙ written-kept style x (drop (at + 1) s) (ap (escape_len style) (sym front) ∙ none) in
    (λ _. rw (next, more, is) (simp append_assoc (rw text at (so_far.0 low))), λ high. absurd (omega (arith, low, high)))

-- an escaped character ends the run
pub so_far-escaped : (style : Style) (s done : List ℕ) (start at : ℕ) → start ≤ at → at < length s → 0 < escape_len style (drop at s)
    → IsSoFar style s start at done
    → IsSoFar style s (at + escape_len style (drop at s)) (at + 1) (done ++ (take (at - start) (drop start s) ++ escape_of style (drop at s)))
so_far-escaped style s done start at low within some so_far =
    let n = escape_len style (drop at s) in
    let text = written-escaped style (drop at s) some in
    let whole : (done ++ (take (at - start) (drop start s) ++ escape_of style (drop at s))) ++ written style (drop (at + n) s) ≡ written style s =
    simp append_assoc (rw (text, drop-drop n at s) at (so_far.0 low)) in
    (λ high. let same : at + 1 ≡ at + n = omega (arith, high, some) in rw (same, sub_self (at + n)) whole, λ _. whole)

-- at the end what is left is the run
pub so_far-end : (style : Style) (s done : List ℕ) (start at : ℕ) → start ≤ length s → at ≡ length s
    → IsSoFar style s start at done → done ++ drop start s ≡ written style s
so_far-end style s done start at within end so_far =
    let all : take (at - start) (drop start s) ≡ drop start s = take_all _ _ (omega (arith, length-drop start s)) in
    let none : drop at s ≡ [] = drop_all at s (omega arith) in
    rw (all, none, written-nil style, append-nil) at (so_far.0 (omega (arith, within, end)))

-- a slice from a place on, of bytes that are a text
pub from_on : (bytes s : List ℕ) (i : ℕ) → bytes ≡ s → take (length bytes - i) (drop i bytes) ≡ drop i s
from_on bytes s i same = take_all _ _ (omega (arith, length-drop i bytes)) ∙ ap (drop i) same

-- ---- bytes that may not be text

within_text : (k : ℕ) (bs : List ℕ) → utf8_valid_len bs ≡ length bs → escaped_bytes_within k bs ≡ escaped_text bs
within_text zero bs whole = refl
within_text (suc k) bs whole = rw (eq-eqb _ _ whole) refl

-- the output for the first run of text, and for the bytes after it
abbrev first_chunk : List ℕ → List ℕ → List ℕ
first_chunk bs rest = let n = utf8_valid_len bs in
    escaped_text (take n bs) ++ (flat_map escape_text (take (utf8_invalid_len (drop n bs)) (drop n bs)) ++ rest)

within_fault : (k : ℕ) (bs : List ℕ) → ¬ (utf8_valid_len bs ≡ length bs)
    → escaped_bytes_within (suc k) bs ≡ first_chunk bs (escaped_bytes_within k (after_first_chunk bs))
within_fault k bs faulty = rw (ne_eqb _ _ faulty) refl

escaped_nil : escaped_text [] ≡ []
escaped_nil = written-nil Name

nil_from_length : (xs : List ℕ) → length xs ≡ 0 → xs ≡ []
nil_from_length xs none = sym (take_all (length xs) xs (omega arith)) ∙ ap (λ k. take k xs) none

pub within-nil : (k : ℕ) (bs : List ℕ) → length bs ≡ 0 → escaped_bytes_within k bs ≡ []
within-nil k bs none = let few = utf8_valid_len_le bs in
    within_text k bs (omega (arith, few, none)) ∙ ap escaped_text (nil_from_length bs none) ∙ escaped_nil

faulty_chunk : (k : ℕ) (bs valid invalid rest : List ℕ) → bs ≡ valid ++ (invalid ++ rest) → length valid ≡ utf8_valid_len bs
    → length invalid ≡ utf8_invalid_len (drop (utf8_valid_len bs) bs) → 0 < length invalid
    → escaped_bytes_within (suc k) bs ≡ escaped_text valid ++ (flat_map escape_text invalid ++ escaped_bytes_within k rest)
faulty_chunk k bs valid invalid rest parts valid_len invalid_len some =
    let n = utf8_valid_len bs in
    let m = utf8_invalid_len (drop n bs) in
    let total = ap length parts ∙ length-append valid (invalid ++ rest) in
    let faulty : ¬ (n ≡ length bs) = omega (arith, length-append invalid rest) in
    let front : take n bs ≡ valid = ap (take n) parts ∙ take_at valid _ n valid_len in
    let following : drop n bs ≡ invalid ++ rest = ap (drop n) parts ∙ drop_at valid _ n valid_len in
    let back : take m (drop n bs) ≡ invalid = ap (take m) following ∙ take_at invalid rest m invalid_len in
    let after : after_first_chunk bs ≡ rest = sym (drop-drop m n bs) ∙ ap (drop m) following ∙ drop_at invalid rest m invalid_len in
    within_fault k bs faulty ∙ (λ i. escaped_text (front i) ++ (flat_map escape_text (back i) ++ escaped_bytes_within k (after i)))

last_chunk : (k : ℕ) (bs valid invalid rest : List ℕ) → bs ≡ valid ++ (invalid ++ rest) → length valid ≡ utf8_valid_len bs
    → length invalid ≡ 0 → length rest ≡ 0
    → escaped_bytes_within (suc k) bs ≡ escaped_text valid ++ (flat_map escape_text invalid ++ escaped_bytes_within k rest)
last_chunk k bs valid invalid rest parts valid_len no_invalid no_rest =
    let none = nil_from_length invalid no_invalid in
    let whole : bs ≡ valid = parts ∙ (λ i. valid ++ (none i ++ nil_from_length rest no_rest i)) ∙ append-nil valid in
    let long = ap length whole in
    within_text (suc k) bs (omega (arith, long, valid_len)) ∙ ap escaped_text whole
    ∙ sym ((λ i. escaped_text valid ++ (flat_map escape_text (none i) ++ within-nil k rest no_rest i)) ∙ append-nil (escaped_text valid))

-- the output for the first chunk, and for the rest
pub chunk_text : (k : ℕ) (bs valid invalid rest : List ℕ) → bs ≡ valid ++ (invalid ++ rest) → length valid ≡ utf8_valid_len bs
    → length invalid ≡ utf8_invalid_len (drop (utf8_valid_len bs) bs) → (length invalid ≡ 0 → length rest ≡ 0)
    → escaped_bytes_within (suc k) bs ≡ escaped_text valid ++ (flat_map escape_text invalid ++ escaped_bytes_within k rest)
chunk_text k bs valid invalid rest parts valid_len invalid_len last =
    ⊎_elim (λ none. last_chunk k bs valid invalid rest parts valid_len none (last none))
    (λ some. faulty_chunk k bs valid invalid rest parts valid_len invalid_len some) (zero_or_more (length invalid))

-- `done` is written for some chunks; the rest follows, cut at `places` places at most.
pub record IsCutSoFar (bs rest done : List ℕ) : Type 0 where
  pub places : ℕ
  pub enough : length rest ≤ places
  pub whole : done ++ escaped_bytes_within places rest ≡ escaped_bytes bs

pub cut-init : (bs : List ℕ) → IsCutSoFar bs bs []
unfolding escaped_bytes
cut-init bs = record { places = length bs; enough = omega arith; whole = refl }

cut_on : (k : ℕ) (bs from valid invalid rest done : List ℕ) → from ≡ valid ++ (invalid ++ rest) → length rest < length from
    → (length invalid ≡ 0 → length rest ≡ 0)
    → length valid ≡ utf8_valid_len from → length invalid ≡ utf8_invalid_len (drop (utf8_valid_len from) from) → length from ≤ k
    → done ++ escaped_bytes_within k from ≡ escaped_bytes bs → IsCutSoFar bs rest (done ++ (escaped_text valid ++ flat_map escape_text invalid))
cut_on zero bs from valid invalid rest done parts fewer last valid_len invalid_len enough whole = absurd (omega (arith, fewer, enough))
cut_on (suc k) bs from valid invalid rest done parts fewer last valid_len invalid_len enough whole =
    record {
      places = k;
      enough = omega (arith, fewer, enough);
      whole = simp append_assoc (rw (chunk_text k from valid invalid rest parts valid_len invalid_len last) at whole);
    }

pub cut-on : (bs from valid invalid rest done : List ℕ) → from ≡ valid ++ (invalid ++ rest) → length rest < length from → (length invalid ≡ 0 → length rest ≡ 0)
    → length valid ≡ utf8_valid_len from → length invalid ≡ utf8_invalid_len (drop (utf8_valid_len from) from)
    → IsCutSoFar bs from done → IsCutSoFar bs rest (done ++ (escaped_text valid ++ flat_map escape_text invalid))
cut-on bs from valid invalid rest done parts fewer last valid_len invalid_len so_far =
    cut_on so_far.places bs from valid invalid rest done parts fewer last valid_len invalid_len so_far.enough so_far.whole

pub cut-end : (bs rest done : List ℕ) → length rest ≡ 0 → IsCutSoFar bs rest done → done ≡ escaped_bytes bs
cut-end bs rest done none so_far = sym (append-nil done) ∙ rw (within-nil so_far.places rest none) at so_far.whole
