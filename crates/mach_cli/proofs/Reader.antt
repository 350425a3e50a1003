-- Reading the escapes of a name gives the name again.
use Rattle.std.proofs.Common.{◌≡◌, ◌∙◌, ℕ, zero, suc, ◌+◌, ◌*◌, ◌/◌, ◌%◌, ◌<◌, ◌≤◌, ◌==◌, cond, true, false, List, [], ◌∷◌, ◌++◌, codes}
use Rattle.std.proofs.Common.{length, take, drop, ⊎_elim, refl, sym, ap, arith, append-nil, append_assoc, drop-drop, length-drop, take-append-drop}
use Rattle.std.proofs.lemmas.Bool.{ne_eqb}
use Rattle.std.proofs.lemmas.Bool.Decides.{nat_tests}
use Rattle.std.proofs.lemmas.Fmt.{hex_byte}
use Rattle.std.proofs.lemmas.List.Elements.{All-drop, All-head, All-tail, All-take}
use Rattle.std.specs.Char.{digit_value}
use Rattle.std.specs.Fmt.{digit_glyph}
use Rattle.std.specs.List.{flat_map}
use Rattle.std.specs.Str.Lossy.{after_first_chunk, utf8_invalid_len, utf8_valid_len}
use Rattle.mach_cli.specs.Escapes.{escape_len, escape_of, escape_text, escaped_bytes, escaped_bytes_within, escaped_text, hidden_len, unescaped}
use Rattle.mach_cli.specs.Escapes.{written, AreBytes}
use Rattle.mach_cli.specs.declared.escaped.Style.TheVariants.{Name}
use Rattle.mach_cli.proofs.Written.{escape_within, written-escaped, written-kept, written-nil, zero_or_more}

value-glyph : (d : ℕ) → d < 16 → digit_value (digit_glyph false d) ≡ d
value-glyph d small = grind (arith, nat_tests)

read-escape : (b : ℕ) (rest : List ℕ) → b < 256 → unescaped (escape_text b ++ rest) ≡ b ∷ unescaped rest
read-escape b rest small =
    let high = value-glyph (b / 16) (omega arith) in
    let low = value-glyph (b % 16) (omega arith) in
    let value : 16 * digit_value (digit_glyph false (b / 16)) + digit_value (digit_glyph false (b % 16)) ≡ b = rw (high, low) (omega arith) in
    ap (λ t. unescaped ((codes "\\x" ++ t) ++ rest)) (hex_byte false b small) ∙ ap (λ n. n ∷ unescaped rest) value

read-escapes : (bs rest : List ℕ) → AreBytes bs → unescaped (flat_map escape_text bs ++ rest) ≡ bs ++ unescaped rest
read-escapes [] rest small = refl
read-escapes (b ∷ bs) rest small =
    ap unescaped (append_assoc (escape_text b) (flat_map escape_text bs) rest)
    ∙ read-escape b _ (All-head (λ n. n < 256) b bs small)
    ∙ ap (λ t. b ∷ t) (read-escapes bs rest (All-tail (λ n. n < 256) b bs small))

read-kept : (b : ℕ) (rest : List ℕ) → (b ≡ 0x5c → ⊥) → unescaped (b ∷ rest) ≡ b ∷ unescaped rest
read-kept b rest other = rw (ne_eqb b 0x5c other) refl

kept_is : (b : ℕ) (s : List ℕ) → escape_len Name (b ∷ s) ≡ 0 → b ≡ 0x5c → ⊥
unfolding escape_len
kept_is b s none slash = let is : b == 0x5c ≡ true = rw slash refl in absurd (let h = rw is at none in omega (arith, h))

-- the first n bytes, and what is read of the others
parted : (s rest : List ℕ) (n : ℕ) → take n s ++ (drop n s ++ unescaped rest) ≡ s ++ unescaped rest
parted s rest n = sym (append_assoc (take n s) (drop n s) (unescaped rest)) ∙ ap (λ t. t ++ unescaped rest) (take-append-drop n s)

slash_is : (b : ℕ) → b == 0x5c ≡ true → b ≡ 0x5c
slash_is b is = grind (arith, nat_tests)

-- what is read of the first character, which is escaped
read-first : (s rest : List ℕ) → AreBytes s → 0 < escape_len Name s → unescaped (escape_of Name s ++ rest) ≡ take (escape_len Name s) s ++ unescaped rest
unfolding escape_len
read-first [] rest small some = let none = escape_within Name [] in absurd (omega (arith, none, some))
read-first (b ∷ s) rest small some =
    let n = hidden_len (b ∷ s) in
    let hidden = flat_map escape_text (take n (b ∷ s)) in
    elim (b == 0x5c) as (λ t. b == 0x5c ≡ t → unescaped (cond t (0x5c ∷ b ∷ []) hidden ++ rest) ≡ take (cond t 1 n) (b ∷ s) ++ unescaped rest) [
      | true ↦ λ is. let slash = slash_is b is in rw slash refl
      | false ↦ λ is. read-escapes (take n (b ∷ s)) rest (All-take (λ k. k < 256) n (b ∷ s) small)
    ] refl

read-within : (k : ℕ) (s rest : List ℕ) → length s ≤ k → AreBytes s → unescaped (written Name s ++ rest) ≡ s ++ unescaped rest
read-within k [] rest enough small = ap (λ t. unescaped (t ++ rest)) (written-nil Name)
read-within zero (b ∷ s) rest enough small = absurd (omega (arith, enough))
read-within (suc k) (b ∷ s) rest enough small = ⊎_elim
    (λ none.
    ap (λ t. unescaped (t ++ rest)) (written-kept Name b s none)
    ∙ read-kept b (written Name s ++ rest) (kept_is b s none)
    ∙ ap (λ t. b ∷ t) (read-within k s rest (omega (arith, enough)) (All-tail (λ n. n < 256) b s small)))
    (λ some.
    let n = escape_len Name (b ∷ s) in
    let left : length (drop n (b ∷ s)) ≤ k = omega (arith, length-drop n (b ∷ s), enough, some) in
    ap (λ t. unescaped (t ++ rest)) (written-escaped Name (b ∷ s) some)
    ∙ ap unescaped (append_assoc (escape_of Name (b ∷ s)) (written Name (drop n (b ∷ s))) rest)
    ∙ read-first (b ∷ s) _ small some
    ∙ ap (λ t. take n (b ∷ s) ++ t) (read-within k (drop n (b ∷ s)) rest left (All-drop (λ n. n < 256) n (b ∷ s) small))
    ∙ parted (b ∷ s) rest n)
    (zero_or_more (escape_len Name (b ∷ s)))

pub read-text : (s rest : List ℕ) → AreBytes s → unescaped (escaped_text s ++ rest) ≡ s ++ unescaped rest
read-text s rest small = read-within (length s) s rest (omega arith) small

pub read-name : (s : List ℕ) → AreBytes s → unescaped (escaped_text s) ≡ s
read-name s small = ap unescaped (sym (append-nil (escaped_text s))) ∙ read-text s [] small ∙ append-nil s

read-cut : (k : ℕ) (bs rest : List ℕ) → AreBytes bs → unescaped (escaped_bytes_within k bs ++ rest) ≡ bs ++ unescaped rest
read-cut zero bs rest small = read-text bs rest small
read-cut (suc k) bs rest small =
    let n = utf8_valid_len bs in
    let m = utf8_invalid_len (drop n bs) in
    let text = escaped_text (take n bs) in
    let bytes = flat_map escape_text (take m (drop n bs)) in
    let others = escaped_bytes_within k (after_first_chunk bs) in
    let following = All-drop (λ b. b < 256) n bs small in
    elim (n == length bs) as (λ t. unescaped (cond t (escaped_text bs) (text ++ (bytes ++ others)) ++ rest) ≡ bs ++ unescaped rest) [
      | true ↦ read-text bs rest small
      | false ↦ ap unescaped (append_assoc text (bytes ++ others) rest ∙ ap (λ t. text ++ t) (append_assoc bytes others rest))
          ∙ read-text (take n bs) (bytes ++ (others ++ rest)) (All-take (λ b. b < 256) n bs small)
          ∙ ap (λ t. take n bs ++ t) (read-escapes (take m (drop n bs)) (others ++ rest) (All-take (λ b. b < 256) m (drop n bs) following))
          ∙ ap (λ t. take n bs ++ (take m (drop n bs) ++ t)) (read-cut k (after_first_chunk bs) rest (All-drop (λ b. b < 256) (n + m) bs small))
          ∙ ap (λ t. take n bs ++ (take m (drop n bs) ++ (t ++ unescaped rest))) (sym (drop-drop m n bs))
          ∙ ap (λ t. take n bs ++ t) (parted (drop n bs) rest m)
          ∙ parted bs rest n
    ]

pub read-bytes : (bs : List ℕ) → AreBytes bs → unescaped (escaped_bytes bs) ≡ bs
unfolding escaped_bytes
read-bytes bs small = ap unescaped (sym (append-nil (escaped_bytes bs))) ∙ read-cut (length bs) bs [] small ∙ append-nil bs
