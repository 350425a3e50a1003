-- The line of a symbol is one line.
use Rattle.std.proofs.Common.{◌≡◌, ◌++◌, ◌∷◌, [], ℕ, zero, suc, ◌<◌, ◌≤◌, ◌-◌, Bor, Bool, cond, true}
use Rattle.std.proofs.Common.{false, List, Option, Some, None, Result, Ok, Err, map, refl, rules, arith, subst, sym}
use Rattle.std.proofs.lemmas.Bool.Decides.{nat_tests}
use Rattle.std.proofs.lemmas.List.Elements.{All-cons, All-head, All-nil, All-tail}
use Rattle.std.proofs.lemmas.List.Sums.{AllPass-from_list_all}
use Rattle.std.proofs.lemmas.Str.{encode_ascii}
use Rattle.std.specs.Prelude.{codes, slice_get, unwrap_or, not, ◌==◌, ◌&&◌, ◌^◌, if◌then◌else◌}
use Rattle.std.specs.Char.{encode_utf8, to_ascii_uppercase}
use Rattle.std.specs.Fmt.{char_count, format_spec, is_char_start, padded, padding_before, take_chars}
use Rattle.std.specs.List.{All, list_all, repeat}
use Rattle.mach_base.specs.Fault.{Fault}
use Rattle.mach_base.specs.Named.{Named, name_among}
use Rattle.mach_cli.specs.Escapes.{escaped_text, has_no_feed, IsOneLine, IsPrinted}
use Rattle.mach_cli.proofs.OneLine.{no_feeds, no_feed-append, no_feed-if, no_feed-printed, no_feed-repeat, no_feed-space, printed-ascii, line-end}
use Rattle.mach_parts.specs.Bindings.{Provider, of_library, itself, main_executable, flat, weak_lookup}
use Rattle.mach_parts.specs.Symbols.{is_stab}
use Rattle.mach_parts.specs.declared.segment.section.Section.{Section}
use Rattle.mach_parts.specs.declared.symbols.nlist.Nlist.{Nlist}
use Rattle.goblin_mach.specs.ImageFacts.{Facts}
use Rattle.machsyms.specs.Letters.{letter, letter_at, letter_of, named_sections, section_letter, symbol_letter, type_letter}
use Rattle.mach_cli.specs.NamesShown.{file_text}
use Rattle.machsyms.specs.Lines.{fields_text, form_text, kind_text, letter_text, line_text, padded_hex, right, stab_text, value_text}
use Rattle.machsyms.specs.Setting.{SymbolSetting, setting_of, symbol_described}
use Rattle.machsyms.specs.Stabs.{stab_name, stab_names}
use Rattle.machsyms.specs.SymbolWords.{alignment_text, provider_words, kind_words, mark_words}
use Rattle.machsyms.specs.SymbolWords.{origin_words, reach_words, section_text, undefined_words}
use Rattle.machsyms.specs.declared.selection.Request.{Request}
use Rattle.machsyms.specs.declared.selection.Form.{Form}
use Rattle.machsyms.specs.declared.selection.Form.TheVariants.{Letters, Names, Hexadecimal, Words}

-- ---- letters

-- an ASCII character that is no control character
abbrev IsLetter : ℕ → Type 0
IsLetter c = (0x20 ≤ c) × (c < 0x7f)

no_feed-letter : (c : ℕ) → IsLetter c → has_no_feed (encode_utf8 c) ≡ true
no_feed-letter c l =
    rw (encode_ascii c (omega (arith, l.1))) (no_feed-printed (c ∷ []) (All-cons IsPrinted c [] (printed-ascii c l.0 l.1) (All-nil IsPrinted)))

letter-if : (b : Bool) (x y : ℕ) → IsLetter x → IsLetter y → IsLetter (cond b x y)
letter-if true x y h k = h
letter-if false x y h k = k

letter-upper : (c : ℕ) → IsLetter c → IsLetter (to_ascii_uppercase c)
letter-upper c l = (grind (arith, nat_tests, l.0, l.1), grind (arith, nat_tests, l.0, l.1))

letter-s : IsLetter (letter (codes "s"))
letter-s = (omega arith, omega arith)

letter-t : IsLetter (letter (codes "t"))
letter-t = (omega arith, omega arith)

letter-d : IsLetter (letter (codes "d"))
letter-d = (omega arith, omega arith)

letter-b : IsLetter (letter (codes "b"))
letter-b = (omega arith, omega arith)

letter-u : IsLetter (letter (codes "u"))
letter-u = (omega arith, omega arith)

letter-c : IsLetter (letter (codes "c"))
letter-c = (omega arith, omega arith)

letter-a : IsLetter (letter (codes "a"))
letter-a = (omega arith, omega arith)

letter-i : IsLetter (letter (codes "i"))
letter-i = (omega arith, omega arith)

letter-unknown : IsLetter (letter (codes "?"))
letter-unknown = (omega arith, omega arith)

letter-section : (s : Section) → IsLetter (section_letter s)
letter-section s = letter-if _ _ _ letter-t (letter-if _ _ _ letter-d (letter-if _ _ _ letter-b letter-s))

letter-of : (s : Option Section) → IsLetter (letter_of s)
letter-of None = letter-s
letter-of (Some s) = letter-section s

letter-among : (xs : List (Option Section)) (i : ℕ) → IsLetter (unwrap_or (slice_get (map letter_of xs) i) (letter (codes "s")))
letter-among [] i = letter-s
letter-among (x ∷ xs) zero = letter-of x
letter-among (x ∷ xs) (suc i) = letter-among xs i

letter-at : (xs : List (Option Section)) (n : ℕ) → IsLetter (letter_at (map letter_of xs) n)
letter-at xs zero = letter-s
letter-at xs (suc i) = letter-among xs i

letter-type : (xs : List (Option Section)) (s : Nlist) → IsLetter (type_letter (map letter_of xs) s)
letter-type xs s =
    letter-if _ _ _ (letter-if _ _ _ letter-unknown (letter-if _ _ _ letter-u letter-c))
    (letter-if _ _ _ letter-a (letter-if _ _ _ letter-i (letter-if _ _ _ (letter-at xs s.n_sect) letter-unknown)))

no_feed-symbol_letter : (xs : List (Option Section)) (s : Nlist) → has_no_feed (encode_utf8 (symbol_letter (map letter_of xs) s)) ≡ true
no_feed-symbol_letter xs s =
    no_feed-letter (symbol_letter (map letter_of xs) s)
    (letter-if _ _ _ (letter-type xs s) (letter-upper (type_letter (map letter_of xs) s) (letter-type xs s)))

-- ---- debugging entries

no_feed-cons : (b : ℕ) (text : List ℕ) → has_no_feed (b ∷ text) ≡ true → (has_no_feed (b ∷ []) ≡ true) × (has_no_feed text ≡ true)
no_feed-cons b text h = elim (b == 0x0a) as (λ (t : Bool). (not t && list_all (λ c. not (c == 0x0a)) text) ≡ true
    → ((not t && true) ≡ true) × (list_all (λ c. not (c == 0x0a)) text ≡ true)) [ true ↦ λ e. cc | false ↦ λ e. (refl, e) ] h

-- the first characters of a text have no line feed
no_feed-take_chars : (n : ℕ) (text : List ℕ) → has_no_feed text ≡ true → has_no_feed (take_chars n text) ≡ true
unfolding take_chars
no_feed-take_chars n [] h = refl
no_feed-take_chars n (b ∷ text) h =
    let first = (no_feed-cons b text h).0 in
    let rest = (no_feed-cons b text h).1 in
    no_feed-if (is_char_start b) (if n == 0 then [] else b ∷ take_chars (n - 1) text) (b ∷ take_chars n text)
    (no_feed-if (n == 0) [] (b ∷ take_chars (n - 1) text) refl (no_feed-append (b ∷ []) (take_chars (n - 1) text) first (no_feed-take_chars (n - 1) text rest)))
    (no_feed-append (b ∷ []) (take_chars n text) first (no_feed-take_chars n text rest))

-- a text with leading blanks has no line feed
no_feed-right : (width : ℕ) (text : List ℕ) → has_no_feed text ≡ true → has_no_feed (right width text) ≡ true
unfolding padded
no_feed-right width text h =
    let shown = take_chars (2 ^ 64 - 1) text in
    let padding = width - char_count shown in
    let before = padding_before (format_spec 32 3 0 width (2 ^ 64 - 1)) padding 1 in
    let front = repeat before (encode_utf8 32) in
    let back = repeat (padding - before) (encode_utf8 32) in
    no_feed-append front (shown ++ back) (no_feed-repeat before (encode_utf8 32) no_feed-space)
    (no_feed-append shown back (no_feed-take_chars (2 ^ 64 - 1) text h) (no_feed-repeat (padding - before) (encode_utf8 32) no_feed-space))

no_feed-among : (names : List Named) (n : ℕ) → All (λ x. has_no_feed x.name ≡ true) names → has_no_feed (stab_text n (name_among names n)) ≡ true
no_feed-among [] n all = search (no_feeds, rules)
no_feed-among (x ∷ xs) n all = elim (n == x.number) as (λ (b : Bool). has_no_feed (stab_text n (if b then Some x.name else name_among xs n)) ≡ true) [
  | true ↦ no_feed-right 5 x.name (All-head (λ (x : Named). has_no_feed x.name ≡ true) x xs all)
  | false ↦ no_feed-among xs n (All-tail (λ (x : Named). has_no_feed x.name ≡ true) x xs all)
]

no_feed-stab : (n : ℕ) → has_no_feed (stab_text n (stab_name n)) ≡ true
no_feed-stab n = no_feed-among stab_names n (AllPass-from_list_all (λ (x : Named). has_no_feed x.name) stab_names refl)

no_feed-hex_padded : (width n : ℕ) → has_no_feed (padded_hex width n) ≡ true
no_feed-hex_padded width n = search (no_feeds, rules)

no_feed-debugged : (s : Nlist)
    → has_no_feed (codes "- " ++ padded_hex 2 s.n_sect ++ codes " " ++ padded_hex 4 s.n_desc ++ codes " " ++ stab_text s.n_type (stab_name s.n_type)) ≡ true
no_feed-debugged s =
    let one = no_feed-append (codes "- ") (padded_hex 2 s.n_sect) refl (no_feed-hex_padded 2 s.n_sect) in
    let two = no_feed-append (codes "- " ++ padded_hex 2 s.n_sect) (codes " ") one refl in
    let three = no_feed-append (codes "- " ++ padded_hex 2 s.n_sect ++ codes " ") (padded_hex 4 s.n_desc) two (no_feed-hex_padded 4 s.n_desc) in
    let four = no_feed-append (codes "- " ++ padded_hex 2 s.n_sect ++ codes " " ++ padded_hex 4 s.n_desc) (codes " ") three refl in
    no_feed-append (codes "- " ++ padded_hex 2 s.n_sect ++ codes " " ++ padded_hex 4 s.n_desc ++ codes " ") (stab_text s.n_type (stab_name s.n_type)) four
    (no_feed-stab s.n_type)

no_feed-fields : (s : Nlist) → has_no_feed (fields_text s) ≡ true
no_feed-fields s =
    let one = no_feed-append (padded_hex 2 s.n_type) (codes " ") (no_feed-hex_padded 2 s.n_type) refl in
    let two = no_feed-append (padded_hex 2 s.n_type ++ codes " ") (padded_hex 2 s.n_sect) one (no_feed-hex_padded 2 s.n_sect) in
    let three = no_feed-append (padded_hex 2 s.n_type ++ codes " " ++ padded_hex 2 s.n_sect) (codes " ") two refl in
    let front = padded_hex 2 s.n_type ++ codes " " ++ padded_hex 2 s.n_sect ++ codes " " in
    let four = no_feed-append front (padded_hex 4 s.n_desc) three (no_feed-hex_padded 4 s.n_desc) in
    let five = no_feed-append (front ++ padded_hex 4 s.n_desc) (codes " ") four refl in
    no_feed-append (front ++ padded_hex 4 s.n_desc ++ codes " ") (padded_hex 8 s.n_strx) five (no_feed-hex_padded 8 s.n_strx)

no_feed-kind : (xs : List (Option Section)) (s : Nlist) → has_no_feed (kind_text (map letter_of xs) s) ≡ true
no_feed-kind xs s =
    no_feed-if (is_stab s) _ _ (no_feed-debugged s) (no_feed-symbol_letter xs s)

-- ---- words

no_feed-value : (is_64 : Bool) (value : Option ℕ) → has_no_feed (value_text is_64 value) ≡ true
no_feed-value true (Some value) = search (no_feeds, rules)
no_feed-value false (Some value) = search (no_feeds, rules)
no_feed-value true None = refl
no_feed-value false None = refl

no_feed-section : (s : Option Section) → has_no_feed (section_text false s) ≡ true
no_feed-section None = refl
no_feed-section (Some s) = search (no_feeds, rules)

no_feed-undefined : (desc : ℕ) → has_no_feed (undefined_words desc) ≡ true
no_feed-undefined desc = search (no_feeds, rules)

no_feed-alignment : (n : ℕ) → has_no_feed (alignment_text n) ≡ true
no_feed-alignment n = search (no_feeds, rules)

no_feed-kinds : (section : Option Section) (s : Nlist) → has_no_feed (kind_words false section s) ≡ true
no_feed-kinds section s = search (no_feeds, no_feed-undefined, no_feed-alignment, no_feed-section, rules)

no_feed-reach : (s : Nlist) → has_no_feed (reach_words s) ≡ true
no_feed-reach s = search (no_feeds, rules)

no_feed-marks : (filetype : ℕ) (s : Nlist) → has_no_feed (mark_words filetype s) ≡ true
no_feed-marks filetype s = search (no_feeds, rules)

no_feed-giver : (desc : ℕ) (p : Result Provider Fault) → has_no_feed (provider_words false desc p) ≡ true
no_feed-giver desc (Ok (of_library ordinal path)) = search (no_feeds, rules)
no_feed-giver desc (Ok itself) = refl
no_feed-giver desc (Ok main_executable) = refl
no_feed-giver desc (Ok flat) = refl
no_feed-giver desc (Ok weak_lookup) = refl
no_feed-giver desc (Err f) = search (no_feeds, rules)

no_feed-origin : (desc : ℕ) (p : Option (Result Provider Fault)) → has_no_feed (origin_words false desc p) ≡ true
no_feed-origin desc None = refl
no_feed-origin desc (Some p) = no_feed-giver desc p

no_feed-words : (w : SymbolSetting) (name : List ℕ) (s : Nlist) → has_no_feed (symbol_described false w name s) ≡ true
no_feed-words w name s = search (no_feeds, no_feed-kinds, no_feed-reach, no_feed-marks, no_feed-origin, rules)

-- ---- lines

no_feed-lettered : (xs : List (Option Section)) (is_64 : Bool) (name : List ℕ) (s : Nlist)
    → has_no_feed (letter_text is_64 (map letter_of xs) (escaped_text name) s) ≡ true
no_feed-lettered xs is_64 name s = search (no_feeds, no_feed-value, no_feed-kind, rules)

no_feed-form : (form : Form) (is_64 : Bool) (f : Facts) (name : List ℕ) (s : Nlist) → has_no_feed (form_text form false (setting_of is_64 f) name s) ≡ true
no_feed-form Letters is_64 f name s = no_feed-lettered (named_sections f.segments) is_64 name s
no_feed-form Words is_64 f name s =
    no_feed-if (is_stab s) _ _ (no_feed-lettered (named_sections f.segments) is_64 name s) (search (no_feeds, no_feed-value, no_feed-words, rules))
no_feed-form Names is_64 f name s = search (no_feeds, rules)
no_feed-form Hexadecimal is_64 f name s = search (no_feeds, no_feed-value, no_feed-fields, rules)

no_feed-file : (file : Option (Bor (List ℕ))) → has_no_feed (file_text false file) ≡ true
no_feed-file None = refl
no_feed-file (Some file) = search (no_feeds, rules)

pub symbol_is_one_line : (a : Request) (is_64 : Bool) (f : Facts) (name : List ℕ) (s : Nlist) → a.is_raw ≡ false
    → IsOneLine (line_text a (setting_of is_64 f) (name, s) ++ codes "\n")
symbol_is_one_line a is_64 f name s plain =
    let text : Bool → List ℕ = λ is_raw. file_text is_raw a.file ++ form_text a.form is_raw (setting_of is_64 f) name s in
    subst (λ (is_raw : Bool). IsOneLine (text is_raw ++ codes "\n")) (sym plain)
    (line-end (text false) (no_feed-append (file_text false a.file) (form_text a.form false (setting_of is_64 f) name s) (no_feed-file a.file)
    (no_feed-form a.form is_64 f name s)))
