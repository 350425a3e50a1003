-- The line of any fields is one line, with or without the names of those that have no column.
use Rattle.std.proofs.Common.{◌≡◌, ◌==◌, ◌&&◌, ◌++◌, ◌-◌, ◌^◌, [], ◌∷◌, ℕ, List, Bool, true, false, length, Option, Some, None, arith, refl, rules}
use Rattle.std.specs.Fmt.{char_count, decimal, digits, padded, take_chars}
use Rattle.std.specs.List.{flat_map, repeat}
use Rattle.std.specs.Prelude.{codes}
use Rattle.std.proofs.Math.Utf8.{encode}
use Rattle.mach_parts.specs.PointerSigning.{Auth}
use Rattle.mach_cli.proofs.OneLine.{line-end, no_feed-append, no_feed-decimal, no_feed-escaped, no_feed-flat_map, no_feed-if, no_feed-padded}
use Rattle.mach_cli.proofs.OneLine.{no_feed-bytes, no_feed-escaped_bytes, no_feed-printed, no_feed-repeat, no_feed-signed_decimal, no_feed-space}
use Rattle.mach_cli.proofs.OneLine.{no_feeds, printed-digits}
use Rattle.mach_cli.specs.Escapes.{escaped_text, has_no_feed, IsOneLine}
use Rattle.mach_cli.specs.Fields.{FieldView, ValueView, number, signed, hex, named, text, optional_text, version, source_version, uuid, flag, flags, auth_text}
use Rattle.mach_cli.specs.Fields.{column_text, column_field, flags_text, fields_line, fields_pairs, pair_field, spaces, value_in_line, value_in_width, word_if}
use Rattle.mach_cli.specs.Fields.{held_bytes, held_digits}
use Rattle.mach_records.specs.Values.{source_version_text, upper_byte, upper_bytes, uuid_text, version_text}

no_feed-auth : (a : Auth) → has_no_feed (auth_text a) ≡ true
no_feed-auth a = search (no_feeds, rules)

no_feed-flags : (is_weak is_lazy : Bool) (auth : Option Auth) → has_no_feed (flags_text is_weak is_lazy auth) ≡ true
no_feed-flags false false None = refl
no_feed-flags true false None = refl
no_feed-flags false true None = refl
no_feed-flags true true None = refl
no_feed-flags false false (Some a) = no_feed-auth a
no_feed-flags true false (Some a) = search (no_feeds, no_feed-auth, rules)
no_feed-flags false true (Some a) = search (no_feeds, no_feed-auth, rules)
no_feed-flags true true (Some a) = search (no_feeds, no_feed-auth, rules)

no_feed-version : (n : ℕ) → has_no_feed (version_text n) ≡ true
no_feed-version n = search (no_feeds, rules)

no_feed-source_version : (n : ℕ) → has_no_feed (source_version_text n) ≡ true
no_feed-source_version n = search (no_feeds, rules)

pub no_feed-upper_byte : (n : ℕ) → has_no_feed (upper_byte n) ≡ true
no_feed-upper_byte n =
    no_feed-padded 0 4 2 (2 ^ 64 - 1) false [] (digits 16 true n) refl
    (no_feed-printed (digits 16 true n) (printed-digits 16 true n (omega arith) (omega arith)))

no_feed-upper : (bytes : List ℕ) → has_no_feed (upper_bytes bytes) ≡ true
no_feed-upper bytes = no_feed-flat_map upper_byte bytes no_feed-upper_byte

pub no_feed-uuid : (bytes : List ℕ) → has_no_feed (uuid_text bytes) ≡ true
no_feed-uuid bytes = search (no_feeds, no_feed-upper, rules)

no_feed-value : (v : ValueView) → has_no_feed (value_in_line v) ≡ true
no_feed-value (number n) = no_feed-decimal n
no_feed-value (signed z) = no_feed-signed_decimal z
no_feed-value (hex n) = search (no_feeds, rules)
no_feed-value (named n name) = no_feed-if (length name == 0) (decimal n) (escaped_text name) (no_feed-decimal n) (no_feed-escaped name)
no_feed-value (text t) = no_feed-escaped t
no_feed-value (optional_text None) = refl
no_feed-value (optional_text (Some t)) = no_feed-escaped t
no_feed-value (version n) = no_feed-version n
no_feed-value (source_version n) = no_feed-source_version n
no_feed-value (uuid u) = no_feed-uuid u
no_feed-value (held_bytes bytes) = no_feed-escaped_bytes bytes
no_feed-value (held_digits bytes) = no_feed-bytes bytes
no_feed-value (flag is_so word other) = no_feed-escaped (word_if is_so word other)
no_feed-value (flags is_weak is_lazy auth) = no_feed-flags is_weak is_lazy auth

no_feed-spaces : (n : ℕ) → has_no_feed (spaces n) ≡ true
unfolding padded take_chars char_count
no_feed-spaces n =
    no_feed-if (n == 0 && true) [] (repeat (n - 0 - 0) (encode 32)) refl (no_feed-repeat (n - 0 - 0) (encode 32) no_feed-space)

no_feed-wide : (width : ℕ) (v : ValueView) → has_no_feed (value_in_width width v) ≡ true
no_feed-wide width (number n) = search (no_feeds, rules)
no_feed-wide width (signed z) = no_feed-signed_decimal z
no_feed-wide width (hex n) = search (no_feeds, rules)
no_feed-wide width (named n name) = no_feed-value (named n name)
no_feed-wide width (text t) = search (no_feeds, no_feed-spaces, rules)
no_feed-wide width (optional_text t) = no_feed-value (optional_text t)
no_feed-wide width (version n) = no_feed-version n
no_feed-wide width (source_version n) = no_feed-source_version n
no_feed-wide width (uuid u) = no_feed-uuid u
no_feed-wide width (held_bytes bytes) = no_feed-escaped_bytes bytes
no_feed-wide width (held_digits bytes) = search (no_feeds, no_feed-bytes, no_feed-spaces, rules)
no_feed-wide width (flag is_so word other) = no_feed-escaped (word_if is_so word other)
no_feed-wide width (flags is_weak is_lazy auth) = no_feed-flags is_weak is_lazy auth

no_feed-field : (column : ℕ) (f : FieldView) → has_no_feed (column_field column f) ≡ true
no_feed-field column f = search (no_feeds, no_feed-wide, rules)

no_feed-column : (fields : List FieldView) (column : ℕ) → has_no_feed (column_text fields column) ≡ true
no_feed-column fields column = no_feed-flat_map (column_field column) fields (no_feed-field column)

pub no_feed-line : (fields : List FieldView) → has_no_feed (fields_line fields) ≡ true
no_feed-line fields = no_feed-flat_map (column_text fields) (1 ∷ 2 ∷ 3 ∷ 4 ∷ 5 ∷ 6 ∷ 7 ∷ 8 ∷ 9 ∷ []) (no_feed-column fields)

pub fields_are_one_line : (fields : List FieldView) → IsOneLine (fields_line fields ++ codes "\n")
fields_are_one_line fields = line-end (fields_line fields) (no_feed-line fields)

no_feed-pair : (f : FieldView) → has_no_feed (pair_field f) ≡ true
no_feed-pair f = search (no_feeds, no_feed-value, rules)

pub no_feed-pairs : (fields : List FieldView) → has_no_feed (fields_pairs fields) ≡ true
no_feed-pairs fields =
    no_feed-append (fields_line fields) (flat_map pair_field fields) (no_feed-line fields) (no_feed-flat_map pair_field fields no_feed-pair)

pub pairs_are_one_line : (fields : List FieldView) → IsOneLine (fields_pairs fields ++ codes "\n")
pairs_are_one_line fields = line-end (fields_pairs fields) (no_feed-pairs fields)
