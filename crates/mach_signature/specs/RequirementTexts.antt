-- The texts of conditions and expressions, as `csreq` prints them (Security, `reqdumper.cpp`). A text is always between quotation
-- marks, and a value that has to be there is followed by `exists`, which `csreq` prints in a comment.
use Rattle.std.specs.Prelude.{ℕ, ◌+◌, ◌-◌, ◌^◌, List, [], ◌∷◌, ◌++◌, codes, Bool, true, false, not, nat_le, nat_lt, ◌==◌, ◌&&◌, ◌||◌, if◌then◌else◌}
use Rattle.std.specs.Prelude.{◌≡◌, Option, Some, None, Result, Ok, Err, length, take, drop, flat_map, is_ok}
use Rattle.std.specs.Str.{bytes_eq}
use Rattle.std.specs.Fmt.{decimal, digits, format_spec, padded_integral, HasWritten, IsPlainFormatter}
use Rattle.std.specs.List.{list_all}
use Rattle.std.specs.declared.fmt.Formatter.{Formatter}
use Rattle.mach_base.specs.Fault.{Fault}
use Rattle.mach_signature.specs.Requirements.{Expression, MatchView, TermView, absent, certificate_hash, code_hash, compared, exists, field, identifier}
use Rattle.mach_signature.specs.Requirements.{joined, negation, term, simple_expression, trusted_certificate, words}
use Rattle.mach_signature.specs.declared.requirements.text.Quotes.{Quotes}
use Rattle.mach_signature.specs.declared.requirements.text.Quotes.TheVariants.{Plain, Escaped}
use Rattle.mach_signature.specs.declared.requirements.term.Holder.{Holder}
use Rattle.mach_signature.specs.declared.requirements.term.Holder.TheVariants.{Info, Entitlements, Certificate}
use Rattle.mach_signature.specs.declared.requirements.term.KeyKind.{KeyKind}
use Rattle.mach_signature.specs.declared.requirements.term.Operator.{Operator}
use Rattle.mach_signature.specs.declared.requirements.term.Operator.TheVariants.{And, Or}
use Rattle.mach_signature.specs.declared.requirements.term.KeyKind.TheVariants.{Name, Extension, Policy}

-- ---- values

-- the two digits of a byte
abbrev pub two_digits : ℕ → List ℕ
two_digits n = padded_integral (format_spec 32 0 4 2 (2 ^ 64 - 1)) false [] (digits 16 false n)

-- bytes, two digits each
abbrev pub hexadecimal_text : List ℕ → List ℕ
hexadecimal_text bytes = flat_map two_digits bytes

-- a quotation mark, which a string of JSON escapes
abbrev pub quote : Quotes → List ℕ
quote Plain = codes "\""
quote Escaped = codes "\\\""

-- a byte that is shown between quotation marks: printable ASCII, but no quotation mark and no backslash
abbrev pub is_quotable : ℕ → Bool
is_quotable b = nat_le 0x20 b && nat_le b 0x7e && not (b == 0x22) && not (b == 0x5c)

abbrev pub plain_text : List ℕ → Option (List ℕ)
plain_text bytes = if list_all is_quotable bytes then Some bytes else None

-- a value: between quotation marks, or in hexadecimal digits
abbrev pub value_text_by : Quotes → List ℕ → Option (List ℕ) → List ℕ
value_text_by quotes bytes None = codes "0x" ++ hexadecimal_text bytes
value_text_by quotes bytes (Some text) = quote quotes ++ (text ++ quote quotes)

abbrev pub quoted_text : Quotes → List ℕ → List ℕ
quoted_text quotes bytes = value_text_by quotes bytes (plain_text bytes)

abbrev pub hash_text : Quotes → List ℕ → List ℕ
hash_text quotes hash = codes "H" ++ (quote quotes ++ (hexadecimal_text hash ++ quote quotes))

-- the number of a certificate, which has a sign: 0 is the leaf, -1 the root
abbrev pub slot_text : ℕ → List ℕ
slot_text slot =
    if slot == 0 then codes "leaf" else (if slot == 0xffffffff then codes "root"
    else (if nat_lt slot 0x80000000 then decimal slot else codes "-" ++ decimal (0xffffffff - slot + 1)))

-- ---- keys

abbrev pub is_digit : ℕ → Bool
is_digit b = nat_le 0x30 b && nat_le b 0x39

abbrev pub is_letter : ℕ → Bool
is_letter b = nat_le 0x41 b && nat_le b 0x5a || nat_le 0x61 b && nat_le b 0x7a

abbrev pub is_of_key : ℕ → Bool
is_of_key b = b == 0x2e || is_digit b || is_letter b

-- one or more letters, digits and dots
abbrev pub simple_key : List ℕ → Option (List ℕ)
simple_key bytes = if length bytes == 0 then None else (if list_all is_of_key bytes then plain_text bytes else None)

abbrev pub name_key_by : Quotes → List ℕ → Option (List ℕ) → List ℕ
name_key_by quotes bytes None = quoted_text quotes bytes
name_key_by quotes bytes (Some text) = text

-- the name of a field: alone if it is so, or as a value
abbrev pub name_key_text : Quotes → List ℕ → List ℕ
name_key_text quotes bytes = name_key_by quotes bytes (simple_key bytes)

-- a number of an object identifier below 128 is one byte (X.690, 8.19)
abbrev pub is_one_byte : ℕ → Bool
is_one_byte b = nat_lt b 128

-- the bytes of 1.2.840.113635.100, below which Apple's identifiers are
abbrev pub apple_arc : List ℕ
apple_arc = 0x2a ∷ 0x86 ∷ 0x48 ∷ 0x86 ∷ 0xf7 ∷ 0x63 ∷ 0x64 ∷ []

-- what follows these bytes, if each number there is a byte
abbrev pub below_apple : List ℕ → Option (List ℕ)
below_apple bytes =
    if nat_lt (length bytes) 7 then None
    else (if bytes_eq (take 7 bytes) apple_arc && list_all is_one_byte (drop 7 bytes) then Some (drop 7 bytes) else None)

abbrev pub dot_text : ℕ → List ℕ
dot_text n = codes "." ++ decimal n

abbrev pub dotted_text : List ℕ → List ℕ
dotted_text numbers = flat_map dot_text numbers

abbrev pub oid_text_by : List ℕ → Option (List ℕ) → List ℕ
oid_text_by bytes None = codes "0x" ++ hexadecimal_text bytes
oid_text_by bytes (Some numbers) = codes "1.2.840.113635.100" ++ dotted_text numbers

-- an object identifier: one of Apple's in numbers, another in hexadecimal digits
abbrev pub oid_text : List ℕ → List ℕ
oid_text bytes = oid_text_by bytes (below_apple bytes)

abbrev pub field_key_text : Quotes → KeyKind → List ℕ → List ℕ
field_key_text quotes Name bytes = name_key_text quotes bytes
field_key_text quotes Extension bytes = codes "field." ++ oid_text bytes
field_key_text quotes Policy bytes = codes "policy." ++ oid_text bytes

-- ---- conditions

abbrev pub field_holder_text : Holder → List ℕ
field_holder_text Info = codes "info"
field_holder_text Entitlements = codes "entitlement"
field_holder_text (Certificate slot) = codes "certificate " ++ slot_text slot

abbrev pub match_text : Quotes → MatchView → List ℕ
match_text quotes exists = codes " exists"
match_text quotes absent = codes " absent"
match_text quotes (compared before value after) = before ++ (quoted_text quotes value ++ after)

abbrev pub term_text : Quotes → TermView → List ℕ
term_text quotes (words ws) = ws
term_text quotes (identifier name) = codes "identifier " ++ quoted_text quotes name
term_text quotes (code_hash hash) = codes "cdhash " ++ hash_text quotes hash
term_text quotes (certificate_hash slot hash) = codes "certificate " ++ (slot_text slot ++ (codes " = " ++ hash_text quotes hash))
term_text quotes (trusted_certificate slot) = codes "certificate " ++ (slot_text slot ++ codes " trusted")
term_text quotes (field holder kind key matched) =
    field_holder_text holder ++ (codes "[" ++ (field_key_text quotes kind key ++ (codes "]" ++ match_text quotes matched)))

-- ---- expressions

abbrev pub operator_words : Operator → List ℕ
operator_words And = codes " and "
operator_words Or = codes " or "

-- Whether joined operands are between brackets, by the operator around them: `and` binds tighter than `or`, and `!`, which is no
-- operator, tighter than both.
abbrev pub needs_brackets : Option Operator → Operator → Bool
needs_brackets None operator = true
needs_brackets (Some And) And = false
needs_brackets (Some And) Or = true
needs_brackets (Some Or) operator = false

abbrev pub opening : Bool → List ℕ
opening b = if b then codes "(" else codes ""

abbrev pub closing : Bool → List ℕ
closing b = if b then codes ")" else codes ""

abbrev pub not_words : List ℕ
not_words = codes "! "

-- an expression in the operator around it
abbrev pub expression_text : Quotes → Option Operator → Expression → List ℕ
expression_text quotes around (term t) = term_text quotes t
expression_text quotes around (negation x) = not_words ++ expression_text quotes None x
expression_text quotes around (joined operator x y) =
    opening (needs_brackets around operator) ++ (expression_text quotes (Some operator) x ++ (operator_words operator
    ++ (expression_text quotes (Some operator) y ++ closing (needs_brackets around operator))))

-- The text of the expression at a place was written, if one is there, and this is the place after it.
abbrev pub WroteExpression : {W : Type 0} → (W → List ℕ → W → Type 0) → Quotes → Option Operator → Result (Expression × ℕ) Fault → (end : ℕ)
    → (old new : Formatter W) → Type 0
WroteExpression took quotes around (Ok x) end old new = (end ≡ x.1) × HasWritten took old (expression_text quotes around x.0) new
WroteExpression took quotes around (Err f) end old new = Unit {0}

-- the same of a condition
abbrev pub WroteTerm : {W : Type 0} → (W → List ℕ → W → Type 0) → Quotes → Result (TermView × ℕ) Fault → (end : ℕ) → (old new : Formatter W) → Type 0
WroteTerm took quotes (Ok t) end old new = (end ≡ t.1) × HasWritten took old (term_text quotes t.0) new
WroteTerm took quotes (Err f) end old new = Unit {0}

-- the same of a whole requirement
abbrev pub WroteSimple : {W : Type 0} → (W → List ℕ → W → Type 0) → Quotes → Result Expression Fault → (old new : Formatter W) → Type 0
WroteSimple took quotes (Ok x) old new = HasWritten took old (expression_text quotes (Some Or) x) new
WroteSimple took quotes (Err f) old new = Unit {0}

-- ---- a requirement

-- its text if it is simple, and else its bytes
abbrev pub requirement_text_by : Quotes → List ℕ → Result Expression Fault → List ℕ
requirement_text_by quotes bytes (Ok x) = expression_text quotes (Some Or) x
requirement_text_by quotes bytes (Err f) = codes "not simple: " ++ hexadecimal_text bytes

abbrev pub requirement_text : Quotes → List ℕ → List ℕ
requirement_text quotes bytes = requirement_text_by quotes bytes (simple_expression bytes)

-- the text of a requirement with quotation marks as they are
abbrev pub requirement_words : List ℕ → List ℕ
requirement_words bytes = requirement_text Plain bytes

-- a requirement is simple
abbrev pub is_simple : List ℕ → Bool
is_simple bytes = is_ok (simple_expression bytes)
