-- Requirements: conditions on code, as expressions (Security, `requirement.h` and `reqdumper.cpp`). A word is a number of 4 bytes, big-endian.
use Rattle.std.specs.Prelude.{◌≡◌, ℕ, zero, suc, ◌+◌, ◌*◌, ◌/◌, List, length, take, drop, codes, nat_le, ◌==◌, ◌||◌, ◌&&◌, Bool, if◌then◌else◌, Result, Ok, Err}
use Rattle.mach_base.specs.Answer.{◌>>=◌}
use Rattle.mach_base.specs.Fault.{Fault, malformed}
use Rattle.mach_base.specs.Number.{number_at}
use Rattle.mach_base.specs.declared.context.Endian.TheVariants.{Big}
use Rattle.mach_signature.specs.declared.requirements.term.Holder.{Holder}
use Rattle.mach_signature.specs.declared.requirements.term.Holder.TheVariants.{Info, Entitlements, Certificate}
use Rattle.mach_signature.specs.declared.requirements.term.KeyKind.{KeyKind}
use Rattle.mach_signature.specs.declared.requirements.term.KeyKind.TheVariants.{Name, Extension, Policy}
use Rattle.mach_signature.specs.declared.requirements.term.Operator.{Operator}
use Rattle.mach_signature.specs.declared.requirements.term.Operator.TheVariants.{And, Or}

-- ---- words and data

abbrev pub word_at : List ℕ → ℕ → Result ℕ Fault
word_at bytes place = number_at Big 4 bytes place

-- n bytes at a place, if they lie in the bytes
abbrev pub part_at : List ℕ → (place n : ℕ) → Result (List ℕ) Fault
part_at bytes place n = if nat_le (place + n) (length bytes) then Ok (take n (drop place bytes)) else Err malformed

-- the least multiple of 4 that isn't below a number
abbrev pub padded : ℕ → ℕ
padded n = (n + 3) / 4 * 4

-- data: the word of its length, its bytes, and others up to a multiple of 4; and the place after it
unfoldable pub data_at : List ℕ → ℕ → Result (List ℕ × ℕ) Fault
data_at bytes place = do
  n ← word_at bytes place
  part ← part_at bytes (place + 4) (padded n)
  Ok (take n part, place + 4 + padded n)

-- ---- terms

-- what is required of a value: that it is there, that it isn't, or how it compares; the words are those before and after the other value
pub data MatchView : Type 0 where
  exists : MatchView
  absent : MatchView
  compared : (before value after : List ℕ) → MatchView

-- one condition
pub data TermView : Type 0 where
  words : List ℕ → TermView
  identifier : List ℕ → TermView
  code_hash : List ℕ → TermView
  certificate_hash : (slot : ℕ) → (hash : List ℕ) → TermView
  trusted_certificate : (slot : ℕ) → TermView
  field : Holder → KeyKind → (key : List ℕ) → MatchView → TermView

-- the words before and after the value of a comparison (`matchEqual` to `matchGreaterEqual`)
abbrev pub comparison_words : ℕ → Result (List ℕ × List ℕ) Fault
comparison_words code =
    if code == 1 then Ok (codes " = ", codes "") else (if code == 2 then Ok (codes " ~ ", codes "") else (if code == 3 then Ok (codes " = ", codes "*")
    else (if code == 4 then Ok (codes " = *", codes "") else (if code == 5 then Ok (codes " < ", codes "") else (if code == 6 then Ok (codes " > ", codes "")
    else (if code == 7 then Ok (codes " <= ", codes "") else (if code == 8 then Ok (codes " >= ", codes "") else Err malformed)))))))

-- a comparison: its words, and the value
abbrev pub compared_by : List ℕ → (code place : ℕ) → Result (MatchView × ℕ) Fault
compared_by bytes code place =
    comparison_words code >>= (λ ws. data_at bytes place >>= (λ value. Ok (compared ws.0 value.0 ws.1, value.1)))

-- `matchExists` is 0, `matchAbsent` 14
abbrev pub match_by : List ℕ → (code place : ℕ) → Result (MatchView × ℕ) Fault
match_by bytes code place =
    if code == 0 then Ok (exists, place) else (if code == 14 then Ok (absent, place) else compared_by bytes code place)

unfoldable pub match_at : List ℕ → ℕ → Result (MatchView × ℕ) Fault
match_at bytes place = word_at bytes place >>= (λ code. match_by bytes code (place + 4))

-- a field: its key, and what is required of its value
unfoldable pub field_at : List ℕ → Holder → KeyKind → ℕ → Result (TermView × ℕ) Fault
field_at bytes holder kind place = do
  key ← data_at bytes place
  matched ← match_at bytes key.1
  Ok (field holder kind key.0 matched.0, matched.1)

-- a field of a certificate of the chain, whose number comes first
unfoldable pub certificate_field_at : List ℕ → KeyKind → ℕ → Result (TermView × ℕ) Fault
certificate_field_at bytes kind place = word_at bytes place >>= (λ slot. field_at bytes (Certificate slot) kind (place + 4))

unfoldable pub certificate_hash_at : List ℕ → ℕ → Result (TermView × ℕ) Fault
certificate_hash_at bytes place = do
  slot ← word_at bytes place
  hash ← data_at bytes (place + 4)
  Ok (certificate_hash slot hash.0, hash.1)

-- the conditions without operands (`opFalse`, `opTrue`, `opAppleAnchor`, `opTrustedCerts`, `opAppleGenericAnchor`, `opNotarized`,
-- `opLegacyDevID`)
abbrev pub condition_words : ℕ → Result (List ℕ) Fault
condition_words code =
    if code == 0 then Ok (codes "never") else (if code == 1 then Ok (codes "always") else (if code == 3 then Ok (codes "anchor apple")
    else (if code == 13 then Ok (codes "anchor trusted") else (if code == 15 then Ok (codes "anchor apple generic")
    else (if code == 21 then Ok (codes "notarized") else (if code == 23 then Ok (codes "legacy") else Err malformed))))))

-- a condition that has one text, one number or nothing, by its operation (`opIdent`, `opCDHash`, `opTrustedCert`)
unfoldable pub small_term_by : List ℕ → (code place : ℕ) → Result (TermView × ℕ) Fault
small_term_by bytes code place =
    if code == 2 then data_at bytes place >>= (λ name. Ok (identifier name.0, name.1))
    else (if code == 8 then data_at bytes place >>= (λ hash. Ok (code_hash hash.0, hash.1))
    else (if code == 12 then word_at bytes place >>= (λ slot. Ok (trusted_certificate slot, place + 4))
    else condition_words code >>= (λ ws. Ok (words ws, place))))

-- a condition, by its operation (`opAnchorHash`, `opInfoKeyField`, `opCertField`, `opCertGeneric`, `opEntitlementField`,
-- `opCertPolicy`, and those above)
unfoldable pub term_by : List ℕ → (code place : ℕ) → Result (TermView × ℕ) Fault
term_by bytes code place =
    if code == 4 then certificate_hash_at bytes place
    else (if code == 10 then field_at bytes Info Name place
    else (if code == 11 then certificate_field_at bytes Name place
    else (if code == 14 then certificate_field_at bytes Extension place
    else (if code == 16 then field_at bytes Entitlements Name place
    else (if code == 17 then certificate_field_at bytes Policy place
    else small_term_by bytes code place)))))

-- ---- expressions

pub data Expression : Type 0 where
  term : TermView → Expression
  negation : Expression → Expression
  joined : Operator → Expression → Expression → Expression

-- The expression at a place and the place after it: each operation comes before its operands (`opAnd`, `opOr`, `opNot`).
pub data IsExpression (bytes : List ℕ) : (place : ℕ) → Expression → (end : ℕ) → Type 0 where
  is_term : (place code end : ℕ) (t : TermView) → word_at bytes place ≡ Ok code → term_by bytes code (place + 4) ≡ Ok (t, end)
      → IsExpression bytes place (term t) end
  is_negation : (place end : ℕ) (x : Expression) → word_at bytes place ≡ Ok 9 → IsExpression bytes (place + 4) x end
      → IsExpression bytes place (negation x) end
  is_both : (place middle end : ℕ) (x y : Expression) → word_at bytes place ≡ Ok 6 → IsExpression bytes (place + 4) x middle
      → IsExpression bytes middle y end → IsExpression bytes place (joined And x y) end
  is_either : (place middle end : ℕ) (x y : Expression) → word_at bytes place ≡ Ok 7 → IsExpression bytes (place + 4) x middle
      → IsExpression bytes middle y end → IsExpression bytes place (joined Or x y) end

-- ---- the same, up to a depth

abbrev pub joined_read : Operator → Expression → Expression × ℕ → Result (Expression × ℕ) Fault
joined_read operator x y = Ok (joined operator x y.0, y.1)

abbrev pub negated_read : Expression × ℕ → Result (Expression × ℕ) Fault
negated_read x = Ok (negation x.0, x.1)

abbrev pub term_alone : TermView × ℕ → Result (Expression × ℕ) Fault
term_alone t = Ok (term t.0, t.1)

-- two operands, one after the other
abbrev pub two_by : Operator → Result (Expression × ℕ) Fault → (ℕ → Result (Expression × ℕ) Fault) → Result (Expression × ℕ) Fault
two_by operator first second = first >>= (λ x. second x.1 >>= joined_read operator x.0)

-- `opAnd` and `opOr` join two operands
abbrev pub is_joining : ℕ → Bool
is_joining code = code == 6 || code == 7

abbrev pub operator_of : ℕ → Operator
operator_of code = if code == 6 then And else Or

abbrev pub expression_by : (ℕ → Result (Expression × ℕ) Fault) → List ℕ → (code place : ℕ) → Result (Expression × ℕ) Fault
expression_by operand bytes code place =
    if is_joining code then two_by (operator_of code) (operand place) operand
    else (if code == 9 then operand place >>= negated_read else term_by bytes code place >>= term_alone)

-- an expression of at most this depth, where a term has depth 1
unfoldable pub expression_at : (depth : ℕ) → List ℕ → ℕ → Result (Expression × ℕ) Fault
expression_at zero bytes place = Err malformed
expression_at (suc depth) bytes place = word_at bytes place >>= (λ code. expression_by (expression_at depth bytes) bytes code (place + 4))

-- the place after such an expression
unfoldable pub end_at : (depth : ℕ) → List ℕ → ℕ → Result ℕ Fault
end_at depth bytes place = expression_at depth bytes place >>= (λ x. Ok x.1)

-- the same, by the operation
abbrev pub end_by : (ℕ → Result ℕ Fault) → List ℕ → (code place : ℕ) → Result ℕ Fault
end_by operand bytes code place =
    if is_joining code then operand place >>= operand
    else (if code == 9 then operand place else term_by bytes code place >>= (λ t. Ok t.1))

-- ---- a whole requirement

-- an expression has at most this depth
abbrev pub most_depth : ℕ
most_depth = 1000

-- what was read if it is the whole of a requirement in the form of an expression (`kSecCodeMagicRequirement`, `exprForm`)
abbrev pub whole_by : {A : Type 0} → List ℕ → (magic kind end : ℕ) → A → Result A Fault
whole_by bytes magic kind end x = if magic == 0xfade0c00 && (kind == 1 && end == length bytes) then Ok x else Err malformed

abbrev pub whole_expression : List ℕ → (magic kind : ℕ) → Expression × ℕ → Result Expression Fault
whole_expression bytes magic kind x = whole_by bytes magic kind x.1 x.0

-- the expression of a requirement, if it is simple: such an expression that ends where the requirement ends
unfoldable pub simple_expression : List ℕ → Result Expression Fault
simple_expression bytes = do
  magic ← word_at bytes 0
  kind ← word_at bytes 8
  x ← expression_at most_depth bytes 12
  whole_expression bytes magic kind x

-- where it ends
unfoldable pub simple_end : List ℕ → Result ℕ Fault
simple_end bytes = do
  magic ← word_at bytes 0
  kind ← word_at bytes 8
  end ← end_at most_depth bytes 12
  whole_by bytes magic kind end end
