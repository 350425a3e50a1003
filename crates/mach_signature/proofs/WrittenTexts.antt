-- The texts of expressions, written part by part.
use Rattle.std.proofs.Common.{◌≡◌, ◌==◌, ◌&&◌, ◌++◌, ℕ, Bool, true, false, cond, length, List, Option, Some, None, Result, Ok, Err, refl, sym, subst}
use Rattle.std.proofs.Output.{has_written_append}
use Rattle.std.specs.Fmt.{HasWritten, IsPlainFormatter}
use Rattle.std.specs.declared.fmt.Formatter.{Formatter}
use Rattle.mach_base.specs.Answer.{◌>>=◌}
use Rattle.mach_base.specs.Fault.{Fault, malformed}
use Rattle.mach_signature.specs.Requirements.{Expression, TermView, expression_at, joined_read, most_depth, negated_read, simple_expression}
use Rattle.mach_signature.specs.Requirements.{simple_end, term_alone, two_by, whole_expression, word_at}
use Rattle.mach_signature.proofs.Simple.{simple_there, simple_absent}
use Rattle.mach_signature.specs.RequirementTexts.{WroteExpression, WroteTerm, WroteSimple, closing, expression_text, needs_brackets, not_words, opening}
use Rattle.mach_signature.specs.RequirementTexts.{operator_words, requirement_text, requirement_text_by, term_text}
use Rattle.mach_signature.specs.declared.requirements.term.Operator.{Operator}
use Rattle.mach_signature.specs.declared.requirements.term.Operator.TheVariants.{Or}
use Rattle.mach_signature.specs.declared.requirements.text.Quotes.{Quotes}

module _ {W : Type 0} (took : W → List ℕ → W → Type 0) where
  five_parts : (a b c d e f : Formatter W) (us vs xs ys zs : List ℕ) → HasWritten took a us b → HasWritten took b vs c → HasWritten took c xs d
      → HasWritten took d ys e → HasWritten took e zs f → HasWritten took a (us ++ (vs ++ (xs ++ (ys ++ zs)))) f
  five_parts a b c d e f us vs xs ys zs first second third fourth last =
      has_written_append took a us b (vs ++ (xs ++ (ys ++ zs))) f first
      (has_written_append took b vs c (xs ++ (ys ++ zs)) f second
      (has_written_append took c xs d (ys ++ zs) f third (has_written_append took d ys e zs f fourth last)))

  module _ (quotes : Quotes) (around : Option Operator) where
    module _ (operator : Operator) (a b c d e f : Formatter W) (before : HasWritten took a (opening (needs_brackets around operator)) b)
        (after : IsPlainFormatter e → HasWritten took e (closing (needs_brackets around operator)) f) where
      second_written : (x : Expression) (second : Result (Expression × ℕ) Fault) (end : ℕ) → HasWritten took b (expression_text quotes (Some operator) x) c
          → HasWritten took c (operator_words operator) d → WroteExpression took quotes (Some operator) second end d e
          → WroteExpression took quotes around (second >>= joined_read operator x) end a f
      second_written x (Ok y) end left between right =
          (right.0, five_parts a b c d e f _ _ _ _ _ before left between right.1 (after right.1.plain))
      second_written x (Err g) end left between right = tt

      -- two operands between their brackets
      joined_written : (first : Result (Expression × ℕ) Fault) (second : ℕ → Result (Expression × ℕ) Fault) (middle end : ℕ)
          → WroteExpression took quotes (Some operator) first middle b c → (IsPlainFormatter c → HasWritten took c (operator_words operator) d)
          → (IsPlainFormatter d → WroteExpression took quotes (Some operator) (second middle) end d e)
          → WroteExpression took quotes around (two_by operator first second) end a f
      joined_written (Ok x) second middle end left between right =
          let joins = between left.1.plain in
          second_written x.0 (second x.1) end left.1 joins
          (subst (λ (n : ℕ). WroteExpression took quotes (Some operator) (second n) end d e) left.0 (right joins.plain))
      joined_written (Err g) second middle end left between right = tt

    negation_written : (operand : Result (Expression × ℕ) Fault) (end : ℕ) (a b c : Formatter W) → HasWritten took a not_words b
        → WroteExpression took quotes None operand end b c → WroteExpression took quotes around (operand >>= negated_read) end a c
    negation_written (Ok x) end a b c first last = (last.0, has_written_append took a _ b _ c first last.1)
    negation_written (Err g) end a b c first last = tt

    term_written : (found : Result (TermView × ℕ) Fault) (end : ℕ) (a b : Formatter W) → WroteTerm took quotes found end a b
        → WroteExpression took quotes around (found >>= term_alone) end a b
    term_written (Ok t) end a b h = h
    term_written (Err g) end a b h = tt

    -- nothing is said of what isn't there
    pub unread_written : (there : Result (Expression × ℕ) Fault) (g : Fault) (end : ℕ) (a b : Formatter W) → there ≡ Err g
        → WroteExpression took quotes around there end a b
    unread_written there g end a b is = rw is tt

    -- the same of an expression that is one of these
    pub joined_here : (there : Result (Expression × ℕ) Fault) (operator : Operator) (brackets : Bool) (a b c d e f : Formatter W)
        (first : Result (Expression × ℕ) Fault) (second : ℕ → Result (Expression × ℕ) Fault) (middle end : ℕ)
        → there ≡ two_by operator first second → brackets ≡ needs_brackets around operator → HasWritten took a (opening brackets) b
        → WroteExpression took quotes (Some operator) first middle b c → (IsPlainFormatter c → HasWritten took c (operator_words operator) d)
        → (IsPlainFormatter d → WroteExpression took quotes (Some operator) (second middle) end d e)
        → (IsPlainFormatter e → HasWritten took e (closing brackets) f) → WroteExpression took quotes around there end a f
    joined_here there operator brackets a b c d e f first second middle end is same before left between right after =
        subst (λ (x : Result (Expression × ℕ) Fault). WroteExpression took quotes around x end a f) (sym is)
        (joined_written operator a b c d e f (subst (λ (t : Bool). HasWritten took a (opening t) b) same before)
        (λ plain. subst (λ (t : Bool). HasWritten took e (closing t) f) same (after plain)) first second middle end left between right)

    pub negation_here : (there operand : Result (Expression × ℕ) Fault) (end : ℕ) (a b c : Formatter W) → there ≡ operand >>= negated_read
        → HasWritten took a not_words b → WroteExpression took quotes None operand end b c → WroteExpression took quotes around there end a c
    negation_here there operand end a b c is first last =
        subst (λ (x : Result (Expression × ℕ) Fault). WroteExpression took quotes around x end a c) (sym is) (negation_written operand end a b c first last)

    pub term_here : (there : Result (Expression × ℕ) Fault) (found : Result (TermView × ℕ) Fault) (end : ℕ) (a b : Formatter W)
        → there ≡ found >>= term_alone → WroteTerm took quotes found end a b → WroteExpression took quotes around there end a b
    term_here there found end a b is h =
        subst (λ (x : Result (Expression × ℕ) Fault). WroteExpression took quotes around x end a b) (sym is) (term_written found end a b h)

  -- a condition that is there
  pub there_written : (quotes : Quotes) (there : Result (TermView × ℕ) Fault) (t : TermView) (end : ℕ) (a b : Formatter W) → there ≡ Ok (t, end)
      → HasWritten took a (term_text quotes t) b → WroteTerm took quotes there end a b
  there_written quotes there t end a b is h =
      subst (λ (x : Result (TermView × ℕ) Fault). WroteTerm took quotes x end a b) (sym is) (refl, h)

  pub none_written : (quotes : Quotes) (there : Result (TermView × ℕ) Fault) (g : Fault) (end : ℕ) (a b : Formatter W) → there ≡ Err g
      → WroteTerm took quotes there end a b
  none_written quotes there g end a b is = rw is tt

  -- ---- a whole requirement

  module _ (quotes : Quotes) (bytes : List ℕ) where
    whole_written : (magic kind end : ℕ) (x : Expression × ℕ) (a b : Formatter W) → WroteExpression took quotes (Some Or) (Ok x) end a b
        → WroteSimple took quotes (whole_expression bytes magic kind x) a b
    whole_written magic kind end x a b h =
        elim (magic == 0xfade0c00 && (kind == 1 && x.1 == length bytes)) as (λ t. WroteSimple took quotes (cond t (Ok x.0) (Err malformed)) a b) [
          | true ↦ h.1
          | false ↦ tt
        ]

    simple_by : (magic kind : Result ℕ Fault) (x : Result (Expression × ℕ) Fault) (end : ℕ) (a b : Formatter W)
        → WroteExpression took quotes (Some Or) x end a b
        → WroteSimple took quotes (magic >>= (λ m. kind >>= (λ k. x >>= whole_expression bytes m k))) a b
    simple_by (Ok m) (Ok k) (Ok x) end a b h = whole_written m k end x a b h
    simple_by (Ok m) (Ok k) (Err g) end a b h = tt
    simple_by (Ok m) (Err g) x end a b h = tt
    simple_by (Err g) kind x end a b h = tt

    -- the expression of a whole requirement is that at its place
    pub simple_written : (end : ℕ) (a b : Formatter W) → WroteExpression took quotes (Some Or) (expression_at most_depth bytes 12) end a b
        → WroteSimple took quotes (simple_expression bytes) a b
    unfolding simple_expression
    simple_written end a b h = simple_by (word_at bytes 0) (word_at bytes 8) (expression_at most_depth bytes 12) end a b h

    -- the texts of a requirement that is simple, and of another
    pub simple_text : (end : ℕ) (a b : Formatter W) → simple_end bytes ≡ Ok end → WroteSimple took quotes (simple_expression bytes) a b
        → HasWritten took a (requirement_text quotes bytes) b
    simple_text end a b e h =
        let there = simple_there bytes end e in
        subst (λ (r : Result Expression Fault). HasWritten took a (requirement_text_by quotes bytes r) b) (sym there.1)
        (subst (λ (r : Result Expression Fault). WroteSimple took quotes r a b) there.1 h)

    pub other_text : (f : Fault) (a b : Formatter W) → simple_end bytes ≡ Err f → HasWritten took a (requirement_text_by quotes bytes (Err f)) b
        → HasWritten took a (requirement_text quotes bytes) b
    other_text f a b e h = subst (λ (r : Result Expression Fault). HasWritten took a (requirement_text_by quotes bytes r) b) (sym (simple_absent bytes f e)) h
