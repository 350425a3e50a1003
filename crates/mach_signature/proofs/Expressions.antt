-- Where an expression ends.
use Rattle.std.proofs.Common.{◌≡◌, ◌∙◌, ◌==◌, ◌||◌, ℕ, zero, suc, ◌+◌, Bool, true, false, cond, List, Result, Ok, Err, refl, sym, ap}
use Rattle.mach_signature.proofs.EntitlementSteps.{then_read, then_refused}
use Rattle.mach_base.specs.Answer.{◌>>=◌}
use Rattle.mach_base.specs.Fault.{Fault, malformed}
use Rattle.mach_signature.specs.Requirements.{Expression, end_at, end_by, expression_at, expression_by, is_joining, operator_of, joined_read}
use Rattle.mach_signature.specs.Requirements.{negated_read, term_alone, TermView, term_by, two_by, word_at}
use Rattle.mach_signature.specs.declared.requirements.term.Operator.{Operator}
use Rattle.mach_signature.specs.declared.requirements.term.Operator.TheVariants.{And, Or}

end_in : Result (Expression × ℕ) Fault → Result ℕ Fault
end_in r = r >>= (λ x. Ok x.1)

after_second : (operator : Operator) (x : Expression) (second : Result (Expression × ℕ) Fault)
    → (second >>= joined_read operator x) >>= (λ z. Ok z.1) ≡ second >>= (λ y. Ok y.1)
after_second operator x (Ok y) = refl
after_second operator x (Err f) = refl

after_two : (operator : Operator) (first : Result (Expression × ℕ) Fault) (second : ℕ → Result (Expression × ℕ) Fault)
    → two_by operator first second >>= (λ z. Ok z.1) ≡ (first >>= (λ x. Ok x.1)) >>= (λ middle. second middle >>= (λ y. Ok y.1))
after_two operator (Ok x) second = after_second operator x.0 (second x.1)
after_two operator (Err f) second = refl

after_one : (first : Result (Expression × ℕ) Fault) → (first >>= negated_read) >>= (λ z. Ok z.1) ≡ first >>= (λ x. Ok x.1)
after_one (Ok x) = refl
after_one (Err f) = refl

after_term : (first : Result (TermView × ℕ) Fault) → (first >>= term_alone) >>= (λ z. Ok z.1) ≡ first >>= (λ t. Ok t.1)
after_term (Ok x) = refl
after_term (Err f) = refl

by_tests : (operand : ℕ → Result (Expression × ℕ) Fault) (bytes : List ℕ) (place : ℕ) (operator : Operator) (t : Result (TermView × ℕ) Fault)
    (joins negates : Bool)
    → (cond joins (two_by operator (operand place) operand) (cond negates (operand place >>= negated_read) (t >>= term_alone))) >>= (λ z. Ok z.1)
    ≡ cond joins ((operand place >>= (λ x. Ok x.1)) >>= (λ middle. operand middle >>= (λ y. Ok y.1)))
    (cond negates (operand place >>= (λ x. Ok x.1)) (t >>= (λ t. Ok t.1)))
by_tests operand bytes place operator t true negates = after_two operator (operand place) operand
by_tests operand bytes place operator t false true = after_one (operand place)
by_tests operand bytes place operator t false false = after_term t

after_word : (r : Result ℕ Fault) (f : ℕ → Result (Expression × ℕ) Fault) (g : ℕ → Result ℕ Fault)
    → ((code : ℕ) → f code >>= (λ z. Ok z.1) ≡ g code) → (r >>= f) >>= (λ z. Ok z.1) ≡ r >>= g
after_word (Ok code) f g same = same code
after_word (Err e) f g same = refl

end_by_step : (depth : ℕ) (bytes : List ℕ) (code place : ℕ)
    → expression_by (expression_at depth bytes) bytes code place >>= (λ z. Ok z.1) ≡ end_by (end_at depth bytes) bytes code place
unfolding end_at
end_by_step depth bytes code place =
    by_tests (expression_at depth bytes) bytes place (operator_of code) (term_by bytes code place) (is_joining code) (code == 9)

-- no expression has depth 0
pub end_none : (depth : ℕ) (bytes : List ℕ) (place : ℕ) → depth ≡ 0 → end_at depth bytes place ≡ Err malformed
unfolding end_at expression_at
end_none zero bytes place e = refl
end_none (suc depth) bytes place e = absurd (cc)

-- one of more depth begins with a word
pub end_step : (depth less : ℕ) (bytes : List ℕ) (place : ℕ) → depth ≡ suc less
    → end_at depth bytes place ≡ word_at bytes place >>= (λ code. end_by (end_at less bytes) bytes code (place + 4))
unfolding end_at expression_at
end_step zero less bytes place e = absurd (cc)
end_step (suc depth) less bytes place e =
    let same : depth ≡ less = cc in
    after_word (word_at bytes place) (λ code. expression_by (expression_at depth bytes) bytes code (place + 4))
    (λ code. end_by (end_at depth bytes) bytes code (place + 4)) (λ code. end_by_step depth bytes code (place + 4))
    ∙ ap (λ (n : ℕ). word_at bytes place >>= (λ code. end_by (end_at n bytes) bytes code (place + 4))) same

-- ---- the same for the expressions

pub expression_none : (depth : ℕ) (bytes : List ℕ) (place : ℕ) → depth ≡ 0 → expression_at depth bytes place ≡ Err malformed
unfolding expression_at
expression_none zero bytes place e = refl
expression_none (suc depth) bytes place e = absurd (cc)

pub expression_step : (depth less : ℕ) (bytes : List ℕ) (place : ℕ) → depth ≡ suc less
    → expression_at depth bytes place ≡ word_at bytes place >>= (λ code. expression_by (expression_at less bytes) bytes code (place + 4))
unfolding expression_at
expression_step zero less bytes place e = absurd (cc)
expression_step (suc depth) less bytes place e =
    let same : depth ≡ less = cc in
    ap (λ (n : ℕ). word_at bytes place >>= (λ code. expression_by (expression_at n bytes) bytes code (place + 4))) same

module _ (depth less : ℕ) (bytes : List ℕ) (place : ℕ) (more : depth ≡ suc less) where
  pub expression_unread : (f : Fault) → word_at bytes place ≡ Err f → expression_at depth bytes place ≡ Err f
  expression_unread f e =
      expression_step depth less bytes place more
      ∙ then_refused (word_at bytes place) (λ code. expression_by (expression_at less bytes) bytes code (place + 4)) f e

  by_code : (code : ℕ) → word_at bytes place ≡ Ok code
      → expression_at depth bytes place ≡ expression_by (expression_at less bytes) bytes code (place + 4)
  by_code code e =
      expression_step depth less bytes place more
      ∙ then_read (word_at bytes place) (λ code. expression_by (expression_at less bytes) bytes code (place + 4)) code e

  pub expression_joined : (code : ℕ) → word_at bytes place ≡ Ok code → is_joining code ≡ true
      → expression_at depth bytes place ≡ two_by (operator_of code) (expression_at less bytes (place + 4)) (expression_at less bytes)
  expression_joined code e joins =
      by_code code e
      ∙ ap (λ (b : Bool). cond b (two_by (operator_of code) (expression_at less bytes (place + 4)) (expression_at less bytes))
      (cond (code == 9) (expression_at less bytes (place + 4) >>= negated_read) (term_by bytes code (place + 4) >>= term_alone))) joins

  others : (code : ℕ) → word_at bytes place ≡ Ok code → is_joining code ≡ false
      → expression_at depth bytes place
      ≡ cond (code == 9) (expression_at less bytes (place + 4) >>= negated_read) (term_by bytes code (place + 4) >>= term_alone)
  others code e joins =
      by_code code e
      ∙ ap (λ (b : Bool). cond b (two_by (operator_of code) (expression_at less bytes (place + 4)) (expression_at less bytes))
      (cond (code == 9) (expression_at less bytes (place + 4) >>= negated_read) (term_by bytes code (place + 4) >>= term_alone))) joins

  pub expression_negated : (code : ℕ) → word_at bytes place ≡ Ok code → is_joining code ≡ false → (code == 9) ≡ true
      → expression_at depth bytes place ≡ expression_at less bytes (place + 4) >>= negated_read
  expression_negated code e joins negates =
      others code e joins
      ∙ ap (λ (b : Bool). cond b (expression_at less bytes (place + 4) >>= negated_read) (term_by bytes code (place + 4) >>= term_alone)) negates

  pub expression_term : (code : ℕ) → word_at bytes place ≡ Ok code → is_joining code ≡ false → (code == 9) ≡ false
      → expression_at depth bytes place ≡ term_by bytes code (place + 4) >>= term_alone
  expression_term code e joins negates =
      others code e joins
      ∙ ap (λ (b : Bool). cond b (expression_at less bytes (place + 4) >>= negated_read) (term_by bytes code (place + 4) >>= term_alone)) negates
