-- What is read as an expression is one, and an expression that isn't too deep is read.
use Rattle.std.proofs.Common.{◌≡◌, ◌∙◌, ◌==◌, ◌||◌, ℕ, zero, suc, ◌+◌, ◌-◌, ◌≤◌, Bool, true, false, cond, List, Result, Ok, Err, refl, sym, ap, subst, arith}
use Rattle.std.proofs.lemmas.Bool.{eqb-true}
use Rattle.mach_base.specs.Answer.{◌>>=◌}
use Rattle.mach_base.specs.Fault.{Fault, malformed}
use Rattle.mach_signature.specs.ExpressionDepths.{expression_depth}
use Rattle.mach_signature.specs.Requirements.{Expression, term, joined, IsExpression, is_term, is_negation, is_both, is_either}
use Rattle.mach_signature.specs.Requirements.{expression_at, expression_by, joined_read, negated_read, small_term_by}
use Rattle.mach_signature.specs.Requirements.{term_alone, term_by, TermView, two_by, word_at}
use Rattle.mach_signature.specs.declared.requirements.term.Operator.{Operator}
use Rattle.mach_signature.specs.declared.requirements.term.Operator.TheVariants.{And, Or}
use Rattle.mach_signature.proofs.EntitlementSteps.{both_read, then_read}
use Rattle.mach_signature.proofs.Expressions.{expression_none, expression_step}

same_read : {A : Type 0} (x y : A) → ◌≡◌ {A = Result A Fault} (Ok x) (Ok y) → x ≡ y
same_read x y e = cc

-- the code of a word by a test
code_is : (bytes : List ℕ) (place code n : ℕ) → word_at bytes place ≡ Ok code → (code == n) ≡ true → word_at bytes place ≡ Ok n
code_is bytes place code n word e = word ∙ ap (λ (k : ℕ). Ok k) (eqb-true code n e)

module _ (bytes : List ℕ) (place code : ℕ) (operand : ℕ → Result (Expression × ℕ) Fault)
    (known : (p : ℕ) (x : Expression × ℕ) → operand p ≡ Ok x → IsExpression bytes p x.0 x.1) (word : word_at bytes place ≡ Ok code) where
  both_there : (r : Expression × ℕ) → (code == 6) ≡ true → two_by And (operand (place + 4)) operand ≡ Ok r → IsExpression bytes place r.0 r.1
  both_there r six e =
      let p = both_read (operand (place + 4)) (λ x. operand x.1 >>= joined_read And x.0) r e in
      let q = both_read (operand p.first.1) (joined_read And p.first.0) r p.is_second in
      subst (λ (r : Expression × ℕ). IsExpression bytes place r.0 r.1) (same_read _ _ q.is_second)
      (is_both place p.first.1 q.first.1 p.first.0 q.first.0 (code_is bytes place code 6 word six) (known (place + 4) p.first p.is_first)
      (known p.first.1 q.first q.is_first))

  either_there : (r : Expression × ℕ) → (code == 7) ≡ true → two_by Or (operand (place + 4)) operand ≡ Ok r → IsExpression bytes place r.0 r.1
  either_there r seven e =
      let p = both_read (operand (place + 4)) (λ x. operand x.1 >>= joined_read Or x.0) r e in
      let q = both_read (operand p.first.1) (joined_read Or p.first.0) r p.is_second in
      subst (λ (r : Expression × ℕ). IsExpression bytes place r.0 r.1) (same_read _ _ q.is_second)
      (is_either place p.first.1 q.first.1 p.first.0 q.first.0 (code_is bytes place code 7 word seven) (known (place + 4) p.first p.is_first)
      (known p.first.1 q.first q.is_first))

  negation_there : (r : Expression × ℕ) → (code == 9) ≡ true → operand (place + 4) >>= negated_read ≡ Ok r → IsExpression bytes place r.0 r.1
  negation_there r nine e =
      let p = both_read (operand (place + 4)) negated_read r e in
      subst (λ (r : Expression × ℕ). IsExpression bytes place r.0 r.1) (same_read _ _ p.is_second)
      (is_negation place p.first.1 p.first.0 (code_is bytes place code 9 word nine) (known (place + 4) p.first p.is_first))

  term_there : (r : Expression × ℕ) → term_by bytes code (place + 4) >>= term_alone ≡ Ok r → IsExpression bytes place r.0 r.1
  term_there r e =
      let p = both_read (term_by bytes code (place + 4)) term_alone r e in
      subst (λ (r : Expression × ℕ). IsExpression bytes place r.0 r.1) (same_read _ _ p.is_second)
      (is_term place code p.first.1 p.first.0 word p.is_first)

  by_tests : (six seven nine : Bool) (r : Expression × ℕ) → (code == 6) ≡ six → (code == 7) ≡ seven → (code == 9) ≡ nine
      → cond (six || seven) (two_by (cond six And Or) (operand (place + 4)) operand)
      (cond nine (operand (place + 4) >>= negated_read) (term_by bytes code (place + 4) >>= term_alone)) ≡ Ok r → IsExpression bytes place r.0 r.1
  by_tests true seven nine r a b c e = both_there r a e
  by_tests false true nine r a b c e = either_there r b e
  by_tests false false true r a b c e = negation_there r c e
  by_tests false false false r a b c e = term_there r e

  pub by_word : (r : Expression × ℕ) → expression_by operand bytes code (place + 4) ≡ Ok r → IsExpression bytes place r.0 r.1
  by_word r e = by_tests (code == 6) (code == 7) (code == 9) r refl refl refl e

pub read_is : (depth : ℕ) (bytes : List ℕ) (place : ℕ) (r : Expression × ℕ) → expression_at depth bytes place ≡ Ok r → IsExpression bytes place r.0 r.1
read_is zero bytes place r e =
    let no : ◌≡◌ {A = Result (Expression × ℕ) Fault} (Err malformed) (Ok r) = sym (expression_none zero bytes place refl) ∙ e in absurd (cc)
read_is (suc depth) bytes place r e =
    let w = both_read (word_at bytes place) (λ code. expression_by (expression_at depth bytes) bytes code (place + 4)) r
    (sym (expression_step (suc depth) depth bytes place refl) ∙ e) in
    by_word bytes place w.first (expression_at depth bytes) (λ p x is. read_is depth bytes p x is) w.is_first r w.is_second

-- ---- the other way

no_term : (bytes : List ℕ) (place code n : ℕ) (x : TermView × ℕ) {A : Type 0} → code ≡ n → term_by bytes n place ≡ Err malformed
    → term_by bytes code place ≡ Ok x → A
no_term bytes place code n x same none e =
    let no : ◌≡◌ {A = Result (TermView × ℕ) Fault} (Err malformed) (Ok x) =
    sym none ∙ (ap (λ (k : ℕ). term_by bytes k place) (sym same) ∙ e) in absurd (cc)

none_six : (bytes : List ℕ) (place : ℕ) → term_by bytes 6 place ≡ Err malformed
unfolding term_by small_term_by
none_six bytes place = refl

none_seven : (bytes : List ℕ) (place : ℕ) → term_by bytes 7 place ≡ Err malformed
unfolding term_by small_term_by
none_seven bytes place = refl

none_nine : (bytes : List ℕ) (place : ℕ) → term_by bytes 9 place ≡ Err malformed
unfolding term_by small_term_by
none_nine bytes place = refl

lone_term : (bytes : List ℕ) (code place : ℕ) (x : TermView × ℕ) (operand : ℕ → Result (Expression × ℕ) Fault) (six seven nine : Bool)
    → (code == 6) ≡ six → (code == 7) ≡ seven → (code == 9) ≡ nine → term_by bytes code place ≡ Ok x
    → cond (six || seven) (two_by (cond six And Or) (operand place) operand)
    (cond nine (operand place >>= negated_read) (term_by bytes code place >>= term_alone)) ≡ Ok (term x.0, x.1)
lone_term bytes code place x operand true seven nine a b c e = no_term bytes place code 6 x (eqb-true code 6 a) (none_six bytes place) e
lone_term bytes code place x operand false true nine a b c e = no_term bytes place code 7 x (eqb-true code 7 b) (none_seven bytes place) e
lone_term bytes code place x operand false false true a b c e = no_term bytes place code 9 x (eqb-true code 9 c) (none_nine bytes place) e
lone_term bytes code place x operand false false false a b c e = then_read (term_by bytes code place) term_alone x e

at_word : (depth less : ℕ) (bytes : List ℕ) (place code : ℕ) → depth ≡ suc less → word_at bytes place ≡ Ok code
    → expression_at depth bytes place ≡ expression_by (expression_at less bytes) bytes code (place + 4)
at_word depth less bytes place code more word =
    expression_step depth less bytes place more
    ∙ then_read (word_at bytes place) (λ code. expression_by (expression_at less bytes) bytes code (place + 4)) code word

two_read : (operator : Operator) (first : Result (Expression × ℕ) Fault) (second : ℕ → Result (Expression × ℕ) Fault) (x y : Expression) (middle end : ℕ)
    → first ≡ Ok (x, middle) → second middle ≡ Ok (y, end) → two_by operator first second ≡ Ok (joined operator x y, end)
two_read operator first second x y middle end a b =
    then_read first (λ x. second x.1 >>= joined_read operator x.0) (x, middle) a ∙ then_read (second middle) (joined_read operator x) (y, end) b

pub is_read : (bytes : List ℕ) (place : ℕ) (x : Expression) (end : ℕ) → IsExpression bytes place x end → (depth : ℕ) → expression_depth x ≤ depth
    → expression_at depth bytes place ≡ Ok (x, end)
is_read bytes _ _ _ (is_term place code end t word e) depth le =
    let more : depth ≡ suc (depth - 1) = omega arith in
    at_word depth (depth - 1) bytes place code more word
    ∙ lone_term bytes code (place + 4) (t, end) (expression_at (depth - 1) bytes) (code == 6) (code == 7) (code == 9) refl refl refl e
is_read bytes _ _ _ (is_negation place end x word inner) depth le =
    let more : depth ≡ suc (depth - 1) = omega arith in
    let rest : expression_depth x ≤ depth - 1 = omega arith in
    at_word depth (depth - 1) bytes place 9 more word
    ∙ then_read (expression_at (depth - 1) bytes (place + 4)) negated_read (x, end) (is_read bytes (place + 4) x end inner (depth - 1) rest)
is_read bytes _ _ _ (is_both place middle end x y word first second) depth le =
    let more : depth ≡ suc (depth - 1) = omega arith in
    let left : expression_depth x ≤ depth - 1 = omega arith in
    let right : expression_depth y ≤ depth - 1 = omega arith in
    at_word depth (depth - 1) bytes place 6 more word
    ∙ two_read And (expression_at (depth - 1) bytes (place + 4)) (expression_at (depth - 1) bytes) x y middle end
    (is_read bytes (place + 4) x middle first (depth - 1) left) (is_read bytes middle y end second (depth - 1) right)
is_read bytes _ _ _ (is_either place middle end x y word first second) depth le =
    let more : depth ≡ suc (depth - 1) = omega arith in
    let left : expression_depth x ≤ depth - 1 = omega arith in
    let right : expression_depth y ≤ depth - 1 = omega arith in
    at_word depth (depth - 1) bytes place 7 more word
    ∙ two_read Or (expression_at (depth - 1) bytes (place + 4)) (expression_at (depth - 1) bytes) x y middle end
    (is_read bytes (place + 4) x middle first (depth - 1) left) (is_read bytes middle y end second (depth - 1) right)
