-- A requirement is simple if its end is found.
use Rattle.std.proofs.Common.{◌≡◌, ◌==◌, ◌&&◌, ℕ, Bool, true, false, cond, is_ok, length, List, Result, Ok, Err, refl, sym, ap}
use Rattle.mach_base.specs.Answer.{◌>>=◌, Reads}
use Rattle.mach_base.specs.Fault.{Fault, malformed}
use Rattle.mach_base.specs.declared.error.Error.{Error}
use Rattle.mach_signature.specs.RequirementTexts.{is_simple}
use Rattle.mach_signature.specs.Requirements.{Expression, end_at, expression_at, most_depth, simple_end, simple_expression}
use Rattle.mach_signature.specs.Requirements.{whole_by, whole_expression, word_at}

module _ (bytes : List ℕ) where
  whole_ends : (magic kind : ℕ) (x : Expression × ℕ) (end : ℕ) → whole_by bytes magic kind x.1 x.1 ≡ Ok end
      → whole_expression bytes magic kind x ≡ Ok x.0
  whole_ends magic kind x end =
      elim (magic == 0xfade0c00 && (kind == 1 && x.1 == length bytes))
      as (λ t. cond t (Ok x.1) (Err malformed) ≡ Ok end → ◌≡◌ {A = Result Expression Fault} (cond t (Ok x.0) (Err malformed)) (Ok x.0)) [
        | true ↦ λ e. refl
        | false ↦ λ e. absurd (cc)
      ]

  whole_unended : (magic kind : ℕ) (x : Expression × ℕ) (f : Fault) → whole_by bytes magic kind x.1 x.1 ≡ Err f
      → whole_expression bytes magic kind x ≡ Err f
  whole_unended magic kind x f =
      elim (magic == 0xfade0c00 && (kind == 1 && x.1 == length bytes))
      as (λ t. cond t (Ok x.1) (Err malformed) ≡ Err f → ◌≡◌ {A = Result Expression Fault} (cond t (Ok x.0) (Err malformed)) (Err f)) [
        | true ↦ λ e. absurd (cc)
        | false ↦ λ e. cc
      ]

  ends_by : (magic kind : Result ℕ Fault) (x : Result (Expression × ℕ) Fault) (end : ℕ)
      → magic >>= (λ m. kind >>= (λ k. (x >>= (λ z. Ok z.1)) >>= (λ n. whole_by bytes m k n n))) ≡ Ok end
      → (t : Expression) × (magic >>= (λ m. kind >>= (λ k. x >>= whole_expression bytes m k)) ≡ Ok t)
  ends_by (Ok m) (Ok k) (Ok x) end e = (x.0, whole_ends m k x end e)
  ends_by (Ok m) (Ok k) (Err g) end e = absurd (cc)
  ends_by (Ok m) (Err g) x end e = absurd (cc)
  ends_by (Err g) kind x end e = absurd (cc)

  unended_by : (magic kind : Result ℕ Fault) (x : Result (Expression × ℕ) Fault) (f : Fault)
      → magic >>= (λ m. kind >>= (λ k. (x >>= (λ z. Ok z.1)) >>= (λ n. whole_by bytes m k n n))) ≡ Err f
      → magic >>= (λ m. kind >>= (λ k. x >>= whole_expression bytes m k)) ≡ Err f
  unended_by (Ok m) (Ok k) (Ok x) f e = whole_unended m k x f e
  unended_by (Ok m) (Ok k) (Err g) f e = cc
  unended_by (Ok m) (Err g) x f e = cc
  unended_by (Err g) kind x f e = cc

  -- its expression is there if its end is
  pub simple_there : (end : ℕ) → simple_end bytes ≡ Ok end → (t : Expression) × (simple_expression bytes ≡ Ok t)
  unfolding simple_end simple_expression end_at
  simple_there end e = ends_by (word_at bytes 0) (word_at bytes 8) (expression_at most_depth bytes 12) end e

  -- and isn't there if that isn't
  pub simple_absent : (f : Fault) → simple_end bytes ≡ Err f → simple_expression bytes ≡ Err f
  unfolding simple_end simple_expression end_at
  simple_absent f e = unended_by (word_at bytes 0) (word_at bytes 8) (expression_at most_depth bytes 12) f e

  pub simple_if_ended : (answer : Result ℕ Error) → Reads (λ end. end) answer (simple_end bytes) → is_ok answer ≡ is_simple bytes
  simple_if_ended (Ok n) e = sym (ap (λ (r : Result Expression Fault). is_ok r) (simple_there n e).1)
  simple_if_ended (Err g) e = sym (ap (λ (r : Result Expression Fault). is_ok r) (simple_absent _ e))
