-- Text that is written up to the next painted word.
use Rattle.std.proofs.Common.{◌≡◌, ◌⊎◌, ◌≤◌, ◌<◌, ◌+◌, ◌++◌, ◌∙◌, ℕ, List, true, false, Option, Result, Ok, Err, inl, inr, leb, length, take}
use Rattle.std.proofs.Common.{refl, subst, arith}
use Rattle.std.proofs.lemmas.Bool.Decides.{leb_tells}
use Rattle.std.proofs.lemmas.Bool.{eqb-true}
use Rattle.std.proofs.lemmas.List.{length-take, take-take}
use Rattle.std.specs.Io.KnownBytes.{Appends, WriteAppends}
use Rattle.std.specs.Prelude.{◌==◌, ◌≢◌, IfOk, OnOk}
use Rattle.mach_base.proofs.Written.{Appends-both}
use Rattle.mach_cli.specs.Painted.{in_red, is_painted_at, painted_first, painted_len}

-- no painted word begins up to a place, nor at it
next_none : (text : List ℕ) (at i : ℕ) → ((j : ℕ) → j < at → is_painted_at text j ≡ false) → is_painted_at text at ≡ false → i < at + 1
    → ((leb at i ≡ true) × (at ≤ i)) ⊎ ((leb at i ≡ false) × (i < at)) → is_painted_at text i ≡ false
next_none text at i before here less (inl h) =
    let same : at ≡ i = omega (arith, less, h.1) in
    subst (λ (k : ℕ). is_painted_at text k ≡ false) same here
next_none text at i before here less (inr h) = before i h.1

pub one_more : (text : List ℕ) (at : ℕ) → ((j : ℕ) → j < at → is_painted_at text j ≡ false) → is_painted_at text at ≡ false
    → (i : ℕ) → i < at + 1 → is_painted_at text i ≡ false
one_more text at before here i less = next_none text at i before here less (leb_tells at i)

-- the first bytes of what precedes the next painted word are written unchanged
pub unpainted : {E : Type 0} (text : List ℕ) (next : ℕ) (old new : Option (List ℕ)) (r : Result ℕ E) → painted_len text ≡ 0
    → IfOk r (λ n. n ≤ length (take next text)) → WriteAppends old new r (take next text) → IfOk r (λ n. Appends old new (painted_first n text))
unpainted text next old new (Err e) none bound wrote = cc
unpainted text next old new (Ok n) none bound wrote =
    let within : n ≤ next = omega (arith, bound, length-take next text) in
    rw none (subst (λ (ts : List ℕ). Appends old new ts) (take-take n next text within) wrote)

-- a painted word is written in red
pub reddened : (text : List ℕ) (n : ℕ) (old new : Option (List ℕ)) → n ≡ painted_len text → n ≢ 0 → Appends old new (in_red (take n text))
    → Appends old new (painted_first n text)
reddened text n old new is some wrote =
    let none = painted_len text == 0 in
    elim none as (λ b. none ≡ b → Appends old new (painted_first n text)) [
      | true ↦ λ it. absurd (some (is ∙ eqb-true (painted_len text) 0 it))
      | false ↦ λ it. rw it wrote
    ] refl

-- three texts are written one after the other
pub three_written : {E : Type 0} (a b c d : Option (List ℕ)) (xs ys zs : List ℕ) (r : Result (Unit {0}) E) → Appends a b xs → Appends b c ys
    → OnOk r (Appends c d zs) → OnOk r (Appends a d (xs ++ (ys ++ zs)))
three_written a b c d xs ys zs (Err e) first second third = cc
three_written a b c d xs ys zs (Ok x) first second third =
    Appends-both a b d xs (ys ++ zs) first (Appends-both b c d ys zs second third)
