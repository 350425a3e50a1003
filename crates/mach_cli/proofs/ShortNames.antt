-- The last component of a path.
use Rattle.std.proofs.Common.{◌≡◌, ℕ, ◌+◌, ◌-◌, ◌<◌, ◌≤◌, Bool, true, List, length, drop, get_or, ap, ◌∙◌, arith}
use Rattle.std.specs.Prelude.{◌==◌, not}
use Rattle.std.specs.List.{suffix_len}
use Rattle.std.specs.Str.{NoCharPasses}
use Rattle.std.proofs.lemmas.Bool.{eq-eqb, ne_eqb}
use Rattle.std.proofs.lemmas.List.{get_or-drop, length-drop}
use Rattle.std.proofs.lemmas.List.Sums.{suffix_len_is}
use Rattle.std.proofs.lemmas.Str.Pattern.{NoCharPasses-char}
use Rattle.mach_cli.specs.Origins.{last_component}

-- what follows a place before which there is a slash, or that is the start, and after which there is none
pub last_from : (path : List ℕ) (j : ℕ) → j ≤ length path → NoCharPasses (λ d. d == 0x2f) (drop j path) → (0 < j → get_or path (j - 1) 0 ≡ 0x2f)
    → drop j path ≡ last_component path
last_from path j inside none before =
    let no_slash : ℕ → Bool = λ b. not (b == 0x2f) in
    let following : (k : ℕ) → j ≤ k → k < length path → no_slash (get_or path k 0) ≡ true = λ k far there.
    let place : j + (k - j) ≡ k = omega arith in
    let differs = NoCharPasses-char 0x2f (drop j path) (k - j) none (omega arith) (omega (arith, length-drop j path)) in
    let is : get_or (drop j path) (k - j) 0 ≡ get_or path k 0 = get_or-drop j path (k - j) 0 ∙ ap (λ m. get_or path m 0) place in
    ap not (ne_eqb (get_or path k 0) 0x2f (λ e. differs (is ∙ e))) in
    let n : suffix_len no_slash path ≡ length path - j =
    suffix_len_is no_slash path j 0 inside following (λ some. ap not (eq-eqb _ 0x2f (before some))) in
    ap (λ m. drop m path) {x = j} {y = length path - suffix_len no_slash path} (omega (arith, n, inside))
