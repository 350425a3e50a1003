-- White space and comments, step by step.
use Rattle.std.proofs.Common.{◌≡◌, ℕ, zero, suc, List, Err, refl, ap}
use Rattle.mach_base.specs.Fault.{malformed}
use Rattle.mach_signature.specs.EntitlementXml.{after_blanks, after_gap, gap_by}

pub gap_none : (n : ℕ) (bytes : List ℕ) → n ≡ 0 → after_gap n bytes ≡ Err malformed
unfolding after_gap
gap_none zero bytes e = refl
gap_none (suc n) bytes e = absurd (cc)

pub gap_step : (n less : ℕ) (bytes : List ℕ) → n ≡ suc less → after_gap n bytes ≡ gap_by (after_gap less) (after_blanks bytes)
unfolding after_gap
gap_step zero less bytes e = absurd (cc)
gap_step (suc n) less bytes e =
    let same : n ≡ less = cc in
    ap (λ (k : ℕ). gap_by (after_gap k) (after_blanks bytes)) same
