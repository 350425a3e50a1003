-- The names of a list: one name on, and the last one.
use Rattle.std.proofs.Common.{◌≡◌, ℕ, ◌+◌, Bool, true, false, List, [], ◌∷◌, take, drop, Some, None, refl, sym, subst, arith}
use Rattle.std.proofs.lemmas.List.Elements.{All-from_get_or}
use Rattle.std.proofs.lemmas.List.Splits.{slice_split_first, slice_split_none}
use Rattle.memchr.specs.Find.{IsFirstByte, is_byte}
use Rattle.mach_base.proofs.Runs.{first_len}
use Rattle.mach_cli.specs.Listed.{listed_names}

not_true : (b : Bool) → (b ≡ true → ⊥) → b ≡ false
not_true true h = absurd (h refl)
not_true false h = refl

pub name_on : (end : ℕ) (rest : List ℕ) (at : ℕ) → IsFirstByte (is_byte end) rest (Some at)
    → listed_names end rest ≡ take at rest ∷ listed_names end (drop (at + 1) rest)
name_on end rest at h =
    let first = first_len (is_byte end) rest (Some at) h in
    subst (λ (n : ℕ). listed_names end rest ≡ take n rest ∷ listed_names end (drop (n + 1) rest)) (sym first)
    (slice_split_first (is_byte end) rest 0 (omega (arith, first, h.0.high)))

pub last_name : (end : ℕ) (rest : List ℕ) → IsFirstByte (is_byte end) rest None → listed_names end rest ≡ rest ∷ []
last_name end rest h =
    slice_split_none (is_byte end) rest (All-from_get_or (λ byte. is_byte end byte ≡ false) rest 0 (λ k lt. not_true _ (h k (omega arith) lt)))
