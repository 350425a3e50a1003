-- Spellings of unsigned and signed numbers.
use Rattle.std.proofs.Common.{◌≡◌, ℕ, zero, suc, ◌<◌, List, [], length, drop, take, Some, inl, inr, refl, sym, ap, subst, ◌∙◌}
use Rattle.std.proofs.lemmas.Bool.{cases_lt}
use Rattle.std.proofs.lemmas.List.{drop_all}
use Rattle.mach_base.specs.Leb128.{IsGroups}
use Rattle.mach_base.proofs.Groups.{first_groups-front}

some_is : (a b : List ℕ) → Some a ≡ Some b → a ≡ b
some_is a b e = cc

-- only one sequence of groups lies at a place
pub groups_unique : (here xs ys : List ℕ) → take (length xs) here ≡ xs → IsGroups xs → take (length ys) here ≡ ys → IsGroups ys → xs ≡ ys
groups_unique here xs ys at_xs groups_xs at_ys groups_ys =
    some_is xs ys (sym (first_groups-front xs here groups_xs at_xs) ∙ first_groups-front ys here groups_ys at_ys)

take_nothing : (n : ℕ) → take {A = ℕ} n [] ≡ []
take_nothing zero = refl
take_nothing (suc n) = refl

-- groups lie within the bytes
pub groups_inside : (bytes : List ℕ) (s : ℕ) (spelled : List ℕ) → take (length spelled) (drop s bytes) ≡ spelled → IsGroups spelled → s < length bytes
groups_inside bytes s spelled here groups = elim (cases_lt s (length bytes)) [
  | inl inside ↦ inside
  | inr out ↦ absurd (
      let none : take (length spelled) (drop s bytes) ≡ [] = ap (λ (l : List ℕ). take (length spelled) l) (drop_all s bytes out) ∙
      take_nothing (length spelled) in
      subst IsGroups (sym here ∙ none) groups)
]
