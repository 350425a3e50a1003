-- A text in XML after some of its bytes.
use Rattle.std.proofs.Common.{◌≡◌, ◌∷◌, [], ℕ, zero, suc, List, drop, refl}
use Rattle.mach_signature.specs.EntitlementTexts.{without_entities}

pub unescaped_after : (skip : ℕ) (xs : List ℕ) → without_entities skip xs ≡ without_entities 0 (drop skip xs)
unescaped_after zero xs = refl
unescaped_after (suc skip) [] = refl
unescaped_after (suc skip) (x ∷ xs) = unescaped_after skip xs
