-- What is written part by part.
use Rattle.std.proofs.Common.{◌≡◌, ◌++◌, ◌∷◌, [], ◌∙◌, ℕ, List, Option, sym, ap, subst}
use Rattle.std.proofs.lemmas.Grind.{flat_map-append}
use Rattle.std.proofs.lemmas.List.{append-nil}
use Rattle.std.specs.Io.KnownBytes.{Appends}
use Rattle.std.specs.List.{flat_map}
use Rattle.mach_base.proofs.Written.{Appends-none, Appends-both}

module _ {A : Type 0} (part : A → List ℕ) where
  -- nothing was written before the first part
  pub no_parts : (known : Option (List ℕ)) → Appends known known (flat_map part [])
  no_parts known = Appends-none known

  -- one more part was written
  pub part_more : (before : List A) (x : A) (old middle new : Option (List ℕ)) → Appends old middle (flat_map part before) → Appends middle new (part x)
      → Appends old new (flat_map part (before ++ x ∷ []))
  part_more before x old middle new written more =
      subst (λ (text : List ℕ). Appends old new text)
      (ap (λ last. flat_map part before ++ last) (sym (append-nil (part x))) ∙ sym (flat_map-append part before (x ∷ [])))
      (Appends-both old middle new (flat_map part before) (part x) written more)

  -- the parts of a list were written, of which nothing is left
  pub all_given : (all done left : List A) (old new : Option (List ℕ)) → all ≡ done ++ left → left ≡ [] → Appends old new (flat_map part done)
      → Appends old new (flat_map part all)
  all_given all done left old new is none written =
      subst (λ (items : List A). Appends old new (flat_map part items)) (sym (is ∙ ap (λ rest. done ++ rest) none ∙ append-nil done)) written

-- three parts, four, and five
pub three : (a b c d : Option (List ℕ)) (xs ys zs : List ℕ) → Appends a b xs → Appends b c ys → Appends c d zs → Appends a d (xs ++ (ys ++ zs))
three a b c d xs ys zs first second third = Appends-both a b d xs (ys ++ zs) first (Appends-both b c d ys zs second third)

pub four : (a b c d e : Option (List ℕ)) (xs ys zs ws : List ℕ) → Appends a b xs → Appends b c ys → Appends c d zs → Appends d e ws
    → Appends a e (xs ++ (ys ++ (zs ++ ws)))
four a b c d e xs ys zs ws first second third last = Appends-both a b e xs (ys ++ (zs ++ ws)) first (three b c d e ys zs ws second third last)

pub five : (a b c d e f : Option (List ℕ)) (us vs xs ys zs : List ℕ) → Appends a b us → Appends b c vs → Appends c d xs → Appends d e ys
    → Appends e f zs → Appends a f (us ++ (vs ++ (xs ++ (ys ++ zs))))
five a b c d e f us vs xs ys zs first second third fourth last =
    Appends-both a b f us (vs ++ (xs ++ (ys ++ zs))) first (four b c d e f vs xs ys zs second third fourth last)
