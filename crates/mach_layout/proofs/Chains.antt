-- Faults found by chains over segments and sections, and the last command.
use Rattle.std.proofs.Common.{◌≡◌, ℕ, suc, ◌-◌, List, [], ◌∷◌, length, map, Option, Some, Result, Ok, sym, ap, subst, ◌∙◌, arith}
use Rattle.std.specs.Prelude.{slice_get}
use Rattle.std.specs.List.{last_or}
use Rattle.std.specs.Result.{OnOk}

-- what holds of a result that is Ok
pub at_ok : {X E : Type 0} {P : Type 0} (r : Result X E) (x : X) → r ≡ Ok x → OnOk r P → P
at_ok {P = P} r x e held = subst (λ s. OnOk s P) e held

-- the last of a list that is seen by f
pub last_outcome : {X Y : Type 0} (f : X → Y) (o : Option Y) (xs : List X) (x : X) → slice_get xs (length xs - 1) ≡ Some x → last_or o (map f xs) ≡ Some (f x)
last_outcome f o [] x e = absurd (cc)
last_outcome f o (y ∷ []) x e = let same : y ≡ x = cc in ap (λ z. Some (f z)) same
last_outcome f o (y ∷ z ∷ zs) x e =
    let one : length (y ∷ z ∷ zs) - 1 ≡ suc (length zs) = omega arith in
    let two : length (z ∷ zs) - 1 ≡ length zs = omega arith in
    last_outcome f (Some (f y)) (z ∷ zs) x (ap (λ (n : ℕ). slice_get (z ∷ zs) n) two ∙ sym (ap (λ (n : ℕ). slice_get (y ∷ z ∷ zs) n) one) ∙ e)
