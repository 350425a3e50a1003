-- What is set last, instruction by instruction.
use Rattle.mach_dyld.proofs.BindNames.{◌≡◌, ℕ, ℤ, List, [], ◌∷◌, Bool, true, false, Option, Some, None, refl, pos, cond}
use Rattle.mach_dyld.proofs.BindNames.{filter_map, cons_option, Placed, is_done, nearer_than, nearest_or, last_setting}
use Rattle.mach_dyld.specs.Bindings.{ordinal_in}

abbrev pub set_or : {A : Type 0} → A → Option A → A
set_or o None = o
set_or o (Some n) = n

set_first : {A : Type 0} (fresh : A) (o : Option A) (rest : List A) → nearest_or fresh (cons_option o rest) ≡ set_or (nearest_or fresh rest) o
set_first {A} fresh None rest = refl
set_first {A} fresh (Some n) rest = refl

one_nearer : {A : Type 0} (fresh : A) (operand : Placed → Option A) (p : Placed) (near : List Placed) (d : Bool)
    → nearest_or fresh (filter_map operand (cond d [] (p ∷ near)))
    ≡ cond d fresh (set_or (nearest_or fresh (filter_map operand near)) (operand p))
one_nearer {A} fresh operand p near true = refl
one_nearer {A} fresh operand p near false = set_first fresh (operand p) (filter_map operand near)

pub setting-step : {A : Type 0} (fresh : A) (operand : Placed → Option A) (back : List Placed) (p : Placed)
    → last_setting fresh operand (p ∷ back) ≡ cond (is_done p) fresh (set_or (last_setting fresh operand back) (operand p))
setting-step {A} fresh operand back p = one_nearer fresh operand p (nearer_than is_done back) (is_done p)

-- the ordinal after an instruction
abbrev pub ordinal_after : List ℕ → Placed → ℤ → ℤ
ordinal_after bytes p o = cond (is_done p) (pos 0) (set_or o (ordinal_in bytes p))
