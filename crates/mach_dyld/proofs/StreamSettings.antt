-- What one opcode sets.
use Rattle.mach_dyld.proofs.BindNames.{◌≡◌, List, ◌∷◌, Bool, true, false, Option, Some, None, refl, sym, ap, ◌∙◌, cond, Placed, is_done, last_setting}
use Rattle.mach_dyld.proofs.BindingSet.{setting-step, set_or}

if_set : {A : Type 0} (b : Bool) (old new : A) → cond b new old ≡ set_or old (cond b (Some new) None)
if_set {A} true old new = refl
if_set {A} false old new = refl

-- after an instruction that isn't a DONE
pub setting_after : {A : Type 0} (back : List Placed) (p : Placed) (b : Bool) (fresh new : A) {old : A} (operand : Placed → Option A) → is_done p ≡ false
    → operand p ≡ cond b (Some new) None → old ≡ last_setting fresh operand back → cond b new old ≡ last_setting fresh operand (p ∷ back)
setting_after {A} back p b fresh new operand none here e =
    ap (cond b new) e ∙ if_set b (last_setting fresh operand back) new ∙ sym (setting-step fresh operand back p ∙ rw (none, here) refl)
