-- From a chain of reads to its parts.
use Rattle.std.proofs.Common.{◌≡◌, Bool, true, false, cond, ◌⊎◌, inl, inr, Result, Ok, Err, refl}
use Rattle.mach_base.specs.Answer.{◌>>=◌}
use Rattle.mach_base.specs.Fault.{Fault}

pub bind_ok : {A B : Type 0} (r : Result A Fault) (f : A → Result B Fault) (y : B) → (r >>= f) ≡ Ok y → (x : A) × (r ≡ Ok x) × (f x ≡ Ok y)
bind_ok (Ok x) f y e = (x, refl, e)
bind_ok (Err g) f y e = absurd (cc)

pub bind_err : {A B : Type 0} (r : Result A Fault) (f : A → Result B Fault) (g : Fault) → (r >>= f) ≡ Err g
    → (r ≡ Err g) ⊎ ((x : A) × (r ≡ Ok x) × (f x ≡ Err g))
bind_err (Ok x) f g e = inr (x, refl, e)
bind_err (Err h) f g e = inl (cc)

pub chosen : {A : Type 0} (b : Bool) (x y z : Result A Fault) → cond b x y ≡ z → ((b ≡ true) × (x ≡ z)) ⊎ ((b ≡ false) × (y ≡ z))
chosen true x y z e = inl (refl, e)
chosen false x y z e = inr (refl, e)

pub same_ok : {A : Type 0} {x y : A} → ◌≡◌ {A = Result A Fault} (Ok x) (Ok y) → x ≡ y
same_ok e = cc

pub same_err : {A : Type 0} {x y : Fault} → ◌≡◌ {A = Result A Fault} (Err x) (Err y) → x ≡ y
same_err e = cc
