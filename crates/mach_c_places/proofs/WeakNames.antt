-- The name of a row of weak binds is the one that was set.
use Rattle.mach_dyld.proofs.BindNames.{◌≡◌, ℕ, List, Bool, true, false, Ok, Err, refl, ap, bind_ok, same_ok, malformed, cond, Bind, Input, ◌>>=◌}
use Rattle.mach_dyld.specs.Bindings.{spot_of}
use Rattle.mach_dyld.specs.WeakBinds.{WeakBind, WeakSet, strong_name, weakly_bound, is_weak_complete, weakly_bound_at}
unfoldable use Rattle.mach_dyld.specs.WeakBinds.{weak_bind_of}
use Rattle.mach_dyld.specs.WeakBindsLeft.{set_now, weak_bind_view, weak_made}
use Rattle.mach_dyld.specs.declared.weak_binds.WeakBind as declared
use Rattle.mach_dyld.specs.declared.weak_binds.WeakBind.TheVariants as variants
use Rattle.mach_dyld.specs.declared.weak_binds.WeakBindSettings.{WeakBindSettings}
use Rattle.mach_c_places.specs.WeakCursors.{name_of_weak}

abbrev pub name_in : WeakBind → List ℕ
name_in (strong_name name) = name
name_in (weakly_bound binding) = binding.name

of_bind : (x : Input) (g : WeakSet) (b : Bind) (i : WeakBind) → weak_bind_of x g b ≡ Ok i → b.name ≡ name_in i
unfolding weak_bind_of
of_bind x g b i e = by_test (is_weak_complete g) e
  where
    by_test : (t : Bool) → cond t (spot_of x.pointer x.segments b.segment b.offset >>= λ (s : ℕ × ℕ). Ok (weakly_bound_at b s)) (Err malformed) ≡ Ok i
        → b.name ≡ name_in i
    by_test true e =
        let s = bind_ok (spot_of x.pointer x.segments b.segment b.offset) (λ (s : ℕ × ℕ). Ok (weakly_bound_at b s)) i e in ap name_in (same_ok s.2)
    by_test false e = absurd (cc)

pub weak_reports : (x : Input) (b : Bind) (m : WeakBindSettings) (i : WeakBind) → weak_made x b m ≡ Ok i → b.name ≡ name_in i
weak_reports x b m i e = by_test m.is_own e
  where
    by_test : (t : Bool) → cond t (Ok (strong_name b.name)) (weak_bind_of x (set_now m) b) ≡ Ok i → b.name ≡ name_in i
    by_test true e = ap name_in (same_ok e)
    by_test false e = of_bind x (set_now m) b i e

-- the name of a row of the code
pub seen_name : (w : declared.WeakBind) → name_in (weak_bind_view w) ≡ name_of_weak w
seen_name (variants.Strong name) = refl
seen_name (variants.Bind binding) = refl
