-- The place of the name of a bind, and its library.
use Rattle.mach_dyld.proofs.BindNames.{◌≡◌, ◌⊎◌, ◌≤◌, ◌-◌, ◌^◌, ℕ, List, [], Option, Some, None, Result, Ok, Err, refl, sym, ap, ◌∙◌, arith, inl, inr}
use Rattle.mach_dyld.proofs.BindNames.{length, Bool, true, false, cond, malformed}
use Rattle.mach_dyld.proofs.BindNames.{slice_get, found_or_malformed, ◌>>=◌, bind_ok, same_ok, Fault, Input, Bind, Import, Target, target_of, import_of}
use Rattle.mach_dyld.proofs.BindNames.{import_with}
use Rattle.mach_dyld.proofs.BindNames.{text_at}
use Rattle.mach_dyld.proofs.BindAddresses.{target_spot}
use Rattle.mach_parts.specs.Bindings.{Binding, Provider, provider_of}
use Rattle.mach_dyld.specs.Bindings.{SetBefore, is_complete, binding_with}
unfoldable use Rattle.mach_dyld.specs.Bindings.{binding_of, spot_of}
use Rattle.mach_dyld.specs.NamePlaces.{IsNamed, text_or_none}
use Rattle.mach_dyld.specs.SiteCursors.{place_named}
use Rattle.std.proofs.lemmas.Bool.{le-leb}

-- there is no text outside the bytes
pub outside : (bytes : List ℕ) (s : ℕ) → length bytes ≤ s → text_or_none (text_at bytes s) ≡ []
unfolding text_at
outside bytes s out = rw (le-leb (length bytes) s out) refl

-- a text is inside them
pub inside : (bytes : List ℕ) (s : ℕ) (text : List ℕ) → text_at bytes s ≡ Ok text → length bytes ≤ s → ⊥
unfolding text_at
inside bytes s text e out = let x = rw (le-leb (length bytes) s out) at e in cc

pub outside_named : (bytes name : List ℕ) (place : ℕ) → length bytes ≤ place → IsNamed bytes name place → text_or_none (text_at bytes (length bytes)) ≡ name
outside_named bytes name place out (inl none) = outside bytes (length bytes) (omega arith) ∙ sym none.0
outside_named bytes name place out (inr there) = absurd (inside bytes place name there out)

pub place_outside : (bytes name : List ℕ) (place : ℕ) → length bytes ≤ place → IsNamed bytes name place
    → place_named (text_at bytes (length bytes)) (length bytes) ≡ place
unfolding text_at
place_outside bytes name place out (inl none) = rw (le-leb (length bytes) (length bytes) (omega arith), none.1) refl
place_outside bytes name place out (inr there) = absurd (inside bytes place name there out)

-- a name that is read at its place again has that place
place_read : (there : Result (List ℕ) Fault) (place : ℕ) → place ≡ 2 ^ 64 - 1 → place_named there place ≡ place
place_read (Ok text) place e = refl
place_read (Err f) place e = sym e

pub place_inside : (bytes name : List ℕ) (place : ℕ) → IsNamed bytes name place → place_named (text_at bytes place) place ≡ place
place_inside bytes name place (inl none) = place_read (text_at bytes place) place none.1
place_inside bytes name place (inr there) = rw there refl

-- the library of a target
found_text : (o : Option (List ℕ)) (s : List ℕ) → found_or_malformed o ≡ Ok s → o ≡ Some s
found_text None s e = absurd (cc)
found_text (Some r) s e = ap (λ (q : List ℕ). Some q) (same_ok e)

target_library : (x : Input) (number k offset : ℕ) (t : Target) → target_of x number k offset ≡ Ok t → slice_get x.libs number ≡ Some t.dylib
target_library x number k offset t e =
    let p = target_spot x number k offset t e in found_text (slice_get x.libs number) p.0 p.1 ∙ ap (λ (y : Target). Some y.dylib) p.2.made

-- the name and the library of an import
pub import_reports : (x : Input) (b : Bind) (i : Import) → import_of x b ≡ Ok i → (b.name ≡ i.name) × (slice_get x.libs b.library ≡ Some i.dylib)
unfolding import_of
import_reports x b i e =
    let t = bind_ok (target_of x b.library b.segment b.offset) (λ (t : Target). Ok (import_with b t)) i e in
    let same : import_with b t.0 ≡ i = same_ok t.2 in
    (ap (λ (j : Import). j.name) same, target_library x b.library b.segment b.offset t.0 t.1 ∙ ap (λ (j : Import). Some j.dylib) same)

abbrev made_with : Input → SetBefore → Bind → Result Binding Fault
made_with x g b =
    provider_of x.libs g.ordinal >>= λ (p : Provider). spot_of x.pointer x.segments b.segment b.offset >>= λ (s : ℕ × ℕ). Ok (binding_with b p s)

-- a binding is complete, and has a provider and a spot
pub made_of : (x : Input) (g : SetBefore) (b : Bind) (i : Binding) → binding_of x g b ≡ Ok i
    → (p : Provider) × (s : ℕ × ℕ) × (is_complete g ≡ true) × (provider_of x.libs g.ordinal ≡ Ok p)
    × (spot_of x.pointer x.segments b.segment b.offset ≡ Ok s) × (binding_with b p s ≡ i)
unfolding binding_of
made_of x g b i e = by_test (is_complete g) refl e
  where
    by_test : (t : Bool) → is_complete g ≡ t → cond t (made_with x g b) (Err malformed) ≡ Ok i
        → (p : Provider) × (s : ℕ × ℕ) × (is_complete g ≡ true) × (provider_of x.libs g.ordinal ≡ Ok p)
        × (spot_of x.pointer x.segments b.segment b.offset ≡ Ok s) × (binding_with b p s ≡ i)
    by_test true t e =
        let p = bind_ok (provider_of x.libs g.ordinal)
        (λ (p : Provider). spot_of x.pointer x.segments b.segment b.offset >>= λ (s : ℕ × ℕ). Ok (binding_with b p s)) i e in
        let s = bind_ok (spot_of x.pointer x.segments b.segment b.offset) (λ (s : ℕ × ℕ). Ok (binding_with b p.0 s)) i p.2 in
        (p.0, s.0, t, p.1, s.1, same_ok s.2)
    by_test false t e = absurd (cc)

-- the name of a binding
pub binding_reports : (x : Input) (g : SetBefore) (b : Bind) (i : Binding) → binding_of x g b ≡ Ok i → b.name ≡ i.name
binding_reports x g b i e = let made = made_of x g b i e in ap (λ (j : Binding). j.name) made.5

-- a name that is known is there
pub occurs : (bytes name : List ℕ) (place : ℕ) → IsNamed bytes name place → (name ≡ []) ⊎ (text_at bytes place ≡ Ok name)
occurs bytes name place (inl none) = inl none.0
occurs bytes name place (inr there) = inr there
