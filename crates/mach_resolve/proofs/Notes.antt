-- The notes made on a way, and the failures that are reported.
use Rattle.std.proofs.Common.{◌≡◌, ◌∙◌, ◌<◌, ℕ, Bool, true, false, not, List, [], ◌∷◌, ◌++◌, length, map, refl, sym, ap, subst, arith, length-append}
use Rattle.std.specs.Prelude.{Result, Ok, Err, IfErr, if◌then◌else◌, nat_lt}
use Rattle.std.specs.List.{list_any}
use Rattle.std.specs.Result.{IsErrAnd}
use Rattle.std.proofs.lemmas.Bool.{true≢false, false≢true}
use Rattle.std.proofs.lemmas.Bool.Decides.{Decides-ltb}
use Rattle.std.proofs.lemmas.List.{map_push}
use Rattle.mach_base.specs.Among.{IsAmong}
use Rattle.mach_base.specs.Fault.{Fault}
use Rattle.mach_base.specs.declared.error.Error.{Error}
use Rattle.mach_base.specs.declared.error.Error.TheVariants.{Malformed, BadMagic, Scroll, BufferTooShort, Memory}
use Rattle.goblin_mach.specs.View.{ReportsFault}
use Rattle.mach_resolve.specs.Failures.{IsFailure}
use Rattle.mach_resolve.specs.ResolveViews.{symbol_view_of}
use Rattle.mach_resolve.specs.declared.failure.ResolveFailure.{ResolveFailure}
use Rattle.mach_resolve.specs.declared.failure.ResolveFailure.TheVariants as failures
use Rattle.mach_resolve.specs.declared.follow.Symbol.{Symbol}
use Rattle.mach_resolve.proofs.Steps.{is_same, among_met, met_among}

abbrev ok_or_not : {E : Type 0} → Bool → Result Bool E → Bool
ok_or_not d (Ok b) = b
ok_or_not d (Err e) = d

pub ok_is : {E : Type 0} (a b : Bool) → ◌≡◌ {A = Result Bool E} (Ok a) (Ok b) → a ≡ b
ok_is {E} a b e = ap (ok_or_not {E = E} a) e

pub not_true : (b : Bool) → not b ≡ true → b ≡ false
not_true true e = absurd (false≢true e)
not_true false e = refl

pub not_false : (b : Bool) → not b ≡ false → b ≡ true
not_false true e = refl
not_false false e = absurd (true≢false e)

abbrev inserted : Bool → List Symbol → Symbol → List Symbol
inserted b old s = if b then old else old ++ s ∷ []

fresh_by : (b : Bool) (s : Symbol) (old new : List Symbol) (n m : ℕ) → list_any (is_same s) old ≡ b → new ≡ inserted b old s → n ≡ length old → m ≡ length new
    → n < m → (map symbol_view_of new ≡ map symbol_view_of old ++ symbol_view_of s ∷ []) × (IsAmong (symbol_view_of s) (map symbol_view_of old) → ⊥)
fresh_by true s old new n m there is few many less = let same = ap length is in absurd (omega arith)
fresh_by false s old new n m there is few many less = (
  ap (map symbol_view_of) is ∙ map_push symbol_view_of old s,
  λ among. true≢false (sym (met_among s old among) ∙ there),
)

pub fresh : (s : Symbol) (old new : List Symbol) (n m : ℕ) → new ≡ inserted (list_any (is_same s) old) old s → n ≡ length old → m ≡ length new
    → nat_lt n m ≡ true → (map symbol_view_of new ≡ map symbol_view_of old ++ symbol_view_of s ∷ []) × (IsAmong (symbol_view_of s) (map symbol_view_of old) → ⊥)
fresh s old new n m is few many less = fresh_by (list_any (is_same s) old) s old new n m refl is few many ((Decides-ltb n m).0 less)

again_by : (b : Bool) (s : Symbol) (old new : List Symbol) (n m : ℕ) → list_any (is_same s) old ≡ b → new ≡ inserted b old s → n ≡ length old → m ≡ length new
    → nat_lt n m ≡ false → IsAmong (symbol_view_of s) (map symbol_view_of old)
again_by true s old new n m there is few many off = among_met s old there
again_by false s old new n m there is few many off =
    let long = ap length is ∙ length-append old (s ∷ []) in
    absurd (true≢false (sym ((Decides-ltb n m).1 (omega arith)) ∙ off))

pub again : (s : Symbol) (old new : List Symbol) (n m : ℕ) → new ≡ inserted (list_any (is_same s) old) old s → n ≡ length old → m ≡ length new
    → nat_lt n m ≡ false → IsAmong (symbol_view_of s) (map symbol_view_of old)
again s old new n m is few many off = again_by (list_any (is_same s) old) s old new n m refl is few many off

pub reports_more : (P Q : Fault → Type 0) (e : Error) → ((f : Fault) → P f → Q f) → ReportsFault P e → ReportsFault Q e
reports_more P Q (Malformed msg) more t = more _ t
reports_more P Q (BadMagic magic) more t = more _ t
reports_more P Q (Scroll e) more t = more _ t
reports_more P Q (BufferTooShort count what) more t = more _ t
reports_more P Q (Memory e) more t = t

-- a failure that is one of some faults is one of a larger set of faults
pub fails_more : (P Q : ℕ → Fault → Type 0) (x : ResolveFailure) → ((n : ℕ) (f : Fault) → P n f → Q n f) → IsFailure P x → IsFailure Q x
fails_more P Q (failures.Refused file error) more t = reports_more (P file) (Q file) error (more file) t
fails_more P Q failures.Memory more t = tt

-- a refused allocation is a failure
pub memory_fails : {T : Type 0} (P : ℕ → Fault → Type 0) (r : Result T ResolveFailure) → IsErrAnd r (λ x. x ≡ failures.Memory) → IfErr r (IsFailure P)
memory_fails P (Ok x) h = absurd h
memory_fails P (Err x) h = subst (IsFailure P) (sym h) tt
