-- Steps along re-exports, and the failures that are reported.
use Rattle.std.proofs.Common.{◌≡◌, ◌∙◌, ℕ, Bool, true, false, ◌&&◌, ◌||◌, ◌⊎◌, List, [], ◌∷◌, Option, Some, None, Bor, unwrap_or, map, refl, sym, ap, subst}
use Rattle.std.proofs.Common.{inl, inr}
use Rattle.std.specs.Prelude.{bytes_eq}
use Rattle.std.specs.List.{list_any}
use Rattle.std.proofs.lemmas.Bool.{false≢true}
use Rattle.std.proofs.lemmas.Slice.Eq.{bytes_eq-Decides}
use Rattle.mach_base.specs.Among.{IsAmong}
use Rattle.mach_base.specs.Answer.{ErrorMeets}
use Rattle.mach_base.specs.Fault.{Fault}
use Rattle.mach_base.specs.declared.error.Error.{Error}
use Rattle.mach_base.specs.declared.error.Error.TheVariants.{Malformed, BadMagic, Scroll, BufferTooShort, Memory}
use Rattle.mach_dyld.specs.Exports.{text_in}
use Rattle.mach_dyld.specs.Trie.{Info}
use Rattle.mach_resolve.specs.Files.{File}
use Rattle.mach_resolve.specs.Following.{Met, IsAfterAll}
use Rattle.mach_resolve.specs.Follow as follow
use Rattle.mach_resolve.specs.Follow.{IsGiven, HasFirst, IsEnd, at, FollowsTo}
use Rattle.mach_resolve.specs.Special as special
use Rattle.mach_resolve.specs.Special.{IsFlat}
use Rattle.mach_resolve.specs.Failures.{reported_as, IsFailure}
use Rattle.mach_resolve.specs.ResolveViews.{symbol_view_of, LeadsToStep, IsStep}
use Rattle.mach_resolve.specs.declared.follow.Symbol.{Symbol}
use Rattle.mach_resolve.specs.declared.follow.Step.{Step}
use Rattle.mach_resolve.specs.declared.follow.Step.TheVariants.{Leads, Ends}

-- a fault that holds is reported
pub reported : (FaultAt : ℕ → Fault → Type 0) (file : ℕ) (e : Error) → ErrorMeets (FaultAt file) e → IsFailure FaultAt (reported_as file e)
reported FaultAt file (Malformed msg) occurs = occurs
reported FaultAt file (BadMagic magic) occurs = occurs
reported FaultAt file (Scroll e) occurs = occurs
reported FaultAt file (BufferTooShort count what) occurs = occurs
reported FaultAt file (Memory e) occurs = tt

-- the name with which a re-export goes on
pub given_name : (o : Option (Bor (List ℕ))) (name r : Bor (List ℕ)) → r ≡ unwrap_or o name → r.now ≡ unwrap_or (text_in o) name.now
given_name None name r e = ap (λ (b : Bor (List ℕ)). b.now) e
given_name (Some x) name r e = ap (λ (b : Bor (List ℕ)). b.now) e

-- what the first file in the closure of a library leads to
pub is_step : (files : List File) (s : follow.Symbol) (following : Met) (g : File) (info : Info) (st : Step) → IsGiven files s following
    → HasFirst files s.name following.places g info → LeadsToStep g info s.name st → IsStep files s st
is_step files s following g info (Leads next) given has leads = (following, given, g, info, has, leads)
is_step files s following g info (Ends place) given has leads =
    subst (IsEnd files s) (sym leads.2) (at following g info leads.0 given has leads.1)

and_parts : (x y : Bool) → (x && y) ≡ true → (x ≡ true) × (y ≡ true)
and_parts true y e = (refl, e)
and_parts false y e = absurd (false≢true e)

and_both : (x y : Bool) → x ≡ true → y ≡ true → (x && y) ≡ true
and_both true y e f = f
and_both false y e f = absurd (false≢true e)

or_parts : (x y : Bool) → (x || y) ≡ true → (x ≡ true) ⊎ (y ≡ true)
or_parts true y e = inl refl
or_parts false y e = inr e

or_one : (x y : Bool) → (x ≡ true) ⊎ (y ≡ true) → (x || y) ≡ true
or_one true y e = refl
or_one false y (inl e) = absurd (false≢true e)
or_one false y (inr e) = e

-- two symbols are the same if both of their texts are
abbrev pub is_same : Symbol → Symbol → Bool
is_same a b = bytes_eq a.library.now b.library.now && bytes_eq a.name.now b.name.now

pub same_symbol : (a b : Symbol) → is_same a b ≡ true → symbol_view_of a ≡ symbol_view_of b
same_symbol a b e =
    let parts = and_parts (bytes_eq a.library.now b.library.now) (bytes_eq a.name.now b.name.now) e in
    let library = (bytes_eq-Decides a.library.now b.library.now).0 parts.0 in
    let name = (bytes_eq-Decides a.name.now b.name.now).0 parts.1 in
    let one : symbol_view_of a ≡ record { library = b.library.now; name = a.name.now } =
    ap (λ (x : List ℕ). record { library = x; name = a.name.now }) library in
    let two : ◌≡◌ {A = follow.Symbol} (record { library = b.library.now; name = a.name.now }) (symbol_view_of b) =
    ap (λ (x : List ℕ). record { library = b.library.now; name = x }) name in
    one ∙ two

equal_symbol : (a b : Symbol) → symbol_view_of a ≡ symbol_view_of b → is_same a b ≡ true
equal_symbol a b e =
    and_both (bytes_eq a.library.now b.library.now) (bytes_eq a.name.now b.name.now)
    ((bytes_eq-Decides a.library.now b.library.now).1 (ap (λ (s : follow.Symbol). s.library) e))
    ((bytes_eq-Decides a.name.now b.name.now).1 (ap (λ (s : follow.Symbol). s.name) e))

pub among_met : (s : Symbol) (xs : List Symbol) → list_any (is_same s) xs ≡ true → IsAmong (symbol_view_of s) (map symbol_view_of xs)
among_met s [] e = absurd (false≢true e)
among_met s (x ∷ xs) e =
    elim (or_parts (is_same s x) (list_any (is_same s) xs) e) as (λ _. IsAmong (symbol_view_of s) (map symbol_view_of (x ∷ xs))) [
      | inl here ↦ inl (same_symbol s x here)
      | inr there ↦ inr (among_met s xs there)
    ]

pub met_among : (s : Symbol) (xs : List Symbol) → IsAmong (symbol_view_of s) (map symbol_view_of xs) → list_any (is_same s) xs ≡ true
met_among s [] a = absurd a
met_among s (x ∷ xs) (inl e) = or_one (is_same s x) (list_any (is_same s) xs) (inl (equal_symbol s x e))
met_among s (x ∷ xs) (inr a) = or_one (is_same s x) (list_any (is_same s) xs) (inr (met_among s xs a))

-- the place of a name that any file may provide, in the first file that has it
pub is_flat : (files : List File) (all : Met) (g : File) (info : Info) (name : List ℕ) (t : follow.Symbol) (p : follow.SymbolPlace) → IsAfterAll files all
    → HasFirst files name all.places g info → follow.LeadsTo info name t → FollowsTo files [] t p → IsFlat files name p
is_flat files all g info name t p following has leads way = special.further all g info t p following has leads way
