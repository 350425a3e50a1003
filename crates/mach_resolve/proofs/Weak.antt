-- Weak lookups, file by file.
use Rattle.std.proofs.Common.{◌≡◌, ◌∙◌, ◌+◌, ◌<◌, ◌≤◌, ℕ, Bool, true, false, List, [], Option, Some, None, unwrap_or, length, take, get_or, refl, sym, ap}
use Rattle.std.proofs.Common.{subst, inl, inr}
use Rattle.std.specs.Prelude.{All, slice_get, IfSome, IfNone, if◌then◌else◌}
use Rattle.std.proofs.lemmas.List.{take_all}
use Rattle.std.proofs.lemmas.List.Elements.{All-nil, All-more, All-weaker}
use Rattle.std.proofs.lemmas.Option.{none-some, slice_get-get_or, get_or_from_slice_get}
use Rattle.std.proofs.lemmas.Bool.{false≢true}
use Rattle.mach_dyld.specs.Trie.{Info}
use Rattle.mach_resolve.specs.Files.{File}
use Rattle.mach_resolve.specs.Follow as follow
use Rattle.mach_resolve.specs.Special.{DefinesNot, NotStrong, DefinesFirst, IsWeakLookup, strong, weak, nowhere}
use Rattle.mach_resolve.specs.ResolveViews.{IsDefinition, place_view_of, strong_place, first_place}
use Rattle.mach_resolve.specs.declared.follow.NamePlace.{NamePlace}
use Rattle.mach_resolve.specs.declared.special.Definition.{Definition}

-- any file at all
abbrev pub some_file : File
some_file = record { number = 0; name = []; is_main = false; reexports = []; trie = None; libs = [] }

-- what is known of the first files: none of them defines the name; or this is the first definition, and none is strong
abbrev pub WeakSoFar : List File → List ℕ → ℕ → Option NamePlace → Type 0
WeakSoFar files name k None = All (λ f. DefinesNot f name) (take k files)
WeakSoFar files name k (Some place) =
    All (NotStrong name) (take k files) × (i : ℕ) × (g : File) × (info : Info) × (address : ℕ)
    × DefinesFirst files name (λ f. DefinesNot f name) i g info address
    × (place_view_of place ≡ follow.found g.number g.name address (follow.is_absolute info))

pub none_so_far : (files : List File) (name : List ℕ) → WeakSoFar files name 0 None
none_so_far files name = All-nil (λ f. DefinesNot f name)

-- the file at k, if it is there
here : (files : List File) (k : ℕ) (P : File → Type 0) → k < length files → ((g : File) → slice_get files k ≡ Some g → P g) → P (get_or files k some_file)
here files k P inside is = is (get_or files k some_file) (slice_get-get_or files k some_file inside)

-- one more file, which doesn't define the name
pub one_lacks : (files : List File) (name : List ℕ) (k : ℕ) (o : Option NamePlace) → k < length files
    → ((g : File) → slice_get files k ≡ Some g → DefinesNot g name) → WeakSoFar files name k o → WeakSoFar files name (k + 1) o
one_lacks files name k None inside lacks before =
    All-more (λ f. DefinesNot f name) files k some_file inside before (here files k (λ f. DefinesNot f name) inside lacks)
one_lacks files name k (Some place) inside lacks before = (
  All-more (NotStrong name) files k some_file inside before.0 (here files k (NotStrong name) inside (λ g is. inl (lacks g is))),
  before.1,
  before.2,
  before.3,
  before.4,
  before.5,
  before.6,
)

same_file : (files : List File) (k : ℕ) (g : File) → slice_get files k ≡ Some g → k < length files → get_or files k some_file ≡ g
same_file files k g is inside = get_or_from_slice_get files k g some_file is

not_strong : (files : List File) (name : List ℕ) (k : ℕ) (d : Definition) → IsDefinition files k name d → d.is_weak ≡ true → k < length files
    → NotStrong name (get_or files k some_file)
not_strong files name k d is on inside =
    subst (NotStrong name) (sym (same_file files k is.file is.listed inside)) (inr (is.info, is.address, is.defines, is.weak.0 on))

-- one more file, which defines it weakly: the definition is kept if there was none before
pub one_weak : (files : List File) (name : List ℕ) (k : ℕ) (d : Definition) → k < length files → IsDefinition files k name d → d.is_weak ≡ true
    → WeakSoFar files name k None → WeakSoFar files name (k + 1) (Some d.place)
one_weak files name k d inside is on before = (
  All-more (NotStrong name) files k some_file inside (All-weaker (λ f. DefinesNot f name) (NotStrong name) (λ f lacks. inl lacks) (take k files) before)
      (not_strong files name k d is on inside),
  k,
  is.file,
  is.info,
  is.address,
  record { listed = is.listed; defines = is.defines; before = before },
  is.place_is,
)

pub other_weak : (files : List File) (name : List ℕ) (k : ℕ) (d : Definition) (place : NamePlace) → k < length files → IsDefinition files k name d
    → d.is_weak ≡ true → WeakSoFar files name k (Some place) → WeakSoFar files name (k + 1) (Some place)
other_weak files name k d place inside is on before = (
  All-more (NotStrong name) files k some_file inside before.0 (not_strong files name k d is on inside),
  before.1,
  before.2,
  before.3,
  before.4,
  before.5,
  before.6,
)

all_not_strong : (files : List File) (name : List ℕ) (k : ℕ) (o : Option NamePlace) → WeakSoFar files name k o → All (NotStrong name) (take k files)
all_not_strong files name k None before = All-weaker (λ f. DefinesNot f name) (NotStrong name) (λ f lacks. inl lacks) (take k files) before
all_not_strong files name k (Some place) before = before.0

-- the first definition that isn't weak
pub one_strong : (files : List File) (name : List ℕ) (k : ℕ) (o : Option NamePlace) (d : Definition) → IsDefinition files k name d → d.is_weak ≡ false
    → WeakSoFar files name k o → IsWeakLookup files name (place_view_of d.place)
one_strong files name k o d is off before =
    subst (IsWeakLookup files name) (sym is.place_is)
    (strong k is.file is.info is.address
    (record { listed = is.listed; defines = is.defines; before = all_not_strong files name k o before })
    (λ w. false≢true (sym off ∙ is.weak.1 w)))

weak_by : (b : Bool) (place : NamePlace) → ◌≡◌ {A = Option NamePlace} (if b then None else Some place) None → b ≡ true
weak_by true place e = refl
weak_by false place e = absurd (none-some place (sym e))

-- one more file was searched, and none of the definitions is strong
pub one_more : (files : List File) (name : List ℕ) (k : ℕ) (o : Option NamePlace) (found : Option Definition) (new : Option NamePlace) → k < length files
    → IfSome found (IsDefinition files k name) → IfNone found ((g : File) → slice_get files k ≡ Some g → DefinesNot g name)
    → strong_place found ≡ None → new ≡ first_place o found → WeakSoFar files name k o → WeakSoFar files name (k + 1) new
one_more files name k None None new inside is lacks off e before =
    subst (WeakSoFar files name (k + 1)) (sym e) (one_lacks files name k None inside lacks before)
one_more files name k (Some place) None new inside is lacks off e before =
    subst (WeakSoFar files name (k + 1)) (sym e) (one_lacks files name k (Some place) inside lacks before)
one_more files name k None (Some d) new inside is lacks off e before =
    subst (WeakSoFar files name (k + 1)) (sym e) (one_weak files name k d inside is (weak_by d.is_weak d.place off) before)
one_more files name k (Some place) (Some d) new inside is lacks off e before =
    subst (WeakSoFar files name (k + 1)) (sym e) (other_weak files name k d place inside is (weak_by d.is_weak d.place off) before)

strong_by : (b : Bool) (place p : NamePlace) → ◌≡◌ {A = Option NamePlace} (if b then None else Some place) (Some p) → (b ≡ false) × (place ≡ p)
strong_by true place p e = absurd (none-some p e)
strong_by false place p e = (refl, ap (λ (o : Option NamePlace). unwrap_or o place) e)

-- this is the first strong definition, if it is one
pub one_answers : (files : List File) (name : List ℕ) (k : ℕ) (o : Option NamePlace) (found : Option Definition) (place : NamePlace)
    → IfSome found (IsDefinition files k name) → strong_place found ≡ Some place → WeakSoFar files name k o → IsWeakLookup files name (place_view_of place)
one_answers files name k o None place is e before = absurd (none-some place e)
one_answers files name k o (Some d) place is e before =
    let parts = strong_by d.is_weak d.place place e in
    subst (λ (p : NamePlace). IsWeakLookup files name (place_view_of p)) parts.1 (one_strong files name k o d is parts.0 before)

-- all files were searched
pub selected : (files : List File) (name : List ℕ) (k : ℕ) (place : NamePlace) → length files ≤ k → WeakSoFar files name k (Some place)
    → IsWeakLookup files name (place_view_of place)
selected files name k place all before =
    subst (IsWeakLookup files name) (sym before.6)
    (weak before.1 before.2 before.3 before.4 before.5 (subst (All (NotStrong name)) (take_all k files all) before.0))

pub selected_none : (files : List File) (name : List ℕ) (k : ℕ) → length files ≤ k → WeakSoFar files name k None → IsWeakLookup files name follow.not_found
selected_none files name k all before = nowhere (subst (All (λ f. DefinesNot f name)) (take_all k files all) before)
