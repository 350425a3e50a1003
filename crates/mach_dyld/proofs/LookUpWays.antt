-- Which branches of a node match, one branch after the other.
use Rattle.std.proofs.Common.{◌≡◌, ◌<◌, ◌≤◌, ℕ, zero, suc, List, [], ◌∷◌, ◌++◌, ◌⊎◌, inl, inr, length, Option, Some, None, refl, sym, subst}
use Rattle.std.specs.Prelude.{slice_get}
use Rattle.mach_dyld.specs.Trie.{Info, Branch, Trie}
use Rattle.mach_dyld.specs.Finds.{Finds, BranchesFind, at_nothing, none_left, passed, following, gone_back}
use Rattle.mach_dyld.specs.LookUpState.{Goes}
use Rattle.mach_dyld.specs.declared.trie.look_up.Branching.{Branching}
use Rattle.mach_dyld.specs.declared.trie.look_up.Branching.TheVariants.{Nowhere, One, Several}
use Rattle.mach_dyld.proofs.Beginnings.{begins_or_not}

module _ (t : Trie) (rest : List ℕ) where
  -- nothing is found through some branches: those after them decide
  none_then : (xs ys : List Branch) (nothing found : Option Info) → BranchesFind t rest xs nothing → nothing ≡ None → BranchesFind t rest ys found
      → BranchesFind t rest (xs ++ ys) found
  none_then [] ys nothing found (none_left e) is more = more
  none_then (b ∷ xs) ys nothing found (passed other finds) is more = passed other (none_then xs ys nothing found finds is more)
  none_then (b ∷ xs) ys nothing found (following others info r finds e) is more = absurd (cc)
  none_then (b ∷ xs) ys nothing found (gone_back others r absent finds) is more = gone_back others r absent (none_then xs ys nothing found finds is more)

  -- nothing is found through the branches after some, which decide
  then_none : (xs ys : List Branch) (found : Option Info) → BranchesFind t rest xs found → BranchesFind t rest ys None → BranchesFind t rest (xs ++ ys) found
  then_none [] ys found (none_left e) over = subst (BranchesFind t rest ys) (sym e) over
  then_none (b ∷ xs) ys found (passed other finds) over = passed other (then_none xs ys found finds over)
  then_none (b ∷ xs) ys found (following others info r finds e) over = following others info r finds e
  then_none (b ∷ xs) ys found (gone_back others r absent finds) over = gone_back others r absent (then_none xs ys found finds over)

  still_there : (xs ys : List Branch) (k : ℕ) (b : Branch) → slice_get xs k ≡ Some b → slice_get (xs ++ ys) k ≡ Some b
  still_there [] ys k b e = absurd (cc)
  still_there (x ∷ xs) ys zero b e = e
  still_there (x ∷ xs) ys (suc k) b e = still_there xs ys k b e

  last_there : (xs : List Branch) (b : Branch) → slice_get (xs ++ b ∷ []) (length xs) ≡ Some b
  last_there [] b = refl
  last_there (x ∷ xs) b = last_there xs b

  pub one_passed : (b : Branch) (found : Option Info) (bs : List Branch) → (t.upto ≤ b.start) ⊎ ((others : List ℕ) → rest ≡ b.label ++ others → ⊥)
      → BranchesFind t rest bs found → BranchesFind t rest (b ∷ bs) found
  one_passed b found bs h finds = elim (begins_or_not b.label rest) [
    | inr other ↦ passed other finds
    | inl spells ↦ elim h [
      | inl out ↦ gone_back spells.0 spells.1 (at_nothing out refl) finds
      | inr other ↦ absurd (other spells.0 spells.1)
    ]
  ]

  one_decides : (b : Branch) (others : List ℕ) (found : Option Info) → rest ≡ b.label ++ others → Finds t b.start others found
      → BranchesFind t rest (b ∷ []) found
  one_decides b others None r finds = gone_back others r finds (none_left refl)
  one_decides b others (Some info) r finds = following others info r finds refl

  pub begins : Goes t rest [] Nowhere
  begins = none_left refl

  pub stays : (front : List Branch) (b : Branch) (way : Branching) → Goes t rest front way → (t.upto ≤ b.start) ⊎ ((others : List ℕ)
      → rest ≡ b.label ++ others → ⊥)
      → Goes t rest (front ++ b ∷ []) way
  stays front b (Nowhere) goes h = none_then front (b ∷ []) None None goes refl (one_passed b None [] h (none_left refl))
  stays front b (One start len) goes h = record {
    number = goes.number;
    branch = goes.branch;
    others = goes.others;
    there = still_there front (b ∷ []) goes.number goes.branch goes.there;
    start_is = goes.start_is;
    len_is = goes.len_is;
    inside = goes.inside;
    spells = goes.spells;
    finds = λ found f. then_none front (b ∷ []) found (goes.finds found f) (one_passed b None [] h (none_left refl));
  }
  stays front b (Several) goes h = tt

  pub takes : (front : List Branch) (b : Branch) → BranchesFind t rest front None → (b.start < t.upto) × (others : List ℕ) × (rest ≡ b.label ++ others)
      → Goes t rest (front ++ b ∷ []) (One b.start (length b.label))
  takes front b over h = record {
    number = length front;
    branch = b;
    others = h.1;
    there = last_there front b;
    start_is = refl;
    len_is = refl;
    inside = h.0;
    spells = h.2;
    finds = λ found f. none_then front (b ∷ []) None found over refl (one_decides b h.1 found h.2 f);
  }
