-- Entries that are audited in order, one after the other.
use Rattle.std.proofs.Common.{◌≡◌, ◌∙◌, ◌+◌, ◌<◌, ◌≤◌, ◌++◌, ◌∷◌, [], ℕ, List, length, get_or, take, sym, ap, subst, arith, take_all}
use Rattle.std.proofs.lemmas.List.{take_more}
use Rattle.std.proofs.lemmas.List.FromFn.{get_or-enumerate_from, length-enumerate_from}
use Rattle.std.specs.List.{enumerate_from}
use Rattle.std.specs.Prelude.{max}
use Rattle.mach_cli.specs.Failures.{IfMemory}
use Rattle.mach_cli.specs.InOrder.{InOrder, first_then, none_left}
use Rattle.mach_cli.specs.declared.failure.ShowFailure.{ShowFailure}
use Rattle.mach_cli.specs.declared.failure.ShowFailure.TheVariants.{Memory, Unwritten}

-- what holds if memory ran out
pub IfMemory-weaker : {P Q : Type 0} (e : ShowFailure) → (P → Q) → IfMemory P e → IfMemory Q e
IfMemory-weaker Memory weaker holds = weaker holds
IfMemory-weaker (Unwritten e) weaker holds = tt

max_of_none : (status : ℕ) → max status 0 ≡ max 0 status
max_of_none status = omega arith

max_of_three : (a b c : ℕ) → max a (max b c) ≡ max (max a b) c
max_of_three a b c = omega arith

module _ {X W : Type 0} (Shows : X → W → W → ℕ → Type 0) where
  -- one more after those that are shown
  one_after : (xs : List X) (x : X) (old between new : W) (worst status : ℕ) → InOrder Shows xs old between worst → Shows x between new status
      → InOrder Shows (xs ++ x ∷ []) old new (max worst status)
  one_after [] x old between new worst status (none_left writer) one =
      subst (InOrder Shows (x ∷ []) old new) (max_of_none status) (first_then x [] old new new status 0 one (none_left new))
  one_after (y ∷ ys) x old between new worst status (first_then _ _ _ mid _ first more shown rest) one =
      subst (InOrder Shows (y ∷ (ys ++ x ∷ [])) old new) (max_of_three first more status)
      (first_then y (ys ++ x ∷ []) old mid new first (max more status) shown (one_after ys x mid between new more status rest one))

module _ {A W : Type 0} (Shows : ℕ × A → W → W → ℕ → Type 0) (items : List A) where
  -- the first i are shown, and then the next
  pub next_after : (i : ℕ) (d : A) (old between new : W) (worst status : ℕ) → i < length items
      → InOrder Shows (take i (enumerate_from 0 items)) old between worst → Shows (i, get_or items i d) between new status
      → InOrder Shows (take (i + 1) (enumerate_from 0 items)) old new (max worst status)
  next_after i d old between new worst status inside before one =
      let all = enumerate_from 0 items in
      let count = length-enumerate_from 0 items in
      let same : 0 + i ≡ i = omega arith in
      let is : get_or all i (0, d) ≡ (i, get_or items i d) =
      get_or-enumerate_from 0 items i (0, d) inside ∙ ap {B = ℕ × A} (λ (k : ℕ). (k, get_or items i d)) same in
      let more = take_more all i (0, d) (omega (arith, inside, count)) ∙ ap (λ (x : ℕ × A). take i all ++ x ∷ []) is in
      subst (λ (xs : List (ℕ × A)). InOrder Shows xs old new (max worst status)) (sym more)
      (one_after Shows (take i all) (i, get_or items i d) old between new worst status before one)

  -- the first i are all
  pub all_after : (i : ℕ) (old new : W) (worst : ℕ) → length items ≤ i → InOrder Shows (take i (enumerate_from 0 items)) old new worst
      → InOrder Shows (enumerate_from 0 items) old new worst
  all_after i old new worst past shown =
      let all = enumerate_from 0 items in
      subst (λ (xs : List (ℕ × A)). InOrder Shows xs old new worst) (take_all i all (omega (arith, past, length-enumerate_from 0 items))) shown
