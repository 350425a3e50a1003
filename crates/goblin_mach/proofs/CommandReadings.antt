-- Reading the commands on a subject, one by one.
use Rattle.std.proofs.Common.{◌≡◌, ℕ, zero, suc, ◌+◌, ◌<◌, ◌≤◌, true, false, List, [], ◌∷◌, ◌++◌, length, map, drop, get_or, Option, Some, None, Result, Err}
use Rattle.std.proofs.Common.{Ok, take, inl, inr, refl, sym, ap, subst, ◌∙◌, arith, add-one}
use Rattle.std.specs.Prelude.{option_map}
use Rattle.std.specs.Option.{is_some}
use Rattle.mach_base.specs.declared.error.Error.{Error}
use Rattle.mach_base.specs.Fault.{Fault}
use Rattle.mach_load.specs.declared.load_command.LoadCommand.{LoadCommand}
use Rattle.mach_load.specs.Command.{Command}
use Rattle.mach_load.specs.Variants.{command_of}
use Rattle.mach_base.specs.Among.{IsAmong}
use Rattle.goblin_mach.specs.Readings.{Reading, keep, values_read, read_of, last_or, last_of, first_of, IsRead, IsRefused, AllRead, IsUnread, view_of_read}

-- the commands from one on begin with it
pub from_here : (xs : List LoadCommand) (i : ℕ) (d : LoadCommand) → i < length xs
    → drop i (map command_of xs) ≡ command_of (get_or xs i d) ∷ drop (i + 1) (map command_of xs)
from_here [] i d lt = absurd (omega arith)
from_here (x ∷ xs) zero d lt = refl
from_here (x ∷ xs) (suc i) d lt = rw add-one (rw add-one at (from_here xs i d (omega arith)))

pub among_here : (xs : List LoadCommand) (i : ℕ) (d : LoadCommand) → i < length xs → IsAmong (command_of (get_or xs i d)) (map command_of xs)
among_here [] i d lt = absurd (omega arith)
among_here (x ∷ xs) zero d lt = inl refl
among_here (x ∷ xs) (suc i) d lt = inr (among_here xs i d (omega arith))

-- how the reading continues at the next of some commands, by its result
module _ {X V : Type 0} (view : X → V) (reading : Reading V) (xs : List LoadCommand) (i : ℕ) (d : LoadCommand) (lt : i < length xs)
    (r s : Option (Result X Error)) (seen : view_of_read view r ≡ reading (command_of (get_or xs i d))) (is : r ≡ s) where
  abbrev left : ℕ → List Command
  left k = drop k (map command_of xs)

  this : reading (command_of (get_or xs i d)) ≡ view_of_read view s
  this = sym seen ∙ ap (view_of_read view) is

  pub stepped : read_of reading (left i) ≡ keep (view_of_read view s) (read_of reading (left (i + 1)))
  stepped = ap (read_of reading) (from_here xs i d lt) ∙ ap (λ x. keep x (read_of reading (left (i + 1)))) this

  pub all_stepped : IsRead (view_of_read view s) → AllRead reading (left (i + 1)) → AllRead reading (left i)
  all_stepped one rest = subst (AllRead reading) (sym (from_here xs i d lt)) (subst IsRead (sym this) one, rest)

  -- or it can't be read
  pub missed : (f : Fault) → view_of_read view s ≡ Some (Err f) → IsUnread reading (map command_of xs) f
  missed f e = record { command = command_of (get_or xs i d); among = among_here xs i d lt; fault = this ∙ e }

-- the first commands and the next one
pub taken-next : (xs : List LoadCommand) (i : ℕ) (d : LoadCommand) → i < length xs
    → take (i + 1) (map command_of xs) ≡ take i (map command_of xs) ++ command_of (get_or xs i d) ∷ []
taken-next [] i d lt = absurd (omega arith)
taken-next (x ∷ xs) zero d lt = refl
taken-next (x ∷ xs) (suc i) d lt =
    rw add-one (ap (λ (cs : List Command). command_of x ∷ cs) (rw add-one at (taken-next xs i d (omega arith))))

pub taken-all : (xs : List LoadCommand) (i : ℕ) → length xs ≤ i → take i (map command_of xs) ≡ map command_of xs
taken-all [] zero past = refl
taken-all [] (suc i) past = refl
taken-all (x ∷ xs) zero past = absurd (omega arith)
taken-all (x ∷ xs) (suc i) past = ap (λ (cs : List Command). command_of x ∷ cs) (taken-all xs i (omega arith))

keep-append : {V : Type 0} (found : Option (Result V Fault)) (xs ys : List V) → keep found (xs ++ ys) ≡ keep found xs ++ ys
keep-append None xs ys = refl
keep-append (Some (Ok v)) xs ys = refl
keep-append (Some (Err f)) xs ys = refl

module _ {V : Type 0} (reading : Reading V) where
  read-more : (cs : List Command) (c : Command) → read_of reading (cs ++ c ∷ []) ≡ read_of reading cs ++ values_read (reading c)
  read-more [] c = refl
  read-more (d ∷ cs) c = ap (keep (reading d)) (read-more cs c) ∙ keep-append (reading d) (read_of reading cs) (values_read (reading c))

  last-more : (d : Option V) (xs ys : List V) → last_or d (xs ++ ys) ≡ last_or (last_or d xs) ys
  last-more d [] ys = refl
  last-more d (x ∷ xs) ys = last-more (Some x) xs ys

  -- what was read from some commands and one more
  pub kept_more : (cs : List Command) (c : Command) (old new : List V) → old ≡ read_of reading cs → new ≡ old ++ values_read (reading c)
      → new ≡ read_of reading (cs ++ c ∷ [])
  kept_more cs c old new was is = is ∙ ap (λ (vs : List V). vs ++ values_read (reading c)) was ∙ sym (read-more cs c)

  pub last_kept : (cs : List Command) (c : Command) (old new : Option V) → old ≡ last_of (read_of reading cs) → new ≡ last_or old (values_read (reading c))
      → new ≡ last_of (read_of reading (cs ++ c ∷ []))
  last_kept cs c old new was is =
      is ∙ ap (λ (d : Option V). last_or d (values_read (reading c))) was ∙ sym (ap last_of (read-more cs c)
      ∙ last-more None (read_of reading cs) (values_read (reading c)))

  pub all_more : (cs : List Command) (c : Command) → AllRead reading cs → AllRead reading (c ∷ []) → AllRead reading (cs ++ c ∷ [])
  all_more [] c all one = one
  all_more (d ∷ cs) c all one = (all.0, all_more cs c all.1 one)

  -- the fault of one command is a fault of all
  pub refused_one : (c : Command) (f : Fault) → IsRefused (reading c) f → IsUnread reading (c ∷ []) f
  refused_one c f e = record { command = c; among = inl refl; fault = e }

  pub unread_among : (c : Command) (cs : List Command) (f : Fault) → IsAmong c cs → IsUnread reading (c ∷ []) f → IsUnread reading cs f
  unread_among c cs f among u =
      let here : u.command ≡ c = elim u.among [ inl is ↦ is | inr none ↦ absurd none ] in
      record { command = c; among = among; fault = subst (λ (x : Command). reading x ≡ Some (Err f)) here u.fault }

-- a value that is seen as it is
seen_itself : {V : Type 0} (o : Option V) → option_map (λ (v : V). v) o ≡ o
seen_itself None = refl
seen_itself (Some v) = refl

pub put_itself : {V : Type 0} (new old : Option V) (found : Option (Result V Fault))
    → option_map (λ (v : V). v) new ≡ last_or (option_map (λ (v : V). v) old) (values_read found) → new ≡ last_or old (values_read found)
put_itself new old found is =
    sym (seen_itself new) ∙ is ∙ ap (λ (o : Option _). last_or o (values_read found)) (seen_itself old)

-- if every command can be read, none has a fault
pub unread-excludes_all : {V : Type 0} (reading : Reading V) (cs : List Command) (f : Fault) → IsUnread reading cs f → AllRead reading cs → ⊥
unread-excludes_all reading [] f u all = absurd u.among
unread-excludes_all {V} reading (c ∷ cs) f u all = elim u.among [
  | inl here ↦
      let read : IsRead (reading u.command) = subst (λ (x : Command). IsRead (reading x)) (sym here) all.0 in
      let wrong = rw u.fault at read in cc
  | inr later ↦ unread-excludes_all reading cs f (record { command = u.command; among = later; fault = u.fault }) all.1
]

-- the first value: the one met already, or the first of those left
abbrev pub first_or : {A : Type 0} → Option A → List A → Option A
first_or None xs = first_of xs
first_or (Some x) xs = Some x

-- if the first was met, nothing changes
pub first_kept : {X V : Type 0} (view : X → V) (met : Option X) (v : V) (vs : List V) → is_some met ≡ true
    → first_or (option_map view met) (v ∷ vs) ≡ first_or (option_map view met) vs
first_kept view None v vs e = absurd (cc)
first_kept view (Some x) v vs e = refl

-- otherwise it is met now
pub first_met : {X V : Type 0} (view : X → V) (met : Option X) (v : V) (vs : List V) → is_some met ≡ false → first_or (option_map view met) (v ∷ vs) ≡ Some v
first_met view None v vs e = refl
first_met view (Some x) v vs e = absurd (cc)
