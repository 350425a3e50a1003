-- Visiting the commands of an image one by one.
use Rattle.std.proofs.Common.{◌≡◌, ◌<◌, ◌≤◌, ℕ, zero, suc, ◌+◌, true, false, cond, Bool, List, [], ◌∷◌, ◌++◌, length, map, take, drop, get_or}
use Rattle.std.proofs.Common.{Option, Some, None, refl, ap, ◌∙◌, arith, add-one, append_assoc}
use Rattle.std.proofs.lemmas.List.{drop_all}
use Rattle.std.specs.Prelude.{◌||◌, find, option_to_list}
use Rattle.std.specs.List.{cons_option, list_any}
use Rattle.mach_load.specs.Command.{Command}
use Rattle.mach_load.specs.Variants.{command_of}
use Rattle.mach_load.specs.declared.load_command.LoadCommand.{LoadCommand}
use Rattle.mach_layout.specs.declared.fault.LayoutFault.{LayoutFault}

-- the commands from a number on begin with that one
pub from_here : (xs : List LoadCommand) (i : ℕ) (d : LoadCommand) → i < length xs
    → map command_of (drop i xs) ≡ command_of (get_or xs i d) ∷ map command_of (drop (i + 1) xs)
from_here [] i d lt = absurd (omega arith)
from_here (x ∷ xs) zero d lt = refl
from_here (x ∷ xs) (suc i) d lt = rw add-one (rw add-one at (from_here xs i d (omega arith)))

-- those before the next one begin with those before it
pub before_next : (xs : List LoadCommand) (i : ℕ) (d : LoadCommand) → i < length xs
    → map command_of (take (i + 1) xs) ≡ map command_of (take i xs) ++ command_of (get_or xs i d) ∷ []
before_next [] i d lt = absurd (omega arith)
before_next (x ∷ xs) zero d lt = refl
before_next (x ∷ xs) (suc i) d lt =
    rw add-one (ap (λ (cs : List Command). command_of x ∷ cs) (rw add-one at (before_next xs i d (omega arith))))

-- none are left
pub none_left : (xs : List LoadCommand) (i : ℕ) → length xs ≤ i → map command_of (drop i xs) ≡ []
none_left xs i past = ap (λ (ys : List LoadCommand). map command_of ys) (drop_all i xs past)

-- a fault is put before the rest
pub onto : (o : Option LayoutFault) (xs ys : List LayoutFault) → (xs ++ option_to_list o) ++ ys ≡ xs ++ cons_option o ys
onto None xs ys = append_assoc xs [] ys
onto (Some x) xs ys = append_assoc xs (x ∷ []) ys

-- a test of the next command decides whether one of those from it on passes, or leaves it to those after it
pub any_here : (p : Command → Bool) (xs : List LoadCommand) (i : ℕ) (d : LoadCommand) → i < length xs → p (command_of (get_or xs i d)) ≡ true
    → list_any p (map command_of (drop i xs)) ≡ true
any_here p xs i d lt e =
    ap (list_any p) (from_here xs i d lt) ∙ ap (λ (b : Bool). b || list_any p (map command_of (drop (i + 1) xs))) e

pub any_further : (p : Command → Bool) (xs : List LoadCommand) (i : ℕ) (d : LoadCommand) → i < length xs → p (command_of (get_or xs i d)) ≡ false
    → list_any p (map command_of (drop i xs)) ≡ list_any p (map command_of (drop (i + 1) xs))
any_further p xs i d lt e =
    ap (list_any p) (from_here xs i d lt) ∙ ap (λ (b : Bool). b || list_any p (map command_of (drop (i + 1) xs))) e

pub any_none : (p : Command → Bool) (xs : List LoadCommand) (i : ℕ) → length xs ≤ i → list_any p (map command_of (drop i xs)) ≡ false
any_none p xs i past = ap (list_any p) (none_left xs i past)

-- and likewise which one is the first that passes
pub find_here : (p : Command → Bool) (xs : List LoadCommand) (i : ℕ) (d : LoadCommand) → i < length xs → p (command_of (get_or xs i d)) ≡ true
    → find p (map command_of (drop i xs)) ≡ Some (command_of (get_or xs i d))
find_here p xs i d lt e =
    ap (find p) (from_here xs i d lt)
    ∙ ap (λ (b : Bool). cond b (Some (command_of (get_or xs i d))) (find p (map command_of (drop (i + 1) xs)))) e

pub find_further : (p : Command → Bool) (xs : List LoadCommand) (i : ℕ) (d : LoadCommand) → i < length xs → p (command_of (get_or xs i d)) ≡ false
    → find p (map command_of (drop i xs)) ≡ find p (map command_of (drop (i + 1) xs))
find_further p xs i d lt e =
    ap (find p) (from_here xs i d lt)
    ∙ ap (λ (b : Bool). cond b (Some (command_of (get_or xs i d))) (find p (map command_of (drop (i + 1) xs)))) e

pub find_none : (p : Command → Bool) (xs : List LoadCommand) (i : ℕ) → length xs ≤ i → find p (map command_of (drop i xs)) ≡ None
find_none p xs i past = ap (find p) (none_left xs i past)
