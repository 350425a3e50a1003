-- The first command of each set, among those already visited.
use Rattle.std.proofs.Common.{◌≡◌, ◌≢◌, ◌<◌, ℕ, ◌+◌, true, false, cond, eqb, Bool, List, [], ◌∷◌, ◌++◌, length, map, take, drop, get_or, Option, Some, None}
use Rattle.std.proofs.Common.{inl, inr, refl, sym, ap, ◌∙◌, append-nil, arith, set, eq-eqb}
use Rattle.std.proofs.lemmas.Bool.{cases_eq, ne_eqb}
use Rattle.std.proofs.lemmas.Grind.{get_or-set_at}
use Rattle.std.proofs.lemmas.List.{get_or-set_other}
use Rattle.std.proofs.lemmas.List.Folds.{find-append}
use Rattle.std.specs.Option.{option_or}
use Rattle.std.specs.Prelude.{find, option_map, option_to_list, option_and_then}
use Rattle.std.specs.List.{cons_option}
use Rattle.mach_load.specs.Command.{Command}
use Rattle.mach_load.specs.Variants.{command_of}
use Rattle.mach_load.specs.declared.load_command.LoadCommand.{LoadCommand}
use Rattle.mach_layout.specs.Commands.{command_owner, set_in, is_number, is_of_set, once_more, first_owner, command_again, commands_again}
use Rattle.mach_layout.specs.declared.fault.LayoutFault.{LayoutFault}
use Rattle.mach_layout.specs.declared.fault.Owner.{Owner}
use Rattle.mach_layout.proofs.OneByOne.{from_here, before_next, onto}

-- the fault of the next command comes before the faults of those after it
pub again_next : (fs : List LayoutFault) (xs : List LoadCommand) (i : ℕ) (d : LoadCommand) → i < length xs
    → (fs ++ option_to_list (command_again (map command_of (take i xs)) (command_of (get_or xs i d))))
    ++ commands_again (map command_of (take (i + 1) xs)) (map command_of (drop (i + 1) xs))
    ≡ fs ++ commands_again (map command_of (take i xs)) (map command_of (drop i xs))
again_next fs xs i d lt =
    let before = map command_of (take i xs) in
    let c = command_of (get_or xs i d) in
    let following = map command_of (drop (i + 1) xs) in
    onto (command_again before c) fs (commands_again (map command_of (take (i + 1) xs)) following)
    ∙ ap (λ (b : List Command). fs ++ cons_option (command_again before c) (commands_again b following)) (before_next xs i d lt)
    ∙ ap (λ (left : List Command). fs ++ commands_again before left) (sym (from_here xs i d lt))

or_none : (o : Option Command) → option_map command_owner (option_or o None) ≡ option_map command_owner o
or_none None = refl
or_none (Some c) = refl

or_found : (o p : Option Command) (first : Owner) → option_map command_owner o ≡ Some first → option_map command_owner (option_or o p) ≡ Some first
or_found None p first e = absurd (cc)
or_found (Some c) p first e = e

or_other : (o p : Option Command) → option_map command_owner o ≡ None → option_map command_owner (option_or o p) ≡ option_map command_owner p
or_other None p e = refl
or_other (Some c) p e = absurd (cc)

module _ (before : List Command) (c : Command) (s : ℕ) where
  abbrev next : Bool → Option Command
  next b = cond b (Some c) None

  one_more : (b : Bool) → is_of_set s c ≡ b → first_owner (before ++ c ∷ []) s ≡ option_map command_owner (option_or (find (is_of_set s) before) (next b))
  one_more b e =
      ap (λ (o : Option Command). option_map command_owner o) (find-append (is_of_set s) before (c ∷ []))
      ∙ ap (λ (b : Bool). option_map command_owner (option_or (find (is_of_set s) before) (next b))) e

  -- a command of another set leaves the first one of this set
  pub first_left : is_of_set s c ≡ false → first_owner (before ++ c ∷ []) s ≡ first_owner before s
  first_left e = one_more false e ∙ or_none (find (is_of_set s) before)

  -- and so does any command, if there is a first one
  pub first_kept : (first : Owner) → first_owner before s ≡ Some first → first_owner (before ++ c ∷ []) s ≡ Some first
  first_kept first e =
      ap (λ (o : Option Command). option_map command_owner o) (find-append (is_of_set s) before (c ∷ []))
      ∙ or_found (find (is_of_set s) before) (next (is_of_set s c)) first e

  -- if there is none, one of this set is the first
  pub first_made : first_owner before s ≡ None → is_of_set s c ≡ true → first_owner (before ++ c ∷ []) s ≡ Some (command_owner c)
  first_made none e = one_more true e ∙ or_other (find (is_of_set s) before) (next true) none

-- the fault of a command, by its set and the first of that set
pub again_none : (before : List Command) (c : Command) → set_in c ≡ None → command_again before c ≡ None
again_none before c e = ap (option_and_then (λ (k : ℕ). option_map (once_more c) (first_owner before k))) e

pub again_by : (before : List Command) (c : Command) (s : ℕ) (first : Option Owner) → set_in c ≡ Some s → first_owner before s ≡ first
    → command_again before c ≡ option_map (once_more c) first
again_by before c s first e is =
    ap (option_and_then (λ (k : ℕ). option_map (once_more c) (first_owner before k))) e ∙ ap (option_map (once_more c)) is

pub of_no_set : (c : Command) (s : ℕ) → set_in c ≡ None → is_of_set s c ≡ false
of_no_set c s e = ap (is_number s) e

pub of_set : (c : Command) (s own : ℕ) → set_in c ≡ Some own → is_of_set s c ≡ eqb own s
of_set c s own e = ap (is_number s) e

-- the faults so far, followed by those from the next command on, are the same after the next command
pub reported_on : (fs more all : List LayoutFault) (xs : List LoadCommand) (i : ℕ) (d : LoadCommand) (reported : Option LayoutFault) → i < length xs
    → command_again (map command_of (take i xs)) (command_of (get_or xs i d)) ≡ reported → more ≡ fs ++ option_to_list reported
    → fs ++ commands_again (map command_of (take i xs)) (map command_of (drop i xs)) ≡ all
    → more ++ commands_again (map command_of (take (i + 1) xs)) (map command_of (drop (i + 1) xs)) ≡ all
reported_on fs more all xs i d reported lt is added so_far =
    let following = commands_again (map command_of (take (i + 1) xs)) (map command_of (drop (i + 1) xs)) in
    ap (λ (gs : List LayoutFault). gs ++ following) (added ∙ ap (λ (o : Option LayoutFault). fs ++ option_to_list o) (sym is))
    ∙ again_next fs xs i d lt ∙ so_far

-- the marks hold the first command of each set, among the first ones, as an owner
abbrev pub AreFirsts : List (Option Owner) → List Command → Type 0
AreFirsts marks before = (s : ℕ) → s < 25 → get_or marks s None ≡ first_owner before s

module _ (marks : List (Option Owner)) (xs : List LoadCommand) (i : ℕ) (d : LoadCommand) (lt : i < length xs) where
  abbrev before : List Command
  before = map command_of (take i xs)

  abbrev this : Command
  this = command_of (get_or xs i d)

  with_next : (s : ℕ) → first_owner (map command_of (take (i + 1) xs)) s ≡ first_owner (before ++ this ∷ []) s
  with_next s = ap (λ (cs : List Command). first_owner cs s) (before_next xs i d lt)

  pub firsts_none : AreFirsts marks before → set_in this ≡ None → AreFirsts marks (map command_of (take (i + 1) xs))
  firsts_none were e s few = were s few ∙ sym (with_next s ∙ first_left before this s (of_no_set this s e))

  other_set : (own s : ℕ) → set_in this ≡ Some own → own ≢ s → first_owner before s ≡ first_owner (map command_of (take (i + 1) xs)) s
  other_set own s e ne = sym (with_next s ∙ first_left before this s (of_set this s own e ∙ ne_eqb own s ne))

  pub firsts_kept : (own : ℕ) (first : Owner) → own < 25 → AreFirsts marks before → set_in this ≡ Some own → get_or marks own None ≡ Some first
      → AreFirsts marks (map command_of (take (i + 1) xs))
  firsts_kept own first small were e mark s few = elim (cases_eq own s) [
    | inl same ↦
        let there : get_or marks s None ≡ Some first = ap (λ (k : ℕ). get_or marks k None) (sym same) ∙ mark in
        there ∙ sym (with_next s ∙ first_kept before this s first (sym (were s few) ∙ there))
    | inr ne ↦ were s few ∙ other_set own s e ne
  ]

  pub firsts_made : (own : ℕ) (first : Owner) → length marks ≡ 25 → own < 25 → AreFirsts marks before → set_in this ≡ Some own
      → get_or marks own None ≡ None → first ≡ command_owner this → AreFirsts (set marks own (Some first)) (map command_of (take (i + 1) xs))
  firsts_made own first len small were e none is s few = elim (cases_eq own s) [
    | inl same ↦
        get_or-set_at marks own s (Some first) None (sym same) (omega arith) ∙ ap (λ (o : Owner). Some o) is
        ∙ sym (with_next s ∙ first_made before this s (sym (were s few) ∙ ap (λ (k : ℕ). get_or marks k None) (sym same) ∙ none)
        (of_set this s own e ∙ eq-eqb own s same))
    | inr ne ↦ get_or-set_other marks own s (Some first) None (λ same. ne (sym same)) ∙ were s few ∙ other_set own s e ne
  ]

-- how the faults continue at the next command: it belongs to no set, or is the first of its set, or isn't the first
module _ (fs more all : List LayoutFault) (marks : List (Option Owner)) (xs : List LoadCommand) (i : ℕ) (d : LoadCommand) (lt : i < length xs)
    (so_far : fs ++ commands_again (map command_of (take i xs)) (map command_of (drop i xs)) ≡ all) where
  abbrev goes_on : List LayoutFault → Type 0
  goes_on gs = gs ++ commands_again (map command_of (take (i + 1) xs)) (map command_of (drop (i + 1) xs)) ≡ all

  abbrev next_one : Command
  next_one = command_of (get_or xs i d)

  pub reported_none : more ≡ fs → set_in next_one ≡ None → goes_on more
  reported_none same e = reported_on fs more all xs i d None lt (again_none (map command_of (take i xs)) next_one e) (same ∙ sym (append-nil fs)) so_far

  reported_by : (own : ℕ) (first : Option Owner) → own < 25 → AreFirsts marks (map command_of (take i xs)) → set_in next_one ≡ Some own
      → get_or marks own None ≡ first → more ≡ fs ++ option_to_list (option_map (once_more next_one) first) → goes_on more
  reported_by own first few were e mark added =
      reported_on fs more all xs i d (option_map (once_more next_one) first) lt
      (again_by (map command_of (take i xs)) next_one own first e (sym (were own few) ∙ mark)) added so_far

  pub reported_first : (own : ℕ) → own < 25 → AreFirsts marks (map command_of (take i xs)) → set_in next_one ≡ Some own
      → get_or marks own None ≡ None → more ≡ fs → goes_on more
  reported_first own few were e mark same = reported_by own None few were e mark (same ∙ sym (append-nil fs))

  pub reported_again : (own : ℕ) (first : Owner) (f : LayoutFault) → own < 25 → AreFirsts marks (map command_of (take i xs)) → set_in next_one ≡ Some own
      → get_or marks own None ≡ Some first → more ≡ fs ++ f ∷ [] → f ≡ once_more next_one first → goes_on more
  reported_again own first f few were e mark added is =
      reported_by own (Some first) few were e mark (added ∙ ap (λ (g : LayoutFault). fs ++ g ∷ []) is)
