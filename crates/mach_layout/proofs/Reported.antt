-- The faults that rules find in items that are seen as others, and in numbers; and faults one after the other.
use Rattle.std.proofs.Common.{◌≡◌, ◌<◌, ◌≤◌, ℕ, suc, ◌+◌, ◌-◌, List, [], ◌∷◌, ◌++◌, map, Option, refl, ap, ◌∙◌, arith}
use Rattle.std.specs.Prelude.{filter_map}
use Rattle.std.specs.List.{cons_option, range_with_len}
use Rattle.mach_layout.specs.Rules.{reported, reported_over}
use Rattle.mach_layout.specs.declared.fault.LayoutFault.{LayoutFault}
use Rattle.mach_layout.specs.declared.fault.Owner.{Owner}
use Rattle.mach_layout.specs.declared.fault.Rule.{Rule}
use Rattle.mach_layout.specs.declared.rules.RuleOutcome.{RuleOutcome}

filter_map-map : {X Y Z : Type 0} (f : Y → Option Z) (v : X → Y) (xs : List X) → filter_map (λ x. f (v x)) xs ≡ filter_map f (map v xs)
filter_map-map f v [] = refl
filter_map-map {Z = Z} f v (x ∷ xs) = ap (λ (zs : List Z). cons_option (f (v x)) zs) (filter_map-map f v xs)

-- the faults of items as they are seen, or of what is seen of them
pub reported_of_outcome : {X Y : Type 0} (v : X → Y) (rules : List Rule) (owner : Rule → Y → Owner) (sees : Rule → Y → RuleOutcome) (xs : List X)
    → reported_over rules (λ r x. owner r (v x)) (λ r x. sees r (v x)) xs ≡ reported_over rules owner sees (map v xs)
reported_of_outcome v [] owner sees xs = refl
reported_of_outcome v (r ∷ rs) owner sees xs =
    ap (λ (fs : List LayoutFault). fs ++ reported_over rs (λ s x. owner s (v x)) (λ s x. sees s (v x)) xs)
    (filter_map-map (λ y. reported r (owner r y) (sees r y)) v xs)
    ∙ ap (λ (fs : List LayoutFault). filter_map (λ y. reported r (owner r y) (sees r y)) (map v xs) ++ fs) (reported_of_outcome v rs owner sees xs)

-- the numbers from one on are that one and those after it; from the end on there are none
pub numbers_next : (a upto : ℕ) → a < upto → range_with_len a (upto - a) ≡ a ∷ range_with_len (a + 1) (upto - (a + 1))
numbers_next a upto lt =
    let more : upto - a ≡ suc (upto - (a + 1)) = omega arith in
    ap (λ (n : ℕ). range_with_len a n) more

pub numbers_over : (a upto : ℕ) → upto ≤ a → range_with_len a (upto - a) ≡ []
numbers_over a upto past =
    let none : upto - a ≡ 0 = omega arith in
    ap (λ (n : ℕ). range_with_len a n) none
