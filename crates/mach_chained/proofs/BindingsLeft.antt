-- How the remaining bindings go on.
use Rattle.std.proofs.Common.{◌≡◌, ℕ, suc, List, [], ◌∷◌, length, Bool, true, false, Option, Some, None, Result, Ok, refl, sym, ap, ◌∙◌, cond}
use Rattle.mach_base.specs.Fault.{Fault}
use Rattle.mach_chained.specs.declared.source.Source.{Source}
use Rattle.mach_chained.specs.Fixups.{FixupInput, Fixup}
use Rattle.mach_chained.specs.Chained.{PlacedFixup, fixup_items}
use Rattle.mach_parts.specs.Bindings.{Binding}
use Rattle.mach_chained.specs.Bindings.{binding_in, bindings_before, bindings_of}
use Rattle.mach_chained.specs.BindingViews.{fixup_count}
use Rattle.mach_chained.specs.WalkViews.{fixup_input_of}

abbrev Items : Type 0
Items = List (Result Fixup Fault)

abbrev pub left_by : Bool → Source → List (List ℕ) → List (Result Fixup Fault) → List (Result Binding Fault)
left_by ended s libs items = cond ended [] (bindings_of (fixup_input_of s) libs items)

pub on_bindings : (ended : Bool) (s t : Source) (libs : List (List ℕ)) (items others : Items) → ended ≡ false → t ≡ s → items ≡ others
    → left_by ended s libs items ≡ bindings_of (fixup_input_of t) libs others
on_bindings ended s t libs items others on same is =
    ap (λ (b : Bool). left_by b s libs items) on
    ∙ ap (λ (r : Source). bindings_of (fixup_input_of r) libs items) (sym same)
    ∙ ap (λ (m : Items). bindings_of (fixup_input_of t) libs m) is

pub off_bindings : (ended : Bool) (s : Source) (libs : List (List ℕ)) (items : Items) → ended ≡ true → left_by ended s libs items ≡ []
off_bindings ended s libs items off = ap (λ (b : Bool). left_by b s libs items) off

-- after a fixup come those of the others, and before them its own, if it has one
pub before_others : (x : FixupInput) (libs : List (List ℕ)) (f : Fixup) (rest : Items) (own : Option (Result Binding Fault)) → binding_in x libs f ≡ own
    → bindings_of x libs (Ok f ∷ rest) ≡ bindings_before own (bindings_of x libs rest)
before_others x libs f rest own is = ap (λ (o : Option (Result Binding Fault)). bindings_before o (bindings_of x libs rest)) is

-- ---- how many pointers are left

abbrev pub pointers_by : Bool → List (Result Fixup Fault) → ℕ
pointers_by ended items = cond ended 0 (fixup_count items)

pub on_pointers : (ended : Bool) (items others : Items) → ended ≡ false → items ≡ others → pointers_by ended items ≡ fixup_count others
on_pointers ended items others on is = ap (λ (b : Bool). pointers_by b items) on ∙ ap (λ (m : Items). fixup_count m) is

pub off_pointers : (ended : Bool) (items : Items) → ended ≡ true → pointers_by ended items ≡ 0
off_pointers ended items off = ap (λ (b : Bool). pointers_by b items) off

-- fixups followed by the fault count as many as there are fixups
pub fixups_counted : (ps : List PlacedFixup) (stop : Option Fault) → fixup_count (fixup_items ps stop) ≡ length ps
fixups_counted [] None = refl
fixups_counted [] (Some f) = refl
fixups_counted (p ∷ ps) stop = ap suc (fixups_counted ps stop)
