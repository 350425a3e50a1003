-- The fixups of the chains if no kind of them is shown.
use Rattle.std.proofs.Common.{◌≡◌, ◌∙◌, Bool, false, List, [], ◌∷◌, Result, Ok, Err, refl, ap}
use Rattle.std.specs.Prelude.{◌||◌, if◌then◌else◌}
use Rattle.std.proofs.lemmas.Bool.{or_parts}
use Rattle.mach_base.specs.Fault.{Fault}
use Rattle.mach_chained.specs.Fixups.{Fixup}
use Rattle.mach_chained.specs.Pointers.{KindOfFixup, rebase, bind, value}
use Rattle.machfixups.specs.KeptFixups.{keeps_fixup, keeps_kind, kept_fixups}
use Rattle.machfixups.specs.declared.kept_fixups.ShownKinds.{ShownKinds}

module _ (kinds : ShownKinds) (none : (kinds.rebases || (kinds.binds || kinds.numbers)) ≡ false) where
  no_kind : (kind : KindOfFixup) → keeps_kind kinds kind ≡ false
  no_kind (rebase target) = (or_parts kinds.rebases (kinds.binds || kinds.numbers) none).0
  no_kind (bind import addend) = (or_parts kinds.binds kinds.numbers (or_parts kinds.rebases (kinds.binds || kinds.numbers) none).1).0
  no_kind (value number) = (or_parts kinds.binds kinds.numbers (or_parts kinds.rebases (kinds.binds || kinds.numbers) none).1).1

  no_item : (item : Result Fixup Fault) → keeps_fixup kinds item ≡ false
  no_item (Ok f) = no_kind f.kind
  no_item (Err fault) = none

  -- none is kept
  pub nothing_kept : (items : List (Result Fixup Fault)) → kept_fixups kinds items ≡ []
  nothing_kept [] = refl
  nothing_kept (item ∷ items) =
      ap (λ (b : Bool). if b then item ∷ kept_fixups kinds items else kept_fixups kinds items) (no_item item) ∙ nothing_kept items
