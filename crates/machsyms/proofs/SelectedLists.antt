-- The selected symbols.
use Rattle.std.proofs.Common.{◌≡◌, ◌∷◌, ◌∙◌, ℕ, List, Bool, true, false, cond, Result, ap}
use Rattle.std.specs.List.{filter}
use Rattle.mach_base.specs.Fault.{Fault}
use Rattle.mach_parts.specs.declared.symbols.nlist.Nlist.{Nlist}
use Rattle.machsyms.specs.Request.{takes}
use Rattle.machsyms.specs.declared.selection.Request.{Request}

module _ (a : Request) where
  -- the next symbol isn't selected
  pub selected_skips : (symbols : List (Result (List ℕ × Nlist) Fault)) (x : Result (List ℕ × Nlist) Fault) (rest : List (Result (List ℕ × Nlist) Fault))
      → symbols ≡ x ∷ rest → takes a x ≡ false → filter (takes a) symbols ≡ filter (takes a) rest
  selected_skips symbols x rest is off =
      ap (filter (takes a)) is ∙ ap (λ (b : Bool). cond b (x ∷ filter (takes a) rest) (filter (takes a) rest)) off

  -- the next symbol is selected
  pub selected_takes : (symbols : List (Result (List ℕ × Nlist) Fault)) (x : Result (List ℕ × Nlist) Fault) (rest : List (Result (List ℕ × Nlist) Fault))
      → symbols ≡ x ∷ rest → takes a x ≡ true → filter (takes a) symbols ≡ x ∷ filter (takes a) rest
  selected_takes symbols x rest is on =
      ap (filter (takes a)) is ∙ ap (λ (b : Bool). cond b (x ∷ filter (takes a) rest) (filter (takes a) rest)) on
