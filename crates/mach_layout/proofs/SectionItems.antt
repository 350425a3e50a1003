-- The sections of a segment, from a number on.
use Rattle.std.proofs.Common.{◌≡◌, ℕ, ◌+◌, ◌-◌, ◌<◌, ◌≤◌, List, [], ◌∷◌, Some, Result, Ok, Err, refl, ap, ◌∙◌, arith}
use Rattle.std.specs.Result.{result_ok}
use Rattle.mach_base.specs.Answer.{Reads}
use Rattle.mach_base.specs.Fault.{Fault}
use Rattle.mach_base.specs.declared.context.Ctx.{Ctx}
use Rattle.mach_base.specs.declared.error.Error.{Error}
use Rattle.mach_base.specs.Items.{items_from}
use Rattle.mach_base.proofs.ItemLists.{items_from-first}
use Rattle.mach_layout.specs.Laid.{placed_section_at, sections_from, sections_in_command}
use Rattle.mach_parts.specs.SectionRecord.{in_front}
use Rattle.mach_layout.specs.PartsLeft.{TakesSection}
use Rattle.mach_layout.specs.declared.placed_sections.PlacedSection.{PlacedSection}
use Rattle.mach_layout.specs.declared.placed_sections.PlacedSegment.{PlacedSegment}

module _ (ctx : Ctx) (bytes : List ℕ) (s : PlacedSegment) (k : ℕ) where
  abbrev following : List PlacedSection
  following = sections_from ctx bytes s (k + 1)

  -- those from number k on are section k and those after it
  from_here : k < sections_in_command ctx.container s → sections_from ctx bytes s k
      ≡ in_front (placed_section_at ctx bytes s k ∷ items_from (placed_section_at ctx bytes s) (k + 1) (sections_in_command ctx.container s - (k + 1)))
  from_here inside =
      ap (λ (items : List (Result PlacedSection Fault)). in_front items)
      (items_from-first (placed_section_at ctx bytes s) k (sections_in_command ctx.container s) inside)

  -- the result of reading the section says whether it exists
  pub taken_or_over : (answer : Result PlacedSection Error) → k < sections_in_command ctx.container s → Reads (λ x. x) answer (placed_section_at ctx bytes s k)
      → TakesSection ctx bytes (Some s) k (result_ok answer)
  taken_or_over (Ok found) inside reads = from_here inside ∙ rw reads refl
  taken_or_over (Err e) inside reads = from_here inside ∙ rw reads refl

  -- after the last there is none
  pub none_after : sections_in_command ctx.container s ≤ k → sections_from ctx bytes s k ≡ []
  none_after past =
      let none : sections_in_command ctx.container s - k ≡ 0 = omega arith in
      ap (λ (n : ℕ). in_front (items_from (placed_section_at ctx bytes s) k n)) none
