-- The next section of a segment's command is there, or none is.
use Rattle.std.proofs.Common.{◌≡◌, ◌+◌, ◌-◌, ◌<◌, ◌∷◌, ◌∙◌, [], ℕ, List, Result, Ok, Err, ap, refl}
use Rattle.std.specs.Prelude.{MatchOption}
use Rattle.std.specs.Result.{result_ok}
use Rattle.mach_base.specs.declared.context.Ctx.{Ctx}
use Rattle.mach_base.specs.declared.error.Error.{Error}
use Rattle.mach_base.specs.Answer.{Reads}
use Rattle.mach_base.specs.Items.{items_from}
use Rattle.mach_base.proofs.ItemLists.{items_from-first}
use Rattle.mach_base.specs.Fault.{Fault}
use Rattle.mach_parts.specs.SectionRecord.{in_front}
use Rattle.machinfo.specs.CommandRows.{CommandSectionView, command_section_at, command_section_view, command_sections_from}
use Rattle.machinfo.specs.declared.command_sections.CommandSection.{CommandSection}

module _ (ctx : Ctx) (own : List ℕ) (n count k : ℕ) where
  from_here : k < count
      → command_sections_from ctx own n count k
      ≡ in_front (command_section_at ctx own n k ∷ items_from (command_section_at ctx own n) (k + 1) (count - (k + 1)))
  from_here few = ap (λ (items : List (Result CommandSectionView Fault)). in_front items) (items_from-first (command_section_at ctx own n) k count few)

  pub taken_or_over : (answer : Result CommandSection Error) → k < count → Reads command_section_view answer (command_section_at ctx own n k)
      → MatchOption (result_ok answer) (command_sections_from ctx own n count k ≡ [])
      (λ found. command_sections_from ctx own n count k ≡ command_section_view found ∷ command_sections_from ctx own n count (k + 1))
  taken_or_over (Ok found) few reads = from_here few ∙ rw reads refl
  taken_or_over (Err e) few reads = from_here few ∙ rw reads refl
