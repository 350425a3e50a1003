use Rattle.std.proofs.Common.{map, ap, ◌∙◌}
use Rattle.std.proofs.lemmas.Result.{IfOk-weaker}
use Rattle.mach_parts.specs.Segment.{segment_view}
use Rattle.machsyms.specs.Letters.{named_sections}
use Rattle.machsyms.proofs.letters.named_sections.Goals as goal

pub returns : goal.returns
returns g c =
    IfOk-weaker c.sections_held.result _ _ (λ v is. is ∙ ap (λ held. named_sections (map segment_view held)) c.as_slice.ensures) c.sections_held.ensures
