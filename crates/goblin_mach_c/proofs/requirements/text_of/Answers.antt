use Rattle.std.proofs.Common.{◌∙◌, ◌++◌, ap}
use Rattle.std.proofs.lemmas.Fmt.{contents_after_writes}
use Rattle.mach_signature.specs.RequirementTexts.{requirement_words}
use Rattle.mach_signature.specs.RequirementTypes.{requirement_view}
use Rattle.goblin_mach_c.proofs.requirements.text_of.Goals as goal

pub returns-in-Ok : goal.returns-in-Ok
returns-in-Ok c =
    contents_after_writes _ (λ w. w.bytes.items) (λ w bs v is. is) _ _ _ c.in-Ok.ensures.writes
    ∙ ap (λ front. front ++ requirement_words (requirement_view c.args.requirement)) c.new.ensures.items
