use Rattle.std.proofs.Common.{◌∷◌, ◌≡◌, ◌+◌, [], subst, sym}
use Rattle.std.specs.Prelude.{MatchOption}
use Rattle.machinfo.specs.CommandRows.{command_section_view, command_sections_after}
use Rattle.machinfo.proofs.SectionsOfCommands.{taken_or_over}
use Rattle.machinfo.proofs.command_sections.CommandSections.following.Goals as goal

pub returns-clause-more : goal.returns-clause-more
returns-clause-more c =
    let it = c.args.self.now in
    subst (λ found. MatchOption found (command_sections_after it it.number ≡ [])
    (λ x. command_sections_after it it.number ≡ command_section_view x ∷ command_sections_after it (it.number + 1))) (sym c.ok.ensures.value)
    (taken_or_over it.ctx it.own.now it.command it.count it.number c.section_in.result c.if-self.false c.section_in.ensures)
