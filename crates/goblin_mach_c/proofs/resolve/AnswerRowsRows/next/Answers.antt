use Rattle.std.proofs.Common.{◌∙◌, ◌+◌, ◌∷◌, drop, map, ap, sym, arith}
use Rattle.std.proofs.lemmas.List.{at_drop_more}
use Rattle.mach_resolve.specs.ResolveViews.{answer_view}
use Rattle.goblin_mach_c.specs.ResolveRows.{answer_row}
use Rattle.goblin_mach_c.specs.declared.resolve.gm_answer.{gm_answer}
use Rattle.goblin_mach_c.proofs.resolve.AnswerRowsRows.next.Goals as goal

pub returns : goal.returns
returns c =
    let it = c.args.self.now in
    let left = c.if-self.false in
    at_drop_more (λ xs. map answer_row (map answer_view xs)) it.answers.now it.next _ (omega (arith, left))
    ∙ ap (λ (row : gm_answer). row ∷ map answer_row (map answer_view (drop (it.next + 1) it.answers.now))) (sym c.row_of-row.ensures)
