use Rattle.std.proofs.Common.{◌∙◌, ◌+◌, ◌∷◌, drop, map, ap, sym, arith}
use Rattle.std.proofs.lemmas.List.{at_drop_more}
use Rattle.mach_resolve.specs.ResolveViews.{note_view_of}
use Rattle.goblin_mach_c.specs.ResolveRows.{unused_row}
use Rattle.goblin_mach_c.specs.declared.resolve.gm_unused_file.{gm_unused_file}
use Rattle.goblin_mach_c.proofs.resolve.UnusedRowsRows.next.Goals as goal

pub returns : goal.returns
returns c =
    let it = c.args.self.now in
    let left = c.if-self.false in
    at_drop_more (λ xs. map unused_row (map note_view_of xs)) it.notes.now it.next _ (omega (arith, left))
    ∙ ap (λ (row : gm_unused_file). row ∷ map unused_row (map note_view_of (drop (it.next + 1) it.notes.now))) (sym c.unused_row_of-row.ensures)
