use Rattle.std.proofs.Common.{◌≡◌, ◌∙◌, ℕ, List, Option, Some, ap, subst, sym}
use Rattle.std.proofs.lemmas.Result.{IfOk-weaker}
use Rattle.std.specs.Borrow.{Bor}
use Rattle.machinfo.specs.Words.{selected}
use Rattle.machinfo.proofs.show_call.Goals as goal

pub returns-clause-lines : goal.returns-clause-lines
returns-clause-lines g c = λ form.
    let chosen = rw c.in-Ok.is at c.selection_of.ensures.selected in
    IfOk-weaker c.show.result _ _ (λ worst shown. (
      c.in-Ok.selection.choice,
      c.in-Ok.selection.files.now,
      ap (λ (address : Option ℕ). selected address c.args.call.now.words.items) (sym c.last_address.ensures)
          ∙ subst (λ (words : List (Bor (List ℕ))). selected c.last_address.result words ≡ Some (c.in-Ok.selection.choice, c.in-Ok.selection.files.now))
          c.as_slice-words.ensures.value (sym chosen),
      c.shown_by-shown.result,
      c.shown_by-shown.ensures,
      shown,
    )) (c.show.ensures.text (c.shown_by-shown.ensures.form ∙ form))

pub returns-clause-objects : goal.returns-clause-objects
returns-clause-objects g c = λ form.
    let chosen = rw c.in-Ok.is at c.selection_of.ensures.selected in
    IfOk-weaker c.show.result _ _ (λ worst shown. (
      c.in-Ok.selection.choice,
      c.in-Ok.selection.files.now,
      ap (λ (address : Option ℕ). selected address c.args.call.now.words.items) (sym c.last_address.ensures)
          ∙ subst (λ (words : List (Bor (List ℕ))). selected c.last_address.result words ≡ Some (c.in-Ok.selection.choice, c.in-Ok.selection.files.now))
          c.as_slice-words.ensures.value (sym chosen),
      c.shown_by-shown.result,
      c.shown_by-shown.ensures,
      shown,
    )) (c.show.ensures.json (c.shown_by-shown.ensures.form ∙ form))
