use Rattle.std.proofs.Common.{◌≡◌, ◌∙◌, ◌<◌, None, length, refl, sym, ap, subst, unwrap_or}
use Rattle.std.proofs.lemmas.Bool.Decides.{Decides-ltb}
use Rattle.mach_resolve.specs.Files.{Says, TrieFaultAt}
use Rattle.mach_resolve.specs.Failures.{IsFailure}
use Rattle.mach_resolve.specs.ResolveViews.{input_view, input_views}
use Rattle.goblin_mach.specs.OpenImage.{trie_view}
use Rattle.goblin_mach.specs.Subjects.{ImageExportsFault}
use Rattle.mach_base.specs.Text.{texts}
use Rattle.mach_resolve.proofs.Found.{file_at}
use Rattle.mach_base.proofs.Faults.{ErrorMeets-in}
use Rattle.mach_resolve.proofs.Steps.{reported}
use Rattle.mach_resolve.proofs.file.Files.find.Goals as goal

pub returns-in-Ok-Some-clause-found : goal.returns-in-Ok-Some-clause-found
returns-in-Ok-Some-clause-found g c =
    let h = c.in-Some.ensures.lookup in
    let xs = c.deref.result.now in
    let inside : c.args.place < length xs = (Decides-ltb c.args.place (length xs)).0 (sym h.0) in (
      file_at c.args.self.now.items.items xs c.args.place c.in-Some.file.now c.deref.ensures.value inside h.1,
      rw c.in-Ok-Some.field-0-is at c.in-Ok-Some.ensures.occurs,
    )

pub returns-in-Ok-None-clause-none : goal.returns-in-Ok-None-clause-none
returns-in-Ok-None-clause-none g c = λ f is.
    let h = c.in-Some.ensures.lookup in
    let xs = c.deref.result.now in
    let inside : c.args.place < length xs = (Decides-ltb c.args.place (length xs)).0 (sym h.0) in
    let at = file_at c.args.self.now.items.items xs c.args.place c.in-Some.file.now c.deref.ensures.value inside h.1 in
    let same : input_view c.in-Some.file.now ≡ f = ap (λ o. unwrap_or o (input_view c.in-Some.file.now)) (sym at ∙ is) in
    subst (λ x. Says x c.args.name.now None) same (rw c.in-Ok-None.field-0-is at c.in-Ok-None.ensures.occurs)

pub returns-in-Err-clause-refused : goal.returns-in-Err-clause-refused
returns-in-Err-clause-refused g c =
    let h = c.in-Some.ensures.lookup in
    let xs = c.deref.result.now in
    let file = c.in-Some.file.now in
    let fs = input_views c.args.self.now in
    let inside : c.args.place < length xs = (Decides-ltb c.args.place (length xs)).0 (sym h.0) in
    let at = file_at c.args.self.now.items.items xs c.args.place file c.deref.ensures.value inside h.1 in
    subst (IsFailure (TrieFaultAt fs)) (sym c.refused.ensures)
    (reported (TrieFaultAt fs) file.number c.in-Err.error
    (ErrorMeets-in (ImageExportsFault (trie_view file.image) (texts file.image.libs.items)) (TrieFaultAt fs file.number) c.in-Err.error
    (λ f occurs. (c.args.place, input_view file, at, refl, occurs)) c.in-Err.ensures.refused))
