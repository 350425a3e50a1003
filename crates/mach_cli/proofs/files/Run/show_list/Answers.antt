use Rattle.std.proofs.Common.{List, inl, refl, sym, subst}
use Rattle.std.proofs.lemmas.Result.{IfOk-weaker}
use Rattle.std.specs.Borrow.{Bor}
use Rattle.mach_base.specs.Text.{texts}
use Rattle.std.specs.Prelude.{ℕ}
use Rattle.mach_cli.specs.InOrder.{InOrder}
use Rattle.mach_cli.specs.ShownCalls.{manner_in, ShowsList, ShowsListed, read_list, unread_list}
use Rattle.mach_cli.proofs.Orders.{of_views}
use Rattle.mach_cli.proofs.files.Run.show_list.Goals as goal

pub returns-in-Err-clause-shown : goal.returns-in-Err-clause-shown
returns-in-Err-clause-shown g c = unread_list c.in-Err.status c.in-Err.ensures refl

pub returns-in-Ok-names_of-clause-shown : goal.returns-in-Ok-names_of-clause-shown
returns-in-Ok-names_of-clause-shown g c =
    let m = manner_in g.S.FileView.shows c.args.self.now in
    let new = c.show_names.new.out in
    let out = c.args.out.now in
    IfOk-weaker c.show_names.result _ _
    (λ status shown. read_list _ status
    (subst (λ (names : List (List ℕ)). InOrder (ShowsListed m) names out new status) c.in-Ok-names_of.ensures
    (subst (λ (names : List (Bor (List ℕ))). InOrder (ShowsListed m) (texts names) out new status) c.as_slice.ensures.value
    (of_views (λ (name : Bor (List ℕ)). name.now) (ShowsListed m) c.as_slice.result.now out new status shown))))
    c.show_names.ensures.shown

pub returns-clause-shown : goal.returns-clause-shown
returns-clause-shown g c =
    let m = manner_in g.S.FileView.shows c.args.self.now in
    let out = c.args.out.now in
    subst (ShowsList m c.args.end out out) (sym c.no_memory_for.ensures) (unread_list 1 (inl refl) refl)
