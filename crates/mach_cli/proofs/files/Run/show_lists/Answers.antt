use Rattle.std.proofs.Common.{◌+◌, [], List, ℕ, drop, get_or, sym, subst, arith}
use Rattle.std.proofs.lemmas.List.{drop_all, drop_more}
use Rattle.std.specs.Borrow.{Bor}
use Rattle.mach_cli.specs.ShownCalls.{manner_in, ShowsList}
use Rattle.mach_cli.proofs.Orders.{Completes, at_last, one_more}
use Rattle.mach_cli.proofs.files.Run.show_lists.Goals as goal

pub lists-preserved : goal.lists-preserved
lists-preserved g c =
    let m = manner_in g.S.FileView.shows c.args.self.now in
    let P = λ (list : Bor (List ℕ)). ShowsList m c.args.end in
    let all = c.args.lists.now in
    let i = c.lists.list-index in
    let there = c.show_list.new.out in
    let none : Bor (List ℕ) = record { ref_ptr = (0, 0); now = [] } in
    subst (Completes P all c.args.out.now (drop (i + 1) all) there) (sym c.worse-worst.ensures)
    (one_more P all c.args.out.now c.lists.out there (drop i all) (get_or all i none) (drop (i + 1) all) c.lists.worst c.in_ok-status.status
    (drop_more all i none c.lists-test.true) c.lists.invariant c.in_ok-status.ensures.shown)

pub returns-clause-shown : goal.returns-clause-shown
returns-clause-shown g c =
    let m = manner_in g.S.FileView.shows c.args.self.now in
    let all = c.args.lists.now in
    let i = c.lists.list-index in
    at_last (λ (list : Bor (List ℕ)). ShowsList m c.args.end) all c.args.out.now c.lists.out (drop i all) c.lists.worst
    (drop_all i all (omega (arith, c.lists-test.false))) c.lists.invariant
