use Rattle.std.proofs.Common.{◌+◌, List, ℕ, drop, sym, subst, arith}
use Rattle.std.proofs.lemmas.List.{drop_all, drop_more}
use Rattle.std.specs.Borrow.{Bor}
use Rattle.mach_cli.specs.ShownCalls.{manner_in, ShowsListed}
use Rattle.mach_cli.proofs.Orders.{Completes, at_last, one_more}
use Rattle.mach_cli.proofs.files.Run.show_names.Goals as goal

pub names-preserved : goal.names-preserved
names-preserved g c =
    let m = manner_in g.S.FileView.shows c.args.self.now in
    let P = λ (name : Bor (List ℕ)). ShowsListed m name.now in
    let all = c.args.names.now in
    let i = c.names.index in
    let there = c.show_name.new.out in
    subst (Completes P all c.args.out.now (drop (i + 1) all) there) (sym c.worse-worst.ensures)
    (one_more P all c.args.out.now c.names.out there (drop i all) _ (drop (i + 1) all) c.names.worst c.in_ok-status.status
    (drop_more all i _ c.names-test.true) c.names.invariant c.in_ok-status.ensures.shown)

pub returns-clause-shown : goal.returns-clause-shown
returns-clause-shown g c =
    let m = manner_in g.S.FileView.shows c.args.self.now in
    let all = c.args.names.now in
    let i = c.names.index in
    at_last (λ (name : Bor (List ℕ)). ShowsListed m name.now) all c.args.out.now c.names.out (drop i all) c.names.worst
    (drop_all i all (omega (arith, c.names-test.false))) c.names.invariant
