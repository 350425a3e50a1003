use Rattle.std.proofs.Common.{◌+◌, List, ℕ, drop, sym, subst, arith}
use Rattle.std.proofs.lemmas.List.{drop_all, drop_more}
use Rattle.std.specs.Borrow.{Bor}
use Rattle.mach_cli.specs.ShownCalls.{manner_in, ShowsNamed}
use Rattle.mach_cli.proofs.Orders.{Completes, at_last, one_more}
use Rattle.mach_cli.proofs.files.Run.show_files.Goals as goal

pub files-preserved : goal.files-preserved
files-preserved g c =
    let m = manner_in g.S.FileView.shows c.args.self.now in
    let P = λ (file : Bor (List ℕ)). ShowsNamed m file.now in
    let all = c.args.files.now in
    let i = c.files.file-index in
    let there = c.show_file.new.out in
    subst (Completes P all c.args.out.now (drop (i + 1) all) there) (sym c.worse-worst.ensures)
    (one_more P all c.args.out.now c.files.out there (drop i all) _ (drop (i + 1) all) c.files.worst c.in_ok-status.status
    (drop_more all i _ c.files-test.true) c.files.invariant c.in_ok-status.ensures.shown)

pub returns-clause-shown : goal.returns-clause-shown
returns-clause-shown g c =
    let m = manner_in g.S.FileView.shows c.args.self.now in
    let all = c.args.files.now in
    let i = c.files.file-index in
    at_last (λ (file : Bor (List ℕ)). ShowsNamed m file.now) all c.args.out.now c.files.out (drop i all) c.files.worst
    (drop_all i all (omega (arith, c.files-test.false))) c.files.invariant
