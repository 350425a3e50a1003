use Rattle.mach_dyld.proofs.TrieNames.{◌∙◌, ℕ, sym, refl, get_or, leb-true, err_from_is_err_and, fault_of, children_at, branches_in, Some}
use Rattle.mach_base.proofs.Faults.{FailsAs-read}
use Rattle.mach_dyld.proofs.BarrenRuns.{no_children, children_are, opens_known}
use Rattle.mach_dyld.proofs.trie.walk.open_list.Goals as goal

pub returns-in_err-list-clause-fault : goal.returns-in_err-list-clause-fault
returns-in_err-list-clause-fault g c =
    let p = err_from_is_err_and c.from_residual.result c.from_residual.ensures.1 in
    let s = c.args.source.now in
    let e = c.in_err-list.field-0.0 in
    rw (p.1, p.2) (FailsAs-read e (children_at s.bytes.now s.from c.args.place) (no_children s c.args.place (fault_of e) c.in_err-list.ensures.value))

pub returns-then-know-clause-opened : goal.returns-then-know-clause-opened
returns-then-know-clause-opened g c =
    let list = c.in_ok-list.list in
    let known : ℕ = get_or c.args.barren.now list.place 0 in
    opens_known c.args.source.now c.args.place list.left list.place known c.in_ok-list.ensures.value
    (leb-true list.left known (sym c.know.ensures ∙ c.if-know.true)) (c.requires.barren list.place)

pub returns-in_err-found-clause-fault : goal.returns-in_err-found-clause-fault
returns-in_err-found-clause-fault g c =
    let p = err_from_is_err_and c.from_residual-in_err-found.result c.from_residual-in_err-found.ensures.1 in
    let s = c.args.source.now in
    let list = c.in_ok-list.list in
    let e = c.in_err-found.field-0.0 in
    rw (p.1, p.2) (FailsAs-read e (children_at s.bytes.now s.from c.args.place)
    (children_are s c.args.place list.left list.place c.in_ok-list.ensures.value ∙ c.in_err-found.ensures.value))

pub returns-then-not-is_barren-clause-opened : goal.returns-then-not-is_barren-clause-opened
returns-then-not-is_barren-clause-opened g c =
    let s = c.args.source.now in
    let list = c.in_ok-list.list in (
      branches_in s.bytes.now s.from (Some c.in_ok-found.found),
      children_are s c.args.place list.left list.place c.in_ok-list.ensures.value ∙ c.in_ok-found.ensures.value,
      (refl, sym c.is_barren.ensures ∙ c.if-not-is_barren.true),
    )

pub returns-clause-opened : goal.returns-clause-opened
returns-clause-opened g c =
    let s = c.args.source.now in
    let list = c.in_ok-list.list in (
      branches_in s.bytes.now s.from (Some c.in_ok-found.found),
      children_are s c.args.place list.left list.place c.in_ok-list.ensures.value ∙ c.in_ok-found.ensures.value,
      sym c.is_barren.ensures ∙ c.if-not-is_barren.false,
    )
