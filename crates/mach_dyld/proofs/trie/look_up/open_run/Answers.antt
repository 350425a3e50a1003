use Rattle.mach_dyld.proofs.TrieNames.{◌∙◌, err_from_is_err_and, fault_of, children_at}
use Rattle.mach_base.proofs.Faults.{FailsAs-read}
use Rattle.mach_dyld.proofs.BarrenRuns.{no_children, children_are}
use Rattle.mach_dyld.proofs.trie.look_up.open_run.Goals as goal

pub returns-in_err-list-clause-value : goal.returns-in_err-list-clause-value
returns-in_err-list-clause-value g c =
    let p = err_from_is_err_and c.from_residual.result c.from_residual.ensures.1 in
    let s = c.args.source.now in
    let e = c.in_err-list.field-0.0 in
    rw (p.1, p.2) (FailsAs-read e (children_at s.bytes.now s.from c.args.place) (no_children s c.args.place (fault_of e) c.in_err-list.ensures.value))

pub returns-in_err-test_run-clause-value : goal.returns-in_err-test_run-clause-value
returns-in_err-test_run-clause-value g c =
    let p = err_from_is_err_and c.from_residual-in_err-test_run.result c.from_residual-in_err-test_run.ensures.1 in
    let s = c.args.source.now in
    let list = c.in_ok-list.list in
    let e = c.in_err-test_run.field-0.0 in
    rw (p.1, p.2) (rw (children_are s c.args.place list.left list.place c.in_ok-list.ensures.value) c.in_err-test_run.ensures.fault)

pub returns-clause-value : goal.returns-clause-value
returns-clause-value g c =
    let s = c.args.source.now in
    let list = c.in_ok-list.list in
    children_are s c.args.place list.left list.place c.in_ok-list.ensures.value ∙ c.in_ok-test_run.ensures.readable

pub returns-clause-readable : goal.returns-clause-readable
returns-clause-readable g c = c.in_ok-test_run.ensures.readable
