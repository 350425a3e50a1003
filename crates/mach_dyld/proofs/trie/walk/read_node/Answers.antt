use Rattle.mach_dyld.proofs.TrieNames.{◌≢◌, refl, arith, err_from_is_err_and, fault_of, None, Some, node_in}
use Rattle.mach_dyld.specs.Exports.{info_of}
use Rattle.mach_dyld.specs.Views.{own_in}
use Rattle.mach_base.proofs.Faults.{FailsAs-read}
use Rattle.mach_dyld.proofs.LookUpNodes.{size_fails, after_size, own_fails}
use Rattle.mach_dyld.proofs.Nowhere.{node_there, list_fails}
use Rattle.mach_dyld.proofs.trie.walk.read_node.Goals as goal

pub returns-in_err-size-clause-fault : goal.returns-in_err-size-clause-fault
returns-in_err-size-clause-fault g c =
    let p = err_from_is_err_and c.from_residual.result c.from_residual.ensures.1 in
    let e = c.in_err-size.field-0.0 in
    rw (p.1, p.2) (FailsAs-read e (node_in c.args.source.now c.args.start) (size_fails c.args.source.now c.args.start (fault_of e) c.in_err-size.ensures.value))

pub returns-in_err-open_list-clause-fault : goal.returns-in_err-open_list-clause-fault
returns-in_err-open_list-clause-fault g c =
    let p = err_from_is_err_and c.from_residual-in_err-open_list.result c.from_residual-in_err-open_list.ensures.1 in
    rw (p.1, p.2) (list_fails c.args.source.now c.args.start c.in_ok-size.size c.in_ok-size.place None c.in_ok-size.place c.in_ok-size.ensures.value
    (c.if-size-eq0.true, refl) c.in_err-open_list.field-0.0 c.in_err-open_list.ensures.fault)

pub returns-then-size-eq0-clause-opened : goal.returns-then-size-eq0-clause-opened
returns-then-size-eq0-clause-opened g c =
    let list = c.in_ok-open_list.ensures.opened in (
      list.0,
      node_there c.args.source.now c.args.start c.in_ok-size.size c.in_ok-size.place None c.in_ok-size.place c.in_ok-size.ensures.value
          (c.if-size-eq0.true, refl) list.0 list.1,
      list.2,
    )

pub returns-in_err-own-clause-fault : goal.returns-in_err-own-clause-fault
returns-in_err-own-clause-fault g c =
    let p = err_from_is_err_and c.from_residual-in_err-own.result c.from_residual-in_err-own.ensures.1 in
    let s = c.args.source.now in
    let e = c.in_err-own.field-0.0 in
    let some : c.in_ok-size.size ≢ 0 = λ z. absurd (omega arith) in
    rw (p.1, p.2) (rw (after_size s c.args.start c.in_ok-size.size c.in_ok-size.place c.in_ok-size.ensures.value)
    (own_fails s c.in_ok-size.size c.in_ok-size.place e some (FailsAs-read e (own_in s c.in_ok-size.size c.in_ok-size.place) c.in_err-own.ensures)))

pub returns-in_err-branches-clause-fault : goal.returns-in_err-branches-clause-fault
returns-in_err-branches-clause-fault g c =
    let p = err_from_is_err_and c.from_residual-in_err-branches.result c.from_residual-in_err-branches.ensures.1 in
    let some : c.in_ok-size.size ≢ 0 = λ z. absurd (omega arith) in
    rw (p.1, p.2) (list_fails c.args.source.now c.args.start c.in_ok-size.size c.in_ok-size.place (Some (info_of c.in_ok-own.own)) c.in_ok-own.place
    c.in_ok-size.ensures.value (some, c.in_ok-own.ensures) c.in_err-branches.field-0.0 c.in_err-branches.ensures.fault)

pub returns-clause-opened : goal.returns-clause-opened
returns-clause-opened g c =
    let some : c.in_ok-size.size ≢ 0 = λ z. absurd (omega arith) in
    let list = c.in_ok-branches.ensures.opened in (
      list.0,
      node_there c.args.source.now c.args.start c.in_ok-size.size c.in_ok-size.place (Some (info_of c.in_ok-own.own)) c.in_ok-own.place
          c.in_ok-size.ensures.value (some, c.in_ok-own.ensures) list.0 list.1,
      list.2,
    )
