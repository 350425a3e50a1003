use Rattle.std.proofs.Common.{◌≡◌, inl, inr, Option, None, Ok, sym, subst, ap, ◌∙◌, arith}
use Rattle.std.proofs.lemmas.Result.{err_from_is_err_and}
use Rattle.mach_base.proofs.Faults.{FailsAs-read}
use Rattle.std.specs.Prelude.{option_map}
use Rattle.mach_dyld.specs.Exports.{info_of}
use Rattle.mach_dyld.specs.declared.export_info.ExportInfo.{ExportInfo}
use Rattle.mach_dyld.specs.Finds.{BranchesFind}
use Rattle.mach_dyld.specs.Nodes.{branches_at}
use Rattle.mach_dyld.specs.Views.{branches_of}
use Rattle.mach_dyld.specs.Views.{source_trie, node_in}
use Rattle.mach_dyld.specs.Views.{node_of}
use Rattle.mach_dyld.specs.LookUpState.{LeadsOn, Goes, ComesTo}
use Rattle.mach_dyld.proofs.LookUpNodes.{size_fails, after_size, own_fails, branches_fail, passed_by, none_left_of, some_left_of}
use Rattle.mach_dyld.proofs.trie.look_up.turn.Goals as goal
use Rattle.mach_dyld.proofs.trie.look_up.turn.Goals.{in-Some, in-None, else-size-gt0-via-then-size-gt0+else-is_empty, else-size-gt0-via-else-size-gt0}

pub returns-in_err-size-clause-err : goal.returns-in_err-size-clause-err
returns-in_err-size-clause-err c =
    let p = err_from_is_err_and c.from_residual.result c.from_residual.ensures.1 in
    rw (p.1, p.2) (FailsAs-read c.in_err-size.field-0.0 (node_in c.args.source.now c.args.start)
    (size_fails c.args.source.now c.args.start _ c.in_err-size.ensures.value))

pub returns-in_err-own-clause-err : goal.returns-in_err-own-clause-err
returns-in_err-own-clause-err c =
    let p = err_from_is_err_and c.from_residual-in_err-own.result c.from_residual-in_err-own.ensures.1 in
    rw (p.1, p.2) (FailsAs-read c.in_err-own.field-0.0 (node_in c.args.source.now c.args.start)
    (after_size c.args.source.now c.args.start c.in_ok-size.size c.in_ok-size.place c.in_ok-size.ensures.value ∙ c.in_err-own.ensures.node))

pub returns-then-is_empty-clause-ok : goal.returns-then-is_empty-clause-ok
returns-then-is_empty-clause-ok c =
    let there = after_size c.args.source.now c.args.start c.in_ok-size.size c.in_ok-size.place c.in_ok-size.ensures.value ∙ c.in_ok-own.ensures.node in
    elim c.match-own.branch [
      | in-Some w ↦ subst (ComesTo c.args.source.now c.args.start c.args.rest.now) (sym w.result-is) (
        node_of c.args.source.now.bytes.now c.args.source.now.from (c.in_ok-own.own, c.in_ok-own.branches),
        there,
        ap
            (λ (o : Option ExportInfo). option_map info_of o) w.in-Some.is,
        none_left_of c.args.rest.now c.if-is_empty.ensures,
      )
      | in-None w ↦ subst (ComesTo c.args.source.now c.args.start c.args.rest.now) (sym w.result-is) (
        node_of c.args.source.now.bytes.now c.args.source.now.from (c.in_ok-own.own, c.in_ok-own.branches),
        there,
        inl
            (ap (λ (o : Option ExportInfo). option_map info_of o) w.in-None.is),
        c.in_ok-own.ensures.readable,
      )
    ]

pub returns-in_err-after-clause-err : goal.returns-in_err-after-clause-err
returns-in_err-after-clause-err c =
    let p = err_from_is_err_and c.from_residual-in_err-after.result c.from_residual-in_err-after.ensures.1 in
    rw (p.1, p.2) (rw (after_size c.args.source.now c.args.start c.in_ok-size.size c.in_ok-size.place c.in_ok-size.ensures.value)
    (own_fails c.args.source.now c.in_ok-size.size c.in_ok-size.place _ c.in_err-after.ensures.refused.0 c.in_err-after.ensures.refused.1))

pub returns-in_err-way-clause-err : goal.returns-in_err-way-clause-err
returns-in_err-way-clause-err c =
    let p = err_from_is_err_and c.from_residual-in_err-way.result c.from_residual-in_err-way.ensures.1 in
    let own = c.in_ok-after.ensures.following in
    rw (p.1, p.2) (rw (after_size c.args.source.now c.args.start c.in_ok-size.size c.in_ok-size.place c.in_ok-size.ensures.value)
    (branches_fail c.args.source.now c.in_ok-size.size c.in_ok-size.place _ own.0 c.in_ok-after.after own.1 c.in_err-way.ensures.value))

pub returns-then-child-start-clause-ok : goal.returns-then-child-start-clause-ok
returns-then-child-start-clause-ok c =
    let own = c.in_ok-after.ensures.following in (
      c.if-child-start.true,
      passed_by c.args.source.now c.args.start c.in_ok-size.size c.in_ok-size.place c.in_ok-after.after c.args.rest.now own.0
          (branches_of c.args.source.now.bytes.now c.args.source.now.from c.in_ok-way.branches)
          (λ bs. LeadsOn (source_trie c.args.source.now) c.args.rest.now bs c.in-One.child c.in-One.len) c.in_ok-size.ensures.value own.1
          (elim c.else-size-gt0.branch [
            | else-size-gt0-via-then-size-gt0+else-is_empty w ↦ inr (some_left_of c.args.rest.now w.if-is_empty.ensures)
            | else-size-gt0-via-else-size-gt0 w ↦ inl (omega (arith, w.if-size-gt0.false))
          ])
          c.in_ok-way.ensures.value (subst (Goes (source_trie c.args.source.now) c.args.rest.now
          (branches_of c.args.source.now.bytes.now c.args.source.now.from c.in_ok-way.branches))
          c.in-One.is c.in_ok-way.ensures.goes),
    )

pub returns-in-Nowhere-clause-ok : goal.returns-in-Nowhere-clause-ok
returns-in-Nowhere-clause-ok c =
    let own = c.in_ok-after.ensures.following in
    passed_by c.args.source.now c.args.start c.in_ok-size.size c.in_ok-size.place c.in_ok-after.after c.args.rest.now own.0
    (branches_of c.args.source.now.bytes.now c.args.source.now.from c.in_ok-way.branches)
    (λ bs. BranchesFind (source_trie c.args.source.now) c.args.rest.now bs None) c.in_ok-size.ensures.value own.1
    (elim c.else-size-gt0.branch [
      | else-size-gt0-via-then-size-gt0+else-is_empty w ↦ inr (some_left_of c.args.rest.now w.if-is_empty.ensures)
      | else-size-gt0-via-else-size-gt0 w ↦ inl (omega (arith, w.if-size-gt0.false))
    ])
    c.in_ok-way.ensures.value (subst (Goes (source_trie c.args.source.now) c.args.rest.now
    (branches_of c.args.source.now.bytes.now c.args.source.now.from c.in_ok-way.branches))
    c.in-Nowhere.is c.in_ok-way.ensures.goes)

pub returns-else-child-start-clause-ok : goal.returns-else-child-start-clause-ok
returns-else-child-start-clause-ok c =
    let own = c.in_ok-after.ensures.following in
    passed_by c.args.source.now c.args.start c.in_ok-size.size c.in_ok-size.place c.in_ok-after.after c.args.rest.now own.0
    (branches_of c.args.source.now.bytes.now c.args.source.now.from c.in_ok-way.branches)
    (λ bs. branches_at c.args.source.now.bytes.now c.args.source.now.from c.in_ok-way.branches.left c.in_ok-way.branches.place ≡ Ok bs)
    c.in_ok-size.ensures.value own.1
    (elim c.else-size-gt0.branch [
      | else-size-gt0-via-then-size-gt0+else-is_empty w ↦ inr (some_left_of c.args.rest.now w.if-is_empty.ensures)
      | else-size-gt0-via-else-size-gt0 w ↦ inl (omega (arith, w.if-size-gt0.false))
    ])
    c.in_ok-way.ensures.value c.in_ok-way.ensures.readable

pub returns-in-Several-clause-ok : goal.returns-in-Several-clause-ok
returns-in-Several-clause-ok c =
    let own = c.in_ok-after.ensures.following in
    passed_by c.args.source.now c.args.start c.in_ok-size.size c.in_ok-size.place c.in_ok-after.after c.args.rest.now own.0
    (branches_of c.args.source.now.bytes.now c.args.source.now.from c.in_ok-way.branches)
    (λ bs. branches_at c.args.source.now.bytes.now c.args.source.now.from c.in_ok-way.branches.left c.in_ok-way.branches.place ≡ Ok bs)
    c.in_ok-size.ensures.value own.1
    (elim c.else-size-gt0.branch [
      | else-size-gt0-via-then-size-gt0+else-is_empty w ↦ inr (some_left_of c.args.rest.now w.if-is_empty.ensures)
      | else-size-gt0-via-else-size-gt0 w ↦ inl (omega (arith, w.if-size-gt0.false))
    ])
    c.in_ok-way.ensures.value c.in_ok-way.ensures.readable
