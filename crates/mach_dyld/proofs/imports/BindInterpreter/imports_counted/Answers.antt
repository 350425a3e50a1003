use Rattle.mach_dyld.proofs.BindNames.{map, ◌≡◌, ◌∙◌, ◌+◌, ◌++◌, ap, refl, arith, length, err_from_is_err_and, append-nil, pointer_size, input_in}
use Rattle.mach_dyld.proofs.BindNames.{bind_imports_view, texts}
use Rattle.mach_parts.specs.Segment.{segment_view}
use Rattle.mach_dyld.proofs.BindNames.{imports_left, import_rules}
use Rattle.mach_dyld.proofs.BindLists.{oks, list_from_items, beginnings_have}
use Rattle.mach_dyld.proofs.BindListed.{refuses, has_none}
use Rattle.mach_dyld.specs.RowsMove.{import_reads}
use Rattle.mach_dyld.proofs.StreamStops.{left_at_end}
use Rattle.mach_dyld.proofs.imports.BindInterpreter.imports_counted.Goals as goal

pub returns-in-Err-clause-only : goal.returns-in-Err-clause-only
returns-in-Err-clause-only g c = λ list l.
    let it = c.start-left.ensures.items in
    absurd (has_none c.args.self.now (pointer_size c.args.ctx.container) (texts c.args.libs.now) (map segment_view c.args.segments.now) it.0 it.1 _ it.2
    (bind_imports_view c.binds.found.items) _ c.binds.invariant.items
    c.end_at.result (c.in-Err.ensures.items ∙ c.end_at.ensures.fails.0) list l)

pub returns-in-Err-clause-refused : goal.returns-in-Err-clause-refused
returns-in-Err-clause-refused g c =
    let it = c.start-left.ensures.items in
    refuses c.args.self.now (pointer_size c.args.ctx.container) (texts c.args.libs.now) (map segment_view c.args.segments.now) it.0 it.1 _ it.2
    (bind_imports_view c.binds.found.items)
    _ c.binds.invariant.items
    c.end_at.result (c.in-Err.ensures.items ∙ c.end_at.ensures.fails.0)

pub returns-in-Err-clause-bounded : goal.returns-in-Err-clause-bounded
returns-in-Err-clause-bounded g c =
    let it = c.start-left.ensures.items in
    (length it.0 + length it.1, beginnings_have _ _ _ it.0 it.1 _ it.2, omega (arith, c.in-Err.ensures.bounded, c.binds.invariant.reads, it.3))

pub returns-in_default-clause-only : goal.returns-in_default-clause-only
returns-in_default-clause-only g c = λ list l.
    let it = c.start-left.ensures.items in
    absurd (has_none c.args.self.now (pointer_size c.args.ctx.container) (texts c.args.libs.now) (map segment_view c.args.segments.now) it.0 it.1 _ it.2
    (bind_imports_view c.binds.found.items) _ c.binds.invariant.items
    c.end_at-in_default.result (c.in-Ok-true.ensures.items ∙ c.in_default.ensures.none.0 ∙ c.end_at-in_default.ensures.fails.0) list l)

pub returns-in_default-clause-refused : goal.returns-in_default-clause-refused
returns-in_default-clause-refused g c =
    let it = c.start-left.ensures.items in
    refuses c.args.self.now (pointer_size c.args.ctx.container) (texts c.args.libs.now) (map segment_view c.args.segments.now) it.0 it.1 _ it.2
    (bind_imports_view c.binds.found.items)
    _ c.binds.invariant.items
    c.end_at-in_default.result (c.in-Ok-true.ensures.items ∙ c.in_default.ensures.none.0 ∙ c.end_at-in_default.ensures.fails.0)

pub returns-in_default-clause-bounded : goal.returns-in_default-clause-bounded
returns-in_default-clause-bounded g c =
    let it = c.start-left.ensures.items in
    (length it.0 + length it.1, beginnings_have _ _ _ it.0 it.1 _ it.2, omega (arith, c.in-Ok-true.ensures.reads, c.binds.invariant.reads, it.3))

pub returns-in_err-reserve-clause-bounded : goal.returns-in_err-reserve-clause-bounded
returns-in_err-reserve-clause-bounded g c =
    let p = err_from_is_err_and c.from_residual.result c.from_residual.ensures.1 in
    let it = c.start-left.ensures.items in
    rw p.1 (length it.0 + length it.1, beginnings_have _ _ _ it.0 it.1 _ it.2, omega (arith, c.in-Ok-true.ensures.reads, c.binds.invariant.reads, it.3))

pub returns-clause-listed : goal.returns-clause-listed
returns-clause-listed g c =
    let b = c.args.self.now in
    let x = input_in b (pointer_size c.args.ctx.container) (texts c.args.libs.now) (map segment_view c.args.segments.now) in
    let it = c.start-left.ensures.items in
    let list = bind_imports_view c.binds.found.items in
    let end = left_at_end import_rules import_reads _ (c.in-Ok-false.ensures.end c.in-Ok-false.field-0-test) in
    let whole : imports_left c.start-left.result ≡ oks list =
    c.binds.invariant.items ∙ ap (λ m. oks list ++ m) (c.in-Ok-false.ensures.items ∙ end.0) ∙ append-nil _ in
    (it.0, it.1, list_from_items x b.non_lazy b.lazy it.0 it.1 (imports_left c.start-left.result) list it.2 whole)

pub returns-clause-reads : goal.returns-clause-reads
returns-clause-reads g c =
    let b = c.args.self.now in
    let x = input_in b (pointer_size c.args.ctx.container) (texts c.args.libs.now) (map segment_view c.args.segments.now) in
    let it = c.start-left.ensures.items in
    let list = bind_imports_view c.binds.found.items in
    let end = left_at_end import_rules import_reads _ (c.in-Ok-false.ensures.end c.in-Ok-false.field-0-test) in
    let whole : imports_left c.start-left.result ≡ oks list =
    c.binds.invariant.items ∙ ap (λ m. oks list ++ m) (c.in-Ok-false.ensures.items ∙ end.0) ∙ append-nil _ in
    let all = list_from_items x b.non_lazy b.lazy it.0 it.1 (imports_left c.start-left.result) list it.2 whole in
    let none = end.1 in (
      length it.0 + length it.1,
      (it.0, it.1, all.stream, all.lazy_stream, refl),
      omega
          (arith, none, c.in-Ok-false.ensures.reads, c.binds.invariant.reads, it.3),
    )
