use Rattle.std.proofs.Common.{◌∙◌, ◌++◌, ◌∷◌, [], Some, ap}
use Rattle.std.proofs.lemmas.Result.{err_from_is_err_and}
use Rattle.mach_dyld.specs.Exports.{info_of}
use Rattle.mach_dyld.specs.Trie.{entry}
use Rattle.goblin_mach_c.proofs.tree.go_over.Goals as goal

pub returns-in_err-export-clause-refused : goal.returns-in_err-export-clause-refused
returns-in_err-export-clause-refused c = λ t libs given.
    let p = err_from_is_err_and c.from_residual.result c.from_residual.ensures.1 in
    let so = c.exports.invariant t libs given in
    let says = rw c.in_err-export.was at (c.in-Some.ensures.says t libs so.0 so.1) in
    rw (p.1, p.2) says

pub exports-preserved : goal.exports-preserved
exports-preserved c = λ t libs given.
    let goes = rw (c.in-Some.is ∙ ap Some c.in_ok-export.was) at c.next.follows.holds-at-none in
    let so = c.exports.invariant t libs given in
    (so.0 ++ entry c.in_ok-export.field-0.0.now (info_of c.in_ok-export.field-0.1) ∷ [], goes.1 t libs so.0 so.1)

pub returns-clause-whole : goal.returns-clause-whole
returns-clause-whole c = λ t libs given.
    let so = c.exports.invariant t libs given in (so.0, c.in_default.ensures.says t libs so.0 so.1)
