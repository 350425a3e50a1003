use Rattle.std.proofs.Common.{◌∙◌, List, Some, ap, subst, sym}
use Rattle.std.proofs.lemmas.Result.{err_from_is_err_and}
use Rattle.mach_dyld.specs.Exports.{entries}
use Rattle.mach_dyld.specs.Trie.{Entry}
use Rattle.mach_dyld.specs.Walks.{HasGiven}
use Rattle.tests_callers.proofs.tests.dyld.gather.Goals as goal

pub returns-in_err-name-clause-refused : goal.returns-in_err-name-clause-refused
returns-in_err-name-clause-refused c = λ t libs given.
    let p = err_from_is_err_and c.from_residual.result c.from_residual.ensures.1 in
    let says = rw c.in_err-name.was at (c.in-Some.ensures.says t libs (entries c.exports.found.items) (c.exports.invariant t libs given)) in
    rw (p.1, p.2) says

pub exports-preserved : goal.exports-preserved
exports-preserved c = λ t libs given.
    let goes = rw (c.in-Some.is ∙ ap Some c.in_ok-name.was) at c.next.follows.holds-at-none in
    subst (λ (es : List Entry). HasGiven t libs es c.next.follows.lender-at-none) (sym c.in_ok-keep.ensures)
    (goes.1 t libs (entries c.exports.found.items) (c.exports.invariant t libs given))

pub returns-clause-listed : goal.returns-clause-listed
returns-clause-listed c = λ t libs given.
    c.in_default.ensures.says t libs (entries c.exports.found.items) (c.exports.invariant t libs given)
