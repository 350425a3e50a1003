use Rattle.mach_dyld.proofs.TrieNames.{◌∙◌, ◌++◌, ◌∷◌, [], sym, ap, subst, arith, ℕ, List, Entry, HasFound, HasListed, Source, length-map}
use Rattle.mach_dyld.proofs.TrieNames.{err_from_is_err_and, entries, entry}
use Rattle.mach_dyld.specs.Exports.{info_of, entry_of}
use Rattle.mach_dyld.proofs.WalkTurns.{refused_from, so_far, few_so_far, refused_visits, all_visits}
use Rattle.mach_dyld.proofs.trie.walk.list_all.Goals as goal

pub exports-init : goal.exports-init
exports-init g c = record {
  visited = 0;
  found = rw (c.new-found.ensures.items) c.in_ok-walk.ensures.start;
  count = omega arith;
  source = c.in_ok-walk.ensures.source;
}

pub step-requires : goal.step-requires
step-requires g c = λ on. ∣ (entries c.exports.found.items, c.exports.invariant.visited, c.exports.invariant.found) ∣₁

pub returns-in_err-info-clause-visits : goal.returns-in_err-info-clause-visits
returns-in_err-info-clause-visits g c =
    let p = err_from_is_err_and c.from_residual-in_err-info.result c.from_residual-in_err-info.ensures.1 in
    let given = c.in-Some.ensures.found (entries c.exports.found.items) c.exports.invariant.visited c.exports.invariant.found in
    let r = refused_from {n = 0} {old = c.args.steps.now} c.exports.invariant.source (rw c.in_err-info.was at given) (omega
    (arith, c.exports.invariant.count)) in
    rw (p.1, p.2) (refused_visits (omega (arith, r.count)) _ r.visits)

pub returns-in_err-info-clause-few_visits : goal.returns-in_err-info-clause-few_visits
returns-in_err-info-clause-few_visits g c =
    let given = c.in-Some.ensures.found (entries c.exports.found.items) c.exports.invariant.visited c.exports.invariant.found in
    let r = refused_from {n = 0} {old = c.args.steps.now} c.exports.invariant.source (rw c.in_err-info.was at given) (omega
    (arith, c.exports.invariant.count)) in
    omega (arith, r.count, r.few_visits)

pub returns-in_err-info-clause-refused : goal.returns-in_err-info-clause-refused
returns-in_err-info-clause-refused g c =
    let p = err_from_is_err_and c.from_residual-in_err-info.result c.from_residual-in_err-info.ensures.1 in
    let given = c.in-Some.ensures.found (entries c.exports.found.items) c.exports.invariant.visited c.exports.invariant.found in
    let r = refused_from {n = 0} {old = c.args.steps.now} c.exports.invariant.source (rw c.in_err-info.was at given) (omega
    (arith, c.exports.invariant.count)) in
    rw (p.1, p.2) r.fault

pub exports-preserved : goal.exports-preserved
exports-preserved g c =
    let given = rw c.in_ok-info.was at (c.in-Some.ensures.found (entries c.exports.found.items) c.exports.invariant.visited c.exports.invariant.found) in
    let source = rw c.in_ok-info.was at c.in-Some.ensures.source in
    record {
      visited = given.0;
      found = subst (λ (es : List Entry). HasFound es given.0 c.step.new.self)
          (sym (c.in_ok-push_export.ensures
          ∙ ap (λ (x : List ℕ). entries c.exports.found.items ++ entry x (info_of c.in_ok-info.info) ∷ []) c.name.ensures))
          given.1;
      count = omega (arith, given.2, c.exports.invariant.count);
      source = source ∙ c.exports.invariant.source;
    }

pub returns-in_err-push_export-clause-visits : goal.returns-in_err-push_export-clause-visits
returns-in_err-push_export-clause-visits g c =
    let p = err_from_is_err_and c.from_residual-in_err-push_export.result c.from_residual-in_err-push_export.ensures.1 in
    let given = rw c.in_ok-info.was at (c.in-Some.ensures.found (entries c.exports.found.items) c.exports.invariant.visited c.exports.invariant.found) in
    let source = rw c.in_ok-info.was at c.in-Some.ensures.source in
    rw (p.1, p.2) (so_far c.step.new.self given.1 (source ∙ c.exports.invariant.source) (omega (arith, given.2, c.exports.invariant.count)) _)

pub returns-in_err-push_export-clause-few_visits : goal.returns-in_err-push_export-clause-few_visits
returns-in_err-push_export-clause-few_visits g c =
    let given = rw c.in_ok-info.was at (c.in-Some.ensures.found (entries c.exports.found.items) c.exports.invariant.visited c.exports.invariant.found) in
    let source = rw c.in_ok-info.was at c.in-Some.ensures.source in
    let few = few_so_far c.step.new.self given.1 (source ∙ c.exports.invariant.source) in
    omega (arith, few, given.2, c.exports.invariant.count)

pub returns-clause-tree : goal.returns-clause-tree
returns-clause-tree g c =
    let given = c.in_default.ensures.found (entries c.exports.found.items) c.exports.invariant.visited c.exports.invariant.found in
    (subst (λ (s : Source). HasListed s (entries c.exports.found.items) given.0) c.exports.invariant.source given.1).is_tree

pub returns-clause-listed : goal.returns-clause-listed
returns-clause-listed g c =
    let given = c.in_default.ensures.found (entries c.exports.found.items) c.exports.invariant.visited c.exports.invariant.found in
    (subst (λ (s : Source). HasListed s (entries c.exports.found.items) given.0) c.exports.invariant.source given.1).listed

pub returns-clause-few_exports : goal.returns-clause-few_exports
returns-clause-few_exports g c =
    let given = c.in_default.ensures.found (entries c.exports.found.items) c.exports.invariant.visited c.exports.invariant.found in
    let few = (subst (λ (s : Source). HasListed s (entries c.exports.found.items) given.0) c.exports.invariant.source given.1).few_exports in
    let long = length-map c.exports.found.items entry_of in omega (arith, few, long)

pub returns-clause-visits : goal.returns-clause-visits
returns-clause-visits g c =
    let given = c.in_default.ensures.found (entries c.exports.found.items) c.exports.invariant.visited c.exports.invariant.found in
    let all = (subst (λ (s : Source). HasListed s (entries c.exports.found.items) given.0) c.exports.invariant.source given.1).visits in
    all_visits (omega (arith, given.3, c.exports.invariant.count)) _ all

pub returns-clause-few_visits : goal.returns-clause-few_visits
returns-clause-few_visits g c =
    let given = c.in_default.ensures.found (entries c.exports.found.items) c.exports.invariant.visited c.exports.invariant.found in
    let few = (subst (λ (s : Source). HasListed s (entries c.exports.found.items) given.0) c.exports.invariant.source given.1).few_visits in
    omega (arith, given.3, few, c.exports.invariant.count)
