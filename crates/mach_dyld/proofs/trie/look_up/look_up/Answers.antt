use Rattle.std.proofs.Common.{refl, subst, arith}
use Rattle.std.proofs.lemmas.Result.{err_from_is_err_and}
use Rattle.std.specs.Prelude.{option_map}
use Rattle.mach_base.proofs.Faults.{ErrorMeets-failed}
use Rattle.mach_dyld.specs.LookUp.{FaultOnWay, at_node_on_way}
use Rattle.mach_dyld.specs.Exports.{info_of}
use Rattle.mach_dyld.specs.Finds.{here, below}
use Rattle.mach_dyld.specs.LookUpState.{ComesTo}
use Rattle.mach_dyld.specs.Views.{source_trie, node_in}
use Rattle.mach_dyld.proofs.LookUps.{ok_in}
use Rattle.mach_dyld.proofs.LookUpFollows as follow
use Rattle.mach_dyld.proofs.LookUpPaths.{occurs_after}
use Rattle.mach_dyld.proofs.trie.look_up.look_up.Goals as goal

pub returns-then-start-source-clause-found : goal.returns-then-start-source-clause-found
returns-then-start-source-clause-found g c =
    follow.root_none c.args.source.now c.args.name.now (omega arith)

pub turns-init : goal.turns-init
turns-init g c =
    follow.begins c.args.source.now c.args.name.now c.args.steps.now (omega arith)

pub returns-in_err-info-clause-refused : goal.returns-in_err-info-clause-refused
returns-in_err-info-clause-refused g c =
    let p = err_from_is_err_and c.from_residual.result c.from_residual.ensures.1 in
    let h = c.turns.invariant in
    rw (p.1, p.2) (ErrorMeets-failed (FaultOnWay (source_trie c.args.source.now) c.args.source.now.from c.args.name.now) c.in_err-info.field-0.0
    (node_in c.args.source.now c.turns.start)
    (λ f e. at_node_on_way f h.path c.turns.start ((c.turns.start, h.leads, h.inside), c.turns.rest.now, h.spelled) h.leads e) c.in_err-info.ensures.err)

pub returns-in_err-info-clause-visits : goal.returns-in_err-info-clause-visits
returns-in_err-info-clause-visits g c =
    follow.ended c.args.source.now c.args.name.now c.turns.invariant c.in_err-info.ensures.visits

pub returns-in_err-info-clause-few_visits : goal.returns-in_err-info-clause-few_visits
returns-in_err-info-clause-few_visits g c =
    follow.few_visits c.args.source.now c.args.name.now c.args.steps.now _
    (follow.ended c.args.source.now c.args.name.now c.turns.invariant c.in_err-info.ensures.visits)

pub returns-in-Found-clause-found : goal.returns-in-Found-clause-found
returns-in-Found-clause-found g c =
    let came = subst (ComesTo c.args.source.now c.turns.start c.turns.rest.now) c.in-Found.is c.in_ok-info.ensures.ok in
    let h = c.turns.invariant in
    h.finds _ (here came.0 (info_of c.in-Found.info) (h.inside, came.1) came.2 came.3 refl)

pub returns-in-Found-clause-visits : goal.returns-in-Found-clause-visits
returns-in-Found-clause-visits g c =
    follow.ended c.args.source.now c.args.name.now c.turns.invariant c.in_ok-info.ensures.visits

pub returns-in-Found-clause-few_visits : goal.returns-in-Found-clause-few_visits
returns-in-Found-clause-few_visits g c =
    follow.few_visits c.args.source.now c.args.name.now c.args.steps.now _
    (follow.ended c.args.source.now c.args.name.now c.turns.invariant c.in_ok-info.ensures.visits)

pub returns-in-Ends-clause-found : goal.returns-in-Ends-clause-found
returns-in-Ends-clause-found g c =
    let came = subst (ComesTo c.args.source.now c.turns.start c.turns.rest.now) c.in-Ends.is c.in_ok-info.ensures.ok in
    let h = c.turns.invariant in
    h.finds _ (below came.0 (h.inside, came.1) came.2 came.3)

pub returns-in-Ends-clause-visits : goal.returns-in-Ends-clause-visits
returns-in-Ends-clause-visits g c =
    follow.ended c.args.source.now c.args.name.now c.turns.invariant c.in_ok-info.ensures.visits

pub returns-in-Ends-clause-few_visits : goal.returns-in-Ends-clause-few_visits
returns-in-Ends-clause-few_visits g c =
    follow.few_visits c.args.source.now c.args.name.now c.args.steps.now _
    (follow.ended c.args.source.now c.args.name.now c.turns.invariant c.in_ok-info.ensures.visits)

pub rest_at-rest-requires : goal.rest_at-rest-requires
rest_at-rest-requires g c =
    let came = subst (ComesTo c.args.source.now c.turns.start c.turns.rest.now) c.in-Child.is c.in_ok-info.ensures.ok in
    follow.len_within c.args.source.now c.args.name.now c.turns.invariant came

pub turns-preserved : goal.turns-preserved
turns-preserved g c =
    let came = subst (ComesTo c.args.source.now c.turns.start c.turns.rest.now) c.in-Child.is c.in_ok-info.ensures.ok in
    follow.goes_on c.args.source.now c.args.name.now c.turns.invariant came c.rest_at-rest.ensures c.in_ok-info.ensures.visits

pub turns-smaller : goal.turns-smaller
turns-smaller g c =
    let came = subst (ComesTo c.args.source.now c.turns.start c.turns.rest.now) c.in-Child.is c.in_ok-info.ensures.ok in
    let less = came.0 in let inside = c.turns.invariant.inside in omega arith

pub search-requires-clause-low : goal.search-requires-clause-low
search-requires-clause-low g c =
    let low = c.turns.invariant.low in omega arith

pub search-requires-clause-inside : goal.search-requires-clause-inside
search-requires-clause-inside g c =
    c.turns.invariant.inside

pub search-requires-clause-passed : goal.search-requires-clause-passed
search-requires-clause-passed g c =
    let came = subst (ComesTo c.args.source.now c.turns.start c.turns.rest.now) c.in-Open.is c.in_ok-info.ensures.ok in
    came

pub returns-in-Open-clause-found : goal.returns-in-Open-clause-found
returns-in-Open-clause-found g c =
    ok_in c.search.result _ _ (λ o f. c.turns.invariant.finds (option_map info_of o) f) c.search.ensures.found

pub returns-in-Open-clause-refused : goal.returns-in-Open-clause-refused
returns-in-Open-clause-refused g c =
    let h = c.turns.invariant in
    occurs_after (source_trie c.args.source.now) h.path c.args.source.now.from c.turns.start c.args.name.now c.turns.rest.now c.search.result h.leads
    h.spelled c.search.ensures.refused

pub returns-in-Open-clause-visits : goal.returns-in-Open-clause-visits
returns-in-Open-clause-visits g c =
    follow.searched c.args.source.now c.args.name.now c.turns.invariant c.in_ok-info.ensures.visits c.search.ensures.visits

pub returns-in-Open-clause-few_visits : goal.returns-in-Open-clause-few_visits
returns-in-Open-clause-few_visits g c =
    follow.few_visits c.args.source.now c.args.name.now c.args.steps.now _
    (follow.searched c.args.source.now c.args.name.now c.turns.invariant c.in_ok-info.ensures.visits c.search.ensures.visits)
