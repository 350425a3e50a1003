use Rattle.std.proofs.Common.{◌≡◌, ◌<◌, ◌∙◌, ℕ, List, true, nat_le, get_or, refl, sym, arith}
use Rattle.std.proofs.lemmas.Bool.{leb-true}
use Rattle.std.specs.Prelude.{IsTrue}
use Rattle.mach_dyld.specs.Nodes.{branches_at}
use Rattle.mach_dyld.specs.Nowhere.{lead_nowhere, AreBarren}
use Rattle.mach_dyld.specs.declared.trie.walk.Source.{Source}
use Rattle.mach_dyld.specs.declared.trie.node.BranchRun.{BranchRun}
use Rattle.mach_dyld.proofs.BarrenRuns.{barren_leads, fewer_barren}
use Rattle.mach_dyld.proofs.LookUpSettles.{none_readable, none_left_settles}
use Rattle.mach_dyld.specs.Views.{branches_of}
use Rattle.mach_dyld.proofs.LookUpSettles.{is_first, stops_there, stops_empty, readable_next, settles_on}
use Rattle.mach_dyld.proofs.BranchAgain.{is_ok}
use Rattle.mach_dyld.proofs.trie.look_up.settle.Goals as goal

abbrev known_barren : (s : Source) (known : List ℕ) (b : BranchRun) → AreBarren s known → IsTrue (nat_le b.left (get_or known b.place 0))
    → lead_nowhere s.upto (branches_of s.bytes.now s.from b) ≡ true
known_barren s known b barren is =
    barren_leads s.upto (branches_at s.bytes.now s.from b.left b.place)
    (fewer_barren s b.left (get_or known b.place 0) b.place (leb-true b.left (get_or known b.place 0) is) (barren b.place))

pub returns-then-know-clause-readable : goal.returns-then-know-clause-readable
returns-then-know-clause-readable g c = none_readable c.args.source.now c.args.branches.place

pub returns-then-know-clause-settles : goal.returns-then-know-clause-settles
returns-then-know-clause-settles g c =
    none_left_settles c.args.source.now c.args.branches.place c.args.rest.now (branches_of c.args.source.now.bytes.now c.args.source.now.from c.args.branches)
    (known_barren c.args.source.now c.args.barren.now c.args.branches c.requires.barren (sym c.know.ensures ∙ c.if-know.true))

pub returns-then-know-clause-stops : goal.returns-then-know-clause-stops
returns-then-know-clause-stops g c =
    stops_empty c.args.source.now c.args.rest.now (record { left = 0; place = c.args.branches.place })
    (none_readable c.args.source.now c.args.branches.place) refl

pub loop-init : goal.loop-init
loop-init g c = (omega arith, c.requires.readable, record { number = 0; dropped = refl; finds = λ found x. x })

pub read_again-after-requires : goal.read_again-after-requires
read_again-after-requires g c =
    let count = c.loop.invariant.0 in let test = c.loop-test.true in
    is_ok (is_first c.args.source.now c.args.rest.now c.loop.left c.loop.invariant.1 (omega arith)).1

pub returns-then-leads-clause-readable : goal.returns-then-leads-clause-readable
returns-then-leads-clause-readable g c = c.loop.invariant.1

pub returns-then-leads-clause-settles : goal.returns-then-leads-clause-settles
returns-then-leads-clause-settles g c = c.loop.invariant.2

pub returns-then-leads-clause-stops : goal.returns-then-leads-clause-stops
returns-then-leads-clause-stops g c =
    let count = c.loop.invariant.0 in let test = c.loop-test.true in
    stops_there c.args.source.now c.args.rest.now c.loop.left c.loop.invariant.1
    (omega arith) c.read_again-after.result.0.label.now c.read_again-after.result.0.start c.read_again-after.result.1 c.read_again-after.ensures
    (c.leads.ensures.yes c.if-leads.true)

pub overflow_sub-left : goal.overflow_sub-left
overflow_sub-left g c = let count = c.loop.invariant.0 in let test = c.loop-test.true in omega arith

pub loop-preserved : goal.loop-preserved
loop-preserved g c =
    let count = c.loop.invariant.0 in let test = c.loop-test.true in
    let some : 0 < c.loop.left.left = omega arith in (
      omega arith,
      readable_next c.args.source.now c.args.rest.now c.loop.left c.loop.invariant.1 some _ _ _ c.read_again-after.ensures,
      settles_on c.args.source.now c.args.rest.now c.loop.left c.loop.invariant.1 some _ _ _ c.read_again-after.ensures
          (branches_of c.args.source.now.bytes.now c.args.source.now.from c.args.branches) c.loop.invariant.2 (c.leads.ensures.no c.if-leads.false),
    )

pub returns-clause-readable : goal.returns-clause-readable
returns-clause-readable g c = c.loop.invariant.1

pub returns-clause-settles : goal.returns-clause-settles
returns-clause-settles g c = c.loop.invariant.2

pub returns-clause-stops : goal.returns-clause-stops
returns-clause-stops g c =
    let count = c.loop.invariant.0 in let test = c.loop-test.false in
    stops_empty c.args.source.now c.args.rest.now c.loop.left c.loop.invariant.1 (omega arith)
