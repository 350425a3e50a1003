use Rattle.mach_dyld.proofs.TrieNames.{inl, inr, arith, cases_eq}
use Rattle.mach_dyld.proofs.BarrenRuns.{barren_inside, raised_barren}
use Rattle.mach_dyld.proofs.trie.runs.Runs.learn.Goals as goal

pub returns-clause-barren : goal.returns-clause-barren
returns-clause-barren g c =
    raised_barren c.args.source.now c.fill.new.self c.raise.new.self c.args.run.place c.args.run.left c.in_ok-fill.ensures.barren c.requires.nowhere
    c.raise.ensures.here c.raise.ensures.others

pub returns-clause-learned : goal.returns-clause-learned
returns-clause-learned g c = λ small. elim (cases_eq c.args.run.left 0) [
  | inl none ↦ omega (arith, none)
  | inr some ↦
      let inside = barren_inside c.args.source.now c.args.run.left c.args.run.place (omega (arith, some)) c.requires.nowhere in
      let room = c.in_ok-fill.ensures.room in
      let few = c.requires.few in
      c.raise.ensures.raised (omega (arith, inside, room)) (omega (arith, few, small))
]
