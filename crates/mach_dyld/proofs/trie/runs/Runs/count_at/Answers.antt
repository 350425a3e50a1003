use Rattle.mach_dyld.proofs.TrieNames.{arith}
use Rattle.mach_dyld.proofs.BarrenRuns.{no_barren, count_there}
use Rattle.mach_dyld.proofs.trie.runs.Runs.count_at.Goals as goal

pub returns-then-tail-place : goal.returns-then-tail-place
returns-then-tail-place g c = no_barren c.args.source.now c.args.place

pub returns-in-Some : goal.returns-in-Some
returns-in-Some g c =
    count_there c.args.source.now c.args.self.now c.args.place c.in-Some.after c.saturating_add.result c.args.tail c.requires.barren c.requires.tail
    c.if-tail-place.false c.in-Some.is (let was = c.at.ensures.value in let sum = c.saturating_add.ensures in omega (arith, was, sum))

pub returns-in-None : goal.returns-in-None
returns-in-None g c = no_barren c.args.source.now c.args.place
