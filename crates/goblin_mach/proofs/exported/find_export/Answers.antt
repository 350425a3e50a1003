use Rattle.std.proofs.Common.{◌≢◌, sym, rules}
use Rattle.std.specs.Prelude.{string_bytes}
use Rattle.std.proofs.lemmas.List.{take_all}
use Rattle.std.proofs.lemmas.List.Elements.{All-more}
use Rattle.goblin_mach.proofs.ExportedOrNot.{none-named, first-named}
use Rattle.goblin_mach.proofs.exported.find_export.Goals as goal

pub returns-then-eq-clause-found : goal.returns-then-eq-clause-found
returns-then-eq-clause-found g c = (
  c.loop-export.export-index,
  first-named c.args.name.now c.args.exports.now c.loop-export.export-index c.export-item.result c.loop-export-test.true c.export-item.is (search rules)
      c.loop-export.invariant,
)

pub loop-export-preserved : goal.loop-export-preserved
loop-export-preserved g c =
    All-more (λ x. string_bytes x.name ≢ c.args.name.now) c.args.exports.now c.loop-export.export-index c.export-item.result c.loop-export-test.true
    c.loop-export.invariant
    (rw (sym c.export-item.is) (search rules))

pub returns-clause-none : goal.returns-clause-none
returns-clause-none g c =
    none-named c.args.name.now c.args.exports.now (rw (take_all c.loop-export.export-index c.args.exports.now c.loop-export-test.false)
    at c.loop-export.invariant)
