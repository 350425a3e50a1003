use Rattle.std.proofs.Common.{arith}
use Rattle.goblin_mach.proofs.FatRecords.{below-next}
use Rattle.goblin_mach.proofs.fat_file.table.FatTable.find.Goals as goal

pub entries-init : goal.entries-init
entries-init g c = λ k below. absurd (omega (arith, below))

pub returns-then-f-clause-found : goal.returns-then-f-clause-found
returns-then-f-clause-found g c = (
  c.entries.index,
  record {
    inside = c.entries-test.true;
    taken = record { about = c.about.result; is_about = c.about.ensures; answered = c.if-f.ensures };
    before = c.entries.invariant;
  },
  c.get.ensures,
)

pub entries-preserved : goal.entries-preserved
entries-preserved g c =
    below-next _ c.entries.index c.entries.invariant (record { about = c.about.result; is_about = c.about.ensures; answered = c.if-f.ensures })

pub returns-clause-none : goal.returns-clause-none
returns-clause-none g c = λ k inside. c.entries.invariant k (omega (arith, inside, c.entries-test.false))
