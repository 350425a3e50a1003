use Rattle.std.proofs.Common.{drop}
use Rattle.machfat.specs.Same.{AreOther}
use Rattle.machfat.proofs.new_file.first_same.Given as goal

abbrev pub invariant-paths : goal.invariant-paths
invariant-paths g l = AreOther (drop l.path-index l.paths) l.other → AreOther l.paths l.other
