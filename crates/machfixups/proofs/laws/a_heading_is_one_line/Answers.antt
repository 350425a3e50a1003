use Rattle.std.proofs.Common.{refl}
use Rattle.std.specs.Prelude.{codes}
use Rattle.machfixups.proofs.laws.a_heading_is_one_line.Goals as goal

pub returns : goal.returns
returns c = record { line = codes "ADDRESS     SEGMENT      SECTION          KIND   FROM                 TARGET"; whole = refl; one = refl }
