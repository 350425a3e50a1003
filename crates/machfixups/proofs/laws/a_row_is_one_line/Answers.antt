use Rattle.mach_cli.proofs.OneLine.{line-end}
use Rattle.machfixups.specs.RowFields.{pointer_line}
use Rattle.machfixups.proofs.Endings.{no_feed-pointer}
use Rattle.machfixups.proofs.laws.a_row_is_one_line.Goals as goal

pub returns : goal.returns
returns c = λ row. line-end (pointer_line row) (no_feed-pointer row)
