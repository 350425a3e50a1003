use Rattle.mach_cli.proofs.FieldLines.{pairs_are_one_line}
use Rattle.machinfo.proofs.RowLines.{row_line, fact_line, labelled_line}
use Rattle.machinfo.proofs.list_lines.rows_are_lines.Goals as goal

pub returns : goal.returns
returns c = record { row = row_line; pairs = pairs_are_one_line; facts = fact_line; part = labelled_line }
