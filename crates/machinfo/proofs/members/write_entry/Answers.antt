use Rattle.std.proofs.Common.{option_map}
use Rattle.machinfo.specs.PartFields.{entry_part_fields, one_row}
use Rattle.machinfo.specs.Parts.{entry_view}
use Rattle.machinfo.proofs.Facts.{entry_rows}
use Rattle.machinfo.proofs.Some.{some}
use Rattle.machinfo.proofs.members.write_entry.Goals as goal

pub returns-clause-written : goal.returns-clause-written
returns-clause-written g c = let t = c.in_ok-reported.ensures in some _ t.written

pub returns-clause-status : goal.returns-clause-status
returns-clause-status g c = λ bytes opened.
    let row = option_map entry_view c.of.result.0 in
    (one_row entry_part_fields row, 0, entry_rows c.args.image.now bytes 0 opened row c.of.ensures, c.in_ok-reported.ensures.counts.whole)
