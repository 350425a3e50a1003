use Rattle.std.proofs.Common.{map, arith}
use Rattle.std.proofs.lemmas.List.{at_drop_more}
use Rattle.mach_audit.specs.Findings.{finding_view}
use Rattle.goblin_mach_c.proofs.audit.FindingRowsItemRows.next.Goals as goal

pub returns-clause-says : goal.returns-clause-says
returns-clause-says c = λ _ _.
    let it = c.args.self.now in
    (_, at_drop_more (map finding_view) it.findings.now it.next _ (omega (arith, c.if-self.false)), c.row_of-row.ensures)
