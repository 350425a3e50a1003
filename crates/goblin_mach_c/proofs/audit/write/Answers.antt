use Rattle.std.proofs.Common.{ℕ, map, subst}
use Rattle.mach_audit.specs.Findings.{finding_view}
use Rattle.goblin_mach_c.specs.AuditRows.{IsFindingRow}
use Rattle.goblin_mach_c.specs.Say.{FillsBy}
use Rattle.goblin_mach_c.proofs.audit.write.Goals as goal

pub returns : goal.returns
returns c =
    let filled = c.fill_items.ensures.filled tt tt in
    let Fills : ℕ → Type 0 = λ n. FillsBy IsFindingRow (map finding_view c.args.findings.now) c.args.out.now c.fill_items.new.out n in
    subst Fills filled.count filled
