use Rattle.std.proofs.Common.{◌∙◌, List, ap, drop, subst}
use Rattle.mach_base.specs.Fault.{Fault}
use Rattle.std.specs.Prelude.{Result}
use Rattle.goblin_mach.specs.ImageFacts.{facts_view}
use Rattle.mach_audit.specs.declared.security.Finding.{Finding}
use Rattle.goblin_mach_c.specs.Fill.{Fills}
use Rattle.goblin_mach_c.specs.SecurityRows.{found_verdict_rows}
use Rattle.goblin_mach_c.proofs.NumberedVerdicts.{rows_of_all}
use Rattle.goblin_mach_c.proofs.security.gmr_security.Goals as goal

pub returns-in-Ok-clause-written : goal.returns-in-Ok-clause-written
returns-in-Ok-clause-written c = λ _.
    let facts = facts_view c.in-Ok.found in
    let rows = ap (λ (found : List (Result Finding Fault)). found_verdict_rows found) c.of.ensures ∙ rows_of_all facts in
    record {
      facts = facts;
      has = c.facts_of_image.ensures.lossy c.args.bytes.now c.args.image.now.offset c.in-Ok.ensures.opened;
      rows = subst (λ l. Fills (drop c.args.first l) c.args.out.now c.write_from.new.out c.write_from.result) rows c.write_from.ensures;
    }
