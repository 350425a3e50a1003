use Rattle.std.proofs.Common.{[]}
use Rattle.std.specs.Prelude.{codes}
use Rattle.mach_cli.specs.JsonArrays.{NamedRows}
use Rattle.machsyms.proofs.Written.{list_and_past, ok_more}
use Rattle.machsyms.proofs.members.write_none.Goals as goal

pub returns : goal.returns
returns g c =
    let list : NamedRows = record { name = codes "symbols"; rows = [] } in
    ok_more _ _ c.print_end_past.result (λ outcome end.
    list_and_past c.args.left list 0 c.in_ok-reported.reported outcome.whole outcome.left _ _ _ c.in_ok-reported.ensures end) c.print_end_past.ensures
