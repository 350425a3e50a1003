use Rattle.mach_dyld.proofs.LookUps.{ok_in}
use Rattle.machinfo.proofs.list_lines.LinesListUse.of_list.Goals as goal

pub returns : goal.returns
returns g c = ok_in c.print_listing.result _ _ (λ outcome listed. (listed.text, listed.lines, listed.written)) c.print_listing.ensures
