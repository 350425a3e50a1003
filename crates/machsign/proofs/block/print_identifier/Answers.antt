use Rattle.std.proofs.Common.{List, Option, Result, ℕ, subst}
use Rattle.std.specs.Prelude.{OnOk, codes}
use Rattle.std.specs.Io.KnownBytes.{Appends}
use Rattle.mach_base.specs.Fault.{Fault}
use Rattle.mach_base.proofs.ItemLists.{read_as-Reads}
use Rattle.machsign.specs.Blocks.{name_line}
use Rattle.machsign.proofs.block.print_identifier.Goals as goal

pub returns : goal.returns
returns g c =
    subst
    (λ (name : Result (Option (List ℕ)) Fault).
    OnOk c.print_name.result (Appends (g.O.Write.contents c.args.out.now) (g.O.Write.contents c.print_name.new.out) (name_line (codes "identifier") name)))
    (read_as-Reads _ _ _ c.identifier.ensures) c.print_name.ensures
