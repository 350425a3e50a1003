use Rattle.std.proofs.Common.{List, Option, Result, ℕ, subst}
use Rattle.std.specs.Prelude.{OnOk}
use Rattle.std.specs.Io.KnownBytes.{Appends}
use Rattle.mach_base.specs.Fault.{Fault}
use Rattle.mach_base.proofs.ItemLists.{read_as-Reads}
use Rattle.machsign.specs.JsonNames.{json_name}
use Rattle.machsign.proofs.members.write_identifier.Goals as goal

pub returns : goal.returns
returns g c =
    subst
    (λ (name : Result (Option (List ℕ)) Fault).
    OnOk c.write_name.result (Appends (g.O.Write.contents c.args.out.now) (g.O.Write.contents c.write_name.new.out) (json_name name)))
    (read_as-Reads _ _ _ c.identifier.ensures) c.write_name.ensures
