use Rattle.std.proofs.Common.{ℕ, List, subst}
use Rattle.std.specs.Prelude.{OnOk}
use Rattle.std.specs.Io.KnownBytes.{Appends}
use Rattle.mach_base.specs.Named.{Named}
use Rattle.mach_records.specs.FlagNames.{code_flags}
use Rattle.mach_cli.specs.Flags.{worded_flags_text}
use Rattle.mach_cli.proofs.flags.print_code_flags.Goals as goal

pub returns : goal.returns
returns g c =
    let old = g.O.Write.contents c.args.out.now in
    let new = g.O.Write.contents c.print_flags.new.out in
    subst (λ (n : ℕ). OnOk c.print_flags.result (Appends old new (worded_flags_text code_flags n))) c.from.ensures
    (subst (λ (words : List Named). OnOk c.print_flags.result (Appends old new (worded_flags_text words c.from.result))) c.code_flags.ensures
    c.print_flags.ensures)
