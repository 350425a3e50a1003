use Rattle.std.proofs.Common.{◌∙◌, true, codes, sym}
use Rattle.mach_cli.specs.Calls.{value_after}
use Rattle.mach_cli.proofs.HexWords.{eight_fit}
use Rattle.mach_cli.proofs.hexadecimal.cputype_in.Goals as goal

pub returns-clause-none : goal.returns-clause-none
returns-clause-none c =
    let digits = value_after true (codes "0x") c.args.word.now in
    rw c.ok.ensures.value (eight_fit _ digits _ c.try_from.result (sym c.number_in.ensures ∙ c.in_ok-number_in.was) c.try_from.ensures)
