use Rattle.std.proofs.lemmas.Result.{on_ok_weaker}
use Rattle.std.specs.Prelude.{codes}
use Rattle.mach_base.proofs.Written.{Appends-both}
use Rattle.mach_records.specs.FlagNames.{code_flags}
use Rattle.mach_cli.specs.Flags.{worded_flags_text}
use Rattle.machinfo.proofs.signed.print_flags.Goals as goal

pub returns : goal.returns
returns g c =
    on_ok_weaker c.writeln.result
    (λ last. Appends-both _ _ _ (codes "signature flags: ") _ c.in_ok-write.ensures.bytes
    (Appends-both _ _ _ (worded_flags_text code_flags c.args.flags) (codes "\n") c.in_ok-print_code_flags.ensures last))
    c.writeln.ensures.bytes
