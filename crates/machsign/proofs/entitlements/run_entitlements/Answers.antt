use Rattle.std.specs.Prelude.{codes}
use Rattle.mach_cli.specs.Foreigners.{refused_words}
use Rattle.mach_cli.specs.Names.{names_text}
use Rattle.mach_cli.specs.PartsOf.{entry_counts}
use Rattle.mach_cli.specs.Refusals.{complaint}
use Rattle.machsign.specs.Entitlements.{none_has_some, none_words, file_is_refused}
use Rattle.machsign.proofs.entitlements.run_entitlements.Goals as goal

pub returns-in-Ok-None-clause-reported : goal.returns-in-Ok-None-clause-reported
returns-in-Ok-None-clause-reported g c = λ one.
    let none = rw c.in-Ok-None.field-0-is at c.in-Ok-None.ensures.found in (
      complaint (names_text (codes "machsign") c.args.file.now) (none_words (entry_counts c.args.bytes.now).left_out),
      none_has_some none,
      rw c.reason_of_none.ensures at c.refuse.ensures.reported one,
    )

pub returns-clause-reported : goal.returns-clause-reported
returns-clause-reported g c = λ one. (
  complaint (names_text (codes "machsign") c.args.file.now) (refused_words c.args.bytes.now c.in-Err.error),
  file_is_refused c.in-Err.error c.in-Err.ensures.refused,
  rw c.refusal_of.ensures at c.refuse-in-Err.ensures.reported one,
)
