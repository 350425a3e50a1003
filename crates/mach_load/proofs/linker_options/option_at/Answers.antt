use Rattle.mach_load.proofs.OptionsRead.{text_is_run}
use Rattle.mach_load.proofs.linker_options.option_at.Goals as goal

pub returns-then-text-bytes-clause-run : goal.returns-then-text-bytes-clause-run
returns-then-text-bytes-clause-run c = text_is_run c.args.bytes.now c.args.place c.in_ok-text.text.now c.in_ok-text.ensures.text
