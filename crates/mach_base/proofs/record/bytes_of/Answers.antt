use Rattle.std.proofs.Common.{[], ◌∙◌}
use Rattle.mach_base.proofs.Spelled.{spelled_after-front}
use Rattle.mach_base.proofs.record.bytes_of.Goals as goal

pub returns-clause-spelled : goal.returns-clause-spelled
returns-clause-spelled g c =
    c.store.ensures.spelled ∙ spelled_after-front c.args.le [] g.R.Record.fields (g.R.Record.values c.args.held)
