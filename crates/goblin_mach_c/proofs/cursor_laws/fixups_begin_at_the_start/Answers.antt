use Rattle.std.proofs.Common.{sym, subst}
use Rattle.goblin_mach.specs.Fixups.{chained_in}
use Rattle.goblin_mach.specs.Subjects.{lossy_segments_in}
use Rattle.goblin_mach_c.specs.FixupsAfter.{AreFixupsAtStage}
use Rattle.goblin_mach_c.specs.Stage.{stage_of}
use Rattle.goblin_mach_c.proofs.cursor_laws.fixups_begin_at_the_start.Goals as goal

pub returns : goal.returns
returns c = λ bytes o k e items. (
  λ q. record {
    ctx = q.ctx;
    cs = q.cs;
    opens = q.opens;
    holds = subst (λ n. AreFixupsAtStage (stage_of n) k.chains (chained_in q.ctx bytes q.cs) (lossy_segments_in q.ctx bytes q.cs) items) e q.holds;
  },
  λ q. record {
    ctx = q.ctx;
    cs = q.cs;
    opens = q.opens;
    holds = subst (λ n. AreFixupsAtStage (stage_of n) k.chains (chained_in q.ctx bytes q.cs) (lossy_segments_in q.ctx bytes q.cs) items) (sym e) q.holds;
  },
)
