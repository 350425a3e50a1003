use Rattle.std.proofs.Common.{sym, subst}
use Rattle.goblin_mach.specs.Fixups.{base_of}
use Rattle.goblin_mach.specs.Subjects.{lossy_segments_in}
use Rattle.goblin_mach.specs.Tables.{starts_place_in}
use Rattle.goblin_mach_c.specs.Stage.{stage_of}
use Rattle.goblin_mach_c.specs.StartsAfter.{AreStartsAtStage}
use Rattle.goblin_mach_c.proofs.cursor_laws.starts_begin_at_the_start.Goals as goal

pub returns : goal.returns
returns c = λ bytes o k e items. (
  λ q. record {
    ctx = q.ctx;
    cs = q.cs;
    opens = q.opens;
    holds = subst (λ n. AreStartsAtStage (stage_of n) k bytes (starts_place_in q.cs) (base_of (lossy_segments_in q.ctx bytes q.cs)) items) e q.holds;
  },
  λ q. record {
    ctx = q.ctx;
    cs = q.cs;
    opens = q.opens;
    holds = subst (λ n. AreStartsAtStage (stage_of n) k bytes (starts_place_in q.cs) (base_of (lossy_segments_in q.ctx bytes q.cs)) items) (sym e) q.holds;
  },
)
