use Rattle.std.proofs.Common.{ℕ, sym, subst}
use Rattle.goblin_mach_c.specs.Stage.{stage_of}
use Rattle.goblin_mach_c.specs.WeakBindsAfter.{AreWeakBindsAtStage, weak_source_there}
use Rattle.goblin_mach_c.proofs.cursor_laws.weak_binds_begin_at_the_start.Goals as goal

pub returns : goal.returns
returns c = λ bytes o k e items. (
  λ q. record {
    ctx = q.ctx;
    cs = q.cs;
    opens = q.opens;
    holds = subst (λ (n : ℕ). AreWeakBindsAtStage (stage_of n) k.binds (weak_source_there q.ctx bytes q.cs) items) e q.holds;
  },
  λ q. record {
    ctx = q.ctx;
    cs = q.cs;
    opens = q.opens;
    holds = subst (λ (n : ℕ). AreWeakBindsAtStage (stage_of n) k.binds (weak_source_there q.ctx bytes q.cs) items) (sym e) q.holds;
  },
)
