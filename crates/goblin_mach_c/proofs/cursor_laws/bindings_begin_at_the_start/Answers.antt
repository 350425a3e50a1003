use Rattle.goblin_mach.specs.Fixups.{chained_in}
use Rattle.goblin_mach_c.specs.ImportsAfter.{binds_there}
use Rattle.goblin_mach_c.proofs.BeginsThere.{after_start, whole_list}
use Rattle.goblin_mach_c.proofs.cursor_laws.bindings_begin_at_the_start.Goals as goal

pub returns : goal.returns
returns c = λ bytes o k p q items. (
  λ h. record {
    ctx = h.ctx;
    cs = h.cs;
    opens = h.opens;
    holds = whole_list k (binds_there h.ctx bytes h.cs) (chained_in h.ctx bytes h.cs) items p q h.holds;
  },
  λ h. record {
    ctx = h.ctx;
    cs = h.cs;
    opens = h.opens;
    holds = after_start k (binds_there h.ctx bytes h.cs) (chained_in h.ctx bytes h.cs) items p q h.holds;
  },
)
