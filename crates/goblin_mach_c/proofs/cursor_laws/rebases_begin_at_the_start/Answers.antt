use Rattle.std.proofs.Common.{ℕ, sym, subst}
use Rattle.goblin_mach.specs.Fixups.{chained_in}
use Rattle.goblin_mach.specs.Subjects.{lossy_segments_in}
use Rattle.goblin_mach_c.specs.FixupsAfter.{AreFixupsAtStage}
use Rattle.goblin_mach_c.specs.RebasesAfter.{AreRebasesAtStage, rebase_source_there}
use Rattle.goblin_mach_c.specs.Stage.{stage_of}
use Rattle.goblin_mach_c.proofs.cursor_laws.rebases_begin_at_the_start.Goals as goal

pub returns : goal.returns
returns c = λ bytes o k p q items. (
  λ h. let b = h.holds in record {
    ctx = h.ctx;
    cs = h.cs;
    opens = h.opens;
    holds = record {
      by_opcodes = b.by_opcodes;
      fixups = b.fixups;
      opcodes_are = subst (λ (n : ℕ). AreRebasesAtStage (stage_of n) k.opcodes.binds (rebase_source_there h.ctx bytes h.cs) b.by_opcodes) p b.opcodes;
      fixups_are = subst (λ (n : ℕ). AreFixupsAtStage (stage_of n) k.chains.chains (chained_in h.ctx bytes h.cs) (lossy_segments_in h.ctx bytes h.cs)
          b.fixups) q b.chains;
      are = b.are;
    };
  },
  λ h. let b = h.holds in record {
    ctx = h.ctx;
    cs = h.cs;
    opens = h.opens;
    holds = record {
      by_opcodes = b.by_opcodes;
      fixups = b.fixups;
      opcodes = subst (λ (n : ℕ). AreRebasesAtStage (stage_of n) k.opcodes.binds (rebase_source_there h.ctx bytes h.cs) b.by_opcodes) (sym p) b.opcodes_are;
      chains = subst (λ (n : ℕ). AreFixupsAtStage (stage_of n) k.chains.chains (chained_in h.ctx bytes h.cs) (lossy_segments_in h.ctx bytes h.cs)
          b.fixups) (sym q) b.fixups_are;
      are = b.are;
    };
  },
)
