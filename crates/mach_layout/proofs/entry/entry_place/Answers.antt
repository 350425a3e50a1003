use Rattle.std.proofs.Common.{List, ℕ, sym, ap, ◌∙◌}
use Rattle.mach_load.specs.ThreadState.{pointer_in}
use Rattle.mach_load.proofs.Words.{words_back}
use Rattle.mach_layout.specs.Entry.{pointer_place}
use Rattle.mach_layout.proofs.entry.entry_place.Goals as goal

pub returns-in-Ok : goal.returns-in-Ok
returns-in-Ok c =
    rw c.in-Unixthread.is
    (sym (ap pointer_place (ap (λ (words : List ℕ). pointer_in words c.args.cputype) (words_back c.in-Unixthread.c.thread_state) ∙ c.in-Ok.ensures)))
