use Rattle.std.proofs.Common.{◌∙◌, List, ℕ, Some, sym, ap}
use Rattle.mach_load.specs.ThreadState.{pointer_in}
use Rattle.mach_load.proofs.Words.{words_back}
use Rattle.goblin_mach.proofs.Entries.{seen_read}
use Rattle.goblin_mach.proofs.entry.PointersSubject.read.Goals as goal

pub returns-in-Unixthread : goal.returns-in-Unixthread
returns-in-Unixthread c =
    let cputype = c.args.self.now.cputype in
    let state = c.in-Unixthread.c.thread_state in
    rw c.in-Unixthread.is (seen_read _ c.instruction_pointer.result _ c.instruction_pointer.ensures ∙ ap (λ (words : List ℕ). Some (pointer_in words cputype))
    (sym (words_back state)))
