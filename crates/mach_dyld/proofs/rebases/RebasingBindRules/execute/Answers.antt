use Rattle.mach_dyld.proofs.BindNames.{ap, sym, Ok, range_of}
use Rattle.mach_dyld.specs.Sites.{site_in}
use Rattle.mach_dyld.specs.declared.imports.settings.Settings.{Settings}
use Rattle.mach_dyld.proofs.StreamReading.{rebase_done, rebase_table}
use Rattle.mach_dyld.proofs.rebases.RebasingBindRules.execute.Goals as goal

pub returns-then-opcode-eq-REBASE_OPCODE_DONE-clause-value : goal.returns-then-opcode-eq-REBASE_OPCODE_DONE-clause-value
returns-then-opcode-eq-REBASE_OPCODE_DONE-clause-value c =
    let s = c.args.state.now in
    rw (rebase_done (range_of s) c.args.pointer c.args.bytes.now s.place c.args.byte c.requires.byte c.if-opcode-eq-REBASE_OPCODE_DONE.true c.requires.within)
    (ap Ok (c.go_to.ensures.state c.args.pointer))

pub returns-then-opcode-eq-REBASE_OPCODE_DONE-clause-site : goal.returns-then-opcode-eq-REBASE_OPCODE_DONE-clause-site
returns-then-opcode-eq-REBASE_OPCODE_DONE-clause-site c =
    let s = c.args.state.now in
    rw (rebase_done (range_of s) c.args.pointer c.args.bytes.now s.place c.args.byte c.requires.byte c.if-opcode-eq-REBASE_OPCODE_DONE.true c.requires.within)
    (ap (λ (n : Settings). Ok (site_in n)) (sym c.go_to.ensures.settings))

pub returns-clause-value : goal.returns-clause-value
returns-clause-value c =
    let s = c.args.state.now in
    rw (rebase_table (range_of s) c.args.pointer c.args.bytes.now s.place c.args.byte c.requires.byte) (c.execute.ensures.value (range_of s))

pub returns-clause-site : goal.returns-clause-site
returns-clause-site c =
    let s = c.args.state.now in
    rw (rebase_table (range_of s) c.args.pointer c.args.bytes.now s.place c.args.byte c.requires.byte) (c.execute.ensures.site (range_of s))
