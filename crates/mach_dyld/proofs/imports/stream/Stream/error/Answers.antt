use Rattle.mach_dyld.proofs.BindNames.{◌∙◌, [], ◌∷◌, Err, sym, ap, subst}
use Rattle.mach_dyld.specs.Machine.{StopsFor}
use Rattle.mach_dyld.proofs.StreamStops.{at_instruction, at_bind}
use Rattle.mach_dyld.proofs.imports.stream.Stream.error.Goals as goal

pub returns-in-Instruction : goal.returns-in-Instruction
returns-in-Instruction g c =
    at_instruction g.M.BindRules.rules g.M.BindRules.reads c.args.self c.in-Instruction.byte (g.M.BindRules.fault c.unreadable.result)
    (subst (StopsFor g.M.BindRules.rules c.args.self) c.in-Instruction.is c.requires) c.unreadable.ensures

pub returns-in-Bind : goal.returns-in-Bind
returns-in-Bind g c =
    at_bind g.M.BindRules.rules g.M.BindRules.reads c.args.self (subst (StopsFor g.M.BindRules.rules c.args.self) c.in-Bind.is c.requires)
    ∙ ap (λ f. Err f ∷ []) (sym c.refusal.ensures)
