use Rattle.std.proofs.Common.{ℕ, List, ◌∷◌, Result, Err, sym, ap, ◌∙◌, length, arith}
use Rattle.mach_base.specs.Fault.{Fault, fault_of}
use Rattle.mach_records.specs.declared.versions.BuildToolVersion.{BuildToolVersion}
use Rattle.mach_load.specs.TablesLeft.{tools_view}
use Rattle.mach_load.proofs.StartsRead.{fewer_after}
use Rattle.mach_load.proofs.ToolsRead.{tool_first, tool_fault, tools_end}
use Rattle.mach_load.proofs.build_tools.BuildToolIteratorIterator.next.Goals as goal

pub returns-in-Ok-clause-steps : goal.returns-in-Ok-clause-steps
returns-in-Ok-clause-steps c =
    let it = c.seek.new.self in
    sym c.seek.ensures.same
    ∙ tool_first it.le it.bytes.now it.commands.now it.number it.next (tools_view it.tools) it.tools.index c.in-Ok.tool (omega arith) c.in-Ok.ensures

pub returns-in-Ok-clause-goes : goal.returns-in-Ok-clause-goes
returns-in-Ok-clause-goes c =
    record {
      on = λ _. (tt, tt, fewer_after _ _ _ (returns-in-Ok-clause-steps c));
      keeps = tt;
      rests = λ _. tt;
    }

pub returns-in-Err-clause-steps : goal.returns-in-Err-clause-steps
returns-in-Err-clause-steps c =
    let it = c.seek.new.self in
    let t = it.tools in
    sym c.seek.ensures.same
    ∙ (tool_fault it.le it.bytes.now it.commands.now it.number it.next (tools_view t) t.index (fault_of c.in-Err.e) (omega arith) c.in-Err.ensures
    ∙ ap (λ (items : List (Result (ℕ × BuildToolVersion) Fault)). Err (fault_of c.in-Err.e) ∷ items)
    (sym (tools_end it.le it.bytes.now it.commands.now it.number (length it.commands.now) (record { place = t.place; size = t.size; count = 0 }) t.index
    (omega arith) (omega arith))))

pub returns-in-Err-clause-goes : goal.returns-in-Err-clause-goes
returns-in-Err-clause-goes c =
    record {
      on = λ _. (tt, tt, fewer_after _ _ _ (returns-in-Err-clause-steps c));
      keeps = tt;
      rests = λ _. tt;
    }
