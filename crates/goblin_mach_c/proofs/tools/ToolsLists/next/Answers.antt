use Rattle.std.proofs.Common.{refl, ap, arith}
use Rattle.mach_base.specs.Fault.{fault_of}
use Rattle.goblin_mach_c.proofs.ListedParts.{tool_comes, tool_fails}
use Rattle.goblin_mach_c.proofs.tools.ToolsLists.next.Goals as goal

pub returns-in-Ok : goal.returns-in-Ok
returns-in-Ok c =
    let p = c.args.part.now in (
      (p.command, c.in-Ok.found),
      tool_comes c.args.self.now.le c.args.self.now.bytes.now p c.in-Ok.found (omega arith) c.in-Ok.ensures,
      refl,
    )

pub returns-in-Err : goal.returns-in-Err
returns-in-Err c =
    let p = c.args.part.now in (
      fault_of c.in-Err.why,
      _,
      tool_fails c.args.self.now.le c.args.self.now.bytes.now p (fault_of c.in-Err.why) (omega arith) c.in-Err.ensures,
      ap (λ n. record { command = 0; tool = 0; version = 0; code = n; reserved = 0 }) c.code_of.ensures.code,
    )
