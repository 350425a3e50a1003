use Rattle.std.proofs.Common.{refl, ap, arith}
use Rattle.mach_base.specs.Fault.{fault_of}
use Rattle.goblin_mach_c.proofs.ListedParts.{option_comes, option_fails}
use Rattle.goblin_mach_c.proofs.options.OptionsLists.next.Goals as goal

pub returns-in-Ok : goal.returns-in-Ok
returns-in-Ok c =
    let p = c.args.part.now in
    let some = c.if-part-eq0.false in (
      (p.command, p.place, c.in-Ok.found.now),
      option_comes c.args.self.now.bytes.now p c.front.result.now c.in-Ok.found.now c.front.ensures (omega (arith, some)) c.in-Ok.ensures.text
          c.in-Ok.ensures.run,
      refl,
    )

pub returns-in-Err : goal.returns-in-Err
returns-in-Err c =
    let p = c.args.part.now in
    let some = c.if-part-eq0.false in (
      fault_of c.in-Err.why,
      _,
      option_fails c.args.self.now.bytes.now p c.front.result.now (fault_of c.in-Err.why) c.front.ensures (omega (arith, some)) c.in-Err.ensures.text,
      ap (λ n. record { command = 0; text = 0; text_len = 0; code = n; reserved = 0 }) c.code_of.ensures.code,
    )
