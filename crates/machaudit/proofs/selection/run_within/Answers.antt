use Rattle.std.proofs.Common.{◌≡◌, List, length, arith, subst, take_all}
use Rattle.mach_parts.specs.declared.fat.FatArch.{FatArch}
use Rattle.machaudit.specs.Audited.{AreAudited, AuditsAll, all_entries, first_entries}
use Rattle.machaudit.proofs.selection.run_within.Goals as goal

pub returns-clause-sound : goal.returns-clause-sound
returns-clause-sound g c = rw (take_all c.entries_within-most.result c.args.archs.now c.if-most-archs.false) at c.in_ok-status.ensures.sound

pub returns-then-most-archs-clause-written : goal.returns-then-most-archs-clause-written
returns-then-most-archs-clause-written g c =
    rw c.left_out.ensures (first_entries c.entries_within-most.result c.in_ok-status.status c.if-most-archs.true c.entries_within-most.ensures
    c.in_ok-status.ensures.audited)

pub returns-clause-written : goal.returns-clause-written
returns-clause-written g c =
    let most = c.entries_within-most in
    let archs = c.args.archs.now in
    let cpu = c.args.cpu in
    let call = c.args.call in
    let status = c.in_ok-status.status in
    let is : most.result ≡ length archs = omega (arith, most.ensures.few, c.if-most-archs.false) in
    let audits = λ (some : List FatArch).
    AuditsAll g.W.Write.contents call.options cpu call.name.now c.args.bytes.now some c.args.out.now c.run_entries.new.out status
    in
    all_entries status (subst (AreAudited cpu c.args.bytes.now archs) is most.ensures)
    (subst audits (take_all most.result archs c.if-most-archs.false) c.in_ok-status.ensures.audited)
