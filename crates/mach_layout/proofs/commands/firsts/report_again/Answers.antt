use Rattle.std.proofs.Common.{◌+◌, List, length, map, take, Option, Some, refl, sym, ap, subst, ◌∙◌}
use Rattle.std.proofs.Math.ListN.{length-set}
use Rattle.std.specs.Prelude.{Vec}
use Rattle.mach_load.specs.Variants.{command_of}
use Rattle.mach_layout.specs.declared.fault.LayoutFault.{LayoutFault}
use Rattle.mach_layout.specs.declared.fault.Owner.{Owner}
use Rattle.mach_layout.proofs.Firsts.{AreFirsts, reported_none, reported_first, reported_again, firsts_none, firsts_kept, firsts_made}
use Rattle.mach_layout.proofs.commands.firsts.report_again.Goals as goal
use Rattle.mach_layout.proofs.commands.firsts.report_again.Goals.{in-Some-firsts+in_ok-push-in-Some-firsts, in-None}

pub loop-command-preserved-in_default : goal.loop-command-preserved-in_default
loop-command-preserved-in_default g c =
    let inv = c.loop-command.invariant in
    let xs = c.args.commands.now in
    let i = c.loop-command.command-index in
    let lt = c.loop-command-test.true in
    let none = sym c.set_of.ensures.value ∙ c.in_default.is in record {
      reported = reported_none _ _ _ c.loop-command.firsts xs i _ lt inv.reported refl none;
      firsts = firsts_none c.loop-command.firsts xs i _ lt inv.firsts none;
      len = inv.len;
    }

pub loop-command-preserved : goal.loop-command-preserved
loop-command-preserved g c =
    let inv = c.loop-command.invariant in
    let xs = c.args.commands.now in
    let i = c.loop-command.command-index in
    let lt = c.loop-command-test.true in
    let own = c.in-Some.set in
    let is = sym c.set_of.ensures.value ∙ c.in-Some.is in
    let few = c.in-Some.ensures.few in
    let marks = c.loop-command.firsts in
    elim c.match-firsts-set.branch [
      | in-Some-firsts+in_ok-push-in-Some-firsts w ↦
          let mark = w.in-Some-firsts.is in
          let items = ap (λ (v : Vec LayoutFault _). v.items) w.faults-is ∙ w.in_ok-push-in-Some-firsts.ensures.items in
          record {
            reported = reported_again _ _ _ marks xs i _ lt inv.reported own _ _ few inv.firsts is mark items w.once_more.ensures;
            firsts =
                subst (λ (marks : List (Option Owner)). AreFirsts marks (map command_of (take (i + 1) xs))) (sym w.firsts-is)
                (firsts_kept marks xs i _ lt own _ few inv.firsts is mark);
            len = ap (λ (marks : List (Option Owner)). length marks) w.firsts-is ∙ inv.len;
          }
      | in-None w ↦
          let mark = w.in-None.is in
          let items = ap (λ (v : Vec LayoutFault _). v.items) w.faults-is in
          record {
            reported = reported_first _ _ _ marks xs i _ lt inv.reported own few inv.firsts is mark items;
            firsts =
                subst (λ (marks : List (Option Owner)). AreFirsts marks (map command_of (take (i + 1) xs))) (sym w.firsts-is)
                (firsts_made marks xs i _ lt own _ inv.len few inv.firsts is mark w.command_owner.ensures);
            len =
                ap (λ (marks : List (Option Owner)). length marks) w.firsts-is
                ∙ length-set marks own (Some w.command_owner.result) ∙ inv.len;
          }
    ]
