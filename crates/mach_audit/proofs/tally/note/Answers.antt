use Rattle.std.proofs.Common.{arith, refl}
use Rattle.mach_audit.proofs.Reported.{counted_fault, kept_fault}
use Rattle.mach_audit.specs.declared.report.ItemFault.{ItemFault}
use Rattle.mach_audit.proofs.tally.note.Goals as goal

pub returns-in_ok-push : goal.returns-in_ok-push
returns-in_ok-push g c =
    let found : ItemFault = record { place = c.args.place; error = c.args.error } in record {
      reported = λ faults few before. kept_fault faults found c.args.part.now _ before (omega (arith, c.saturating_add-part.ensures, before.count, few))
          (omega (arith, c.if-len-lt-MOST_REPORTED.true, c.len.ensures)) c.in_ok-push.ensures.items;
      kept = refl;
    }

pub returns-else-len-lt-MOST_REPORTED : goal.returns-else-len-lt-MOST_REPORTED
returns-else-len-lt-MOST_REPORTED g c =
    let found : ItemFault = record { place = c.args.place; error = c.args.error } in record {
      reported = λ faults few before. counted_fault faults found c.args.part.now _ before (omega (arith, c.saturating_add-part.ensures, before.count, few))
          (omega (arith, c.if-len-lt-MOST_REPORTED.false, c.len.ensures)) refl;
      kept = refl;
    }
