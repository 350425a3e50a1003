use Rattle.std.proofs.Common.{List, take, Some, None, refl, sym, subst}
use Rattle.std.proofs.lemmas.List.{append-nil}
use Rattle.mach_base.specs.Fault.{fault_of}
use Rattle.mach_audit.specs.Reported.{FaultAt, ReportsFirstFaults, faults_of}
use Rattle.mach_audit.proofs.Reported.{met_one_more, countable}
use Rattle.mach_audit.proofs.tally.Tally.take.Goals as goal

pub returns-in_ok-note-clause-met : goal.returns-in_ok-note-clause-met
returns-in_ok-note-clause-met g c = λ limit items met.
    let t = c.args.self.now in
    let some = c.in-Some.ensures.0 in
    let few = countable limit items t met some in
    let reports = c.in_ok-note.ensures.reported (faults_of (take limit items)) few met.reports.faults in
    rw (c.in-Some-error.is, c.in-Some.ensures.1)
    (met_one_more limit items (Some (c.args.place, fault_of c.in-Some-error.error)) t c.note.new.part met some reports c.in_ok-note.ensures.kept)

pub returns-in_default-error-clause-met : goal.returns-in_default-error-clause-met
returns-in_default-error-clause-met g c = λ limit items met.
    let t = c.args.self.now in
    let same = append-nil (faults_of (take limit items)) in
    let reports = subst (λ (fs : List FaultAt). ReportsFirstFaults fs t.part) (sym same) met.reports.faults in
    rw (c.in_default-error.is, c.in-Some.ensures.1) (met_one_more limit items None t t.part met c.in-Some.ensures.0 reports refl)
