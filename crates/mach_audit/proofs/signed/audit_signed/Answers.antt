use Rattle.std.proofs.Common.{[], ◌∷◌, ◌++◌, ◌∙◌, List, sym, ap, subst, rules}
use Rattle.std.proofs.lemmas.List.{append-nil, append_assoc}
use Rattle.mach_signature.specs.AsSigned.{SignatureFaultView}
use Rattle.mach_signature.specs.FaultViews.{signature_fault_view, signature_faults_left}
use Rattle.mach_audit.specs.Signed.{ReportsSignatureFaults}
use Rattle.mach_audit.proofs.signed.audit_signed.Goals as goal

pub faults-init : goal.faults-init
faults-init g c = (
  [],
  sym (ap signature_faults_left c.into_iter-fault-iterator.ensures.into_iter_gives),
  record { reported = search rules; count = search rules },
)

pub faults-preserved : goal.faults-preserved
faults-preserved g c =
    let before = c.faults.invariant in
    let one = signature_fault_view c.in-Some.fault ∷ [] in (
      before.0 ++ one,
      before.1 ∙ ap (λ rest. before.0 ++ rest) c.in-Some.ensures.steps ∙ sym (append_assoc before.0 one (signature_faults_left c.next.new.self)),
      c.in_ok-note.ensures.reported before.0 before.2,
    )

pub returns : goal.returns
returns g c = record {
  reported =
      let before = c.faults.invariant in
      let all = before.1 ∙ ap (λ rest. before.0 ++ rest) c.in-None.ensures.steps.0 ∙ append-nil before.0 in
      subst (λ (reported : List SignatureFaultView). ReportsSignatureFaults reported c.faults.part) (sym all) before.2;
}
