use Rattle.std.proofs.Common.{Option, subst}
use Rattle.std.proofs.lemmas.Result.{on_ok_weaker}
use Rattle.std.specs.Io.KnownBytes.{Appends}
use Rattle.mach_base.proofs.Written.{Appends-both}
use Rattle.machsign.specs.AgreementTexts.{agreement_line}
use Rattle.machsign.specs.Kinds.{unchecked_line}
use Rattle.mach_signature.specs.declared.entitlements.agreement.Agreement.{Agreement}
use Rattle.mach_signature.specs.declared.kind.Cms.{Cms}
use Rattle.machsign.proofs.print.print_back.Goals as goal

pub returns : goal.returns
returns g c =
    let old = g.O.Write.contents c.args.out.now in
    let first = g.O.Write.contents c.print_agreement.new.out in
    let middle = g.O.Write.contents c.print_cut.new.out in
    let new = g.O.Write.contents c.print_unchecked.new.out in
    let agreement = subst (λ (a : Option Agreement). Appends old first (agreement_line a)) c.agreement_in.ensures c.in_ok-print_agreement.ensures in
    on_ok_weaker c.print_unchecked.result
    (λ last. Appends-both _ _ _ _ _ agreement (Appends-both _ _ _ _ _ c.in_ok-print_cut.ensures
    (subst (λ (cms : Cms). Appends middle new (unchecked_line cms)) c.cms_of.ensures last)))
    c.print_unchecked.ensures
