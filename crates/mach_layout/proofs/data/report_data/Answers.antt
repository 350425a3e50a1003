use Rattle.std.proofs.Common.{◌++◌, ◌∷◌, [], ℕ, List, Option, ap, ◌∙◌}
use Rattle.mach_layout.specs.DataInCode.{data_entry_owner, data_sees, entry_in, code_span}
use Rattle.mach_layout.specs.Fixups.{text_address}
use Rattle.mach_layout.specs.FixupViews.{data_view}
use Rattle.mach_layout.specs.Laid.{laid_of}
use Rattle.mach_layout.specs.Rules.{reported_over, sees_there, numbers_left}
use Rattle.mach_layout.specs.declared.data.CodeSpan.{CodeSpan}
use Rattle.mach_layout.specs.declared.fault.LayoutFault.{LayoutFault}
use Rattle.mach_layout.specs.declared.fault.Rule.TheVariants as rule
use Rattle.mach_layout.proofs.data.report_data.Goals as goal

pub returns-clause-reported : goal.returns-clause-reported
returns-clause-reported g c =
    let old = c.args.faults.now.items in
    let x = data_view c.args.table in
    let laid = laid_of c.args.layout.now in
    let reported : ℕ → Option CodeSpan → List ℕ → List LayoutFault =
    λ base span ks.
    reported_over (rule.DataOutOfCode ∷ rule.DataShared ∷ []) (λ r. data_entry_owner x) (λ r k. sees_there (entry_in x k) (data_sees x base span r k)) ks in
    let ks = numbers_left c.of.result in
    c.in_ok-report_over.ensures.reported
    ∙ ap (λ (n : ℕ). old ++ reported n c.code_span.result ks) c.text_address.ensures
    ∙ ap (λ (s : Option CodeSpan). old ++ reported (text_address laid) s ks) c.code_span.ensures
    ∙ ap (λ (ns : List ℕ). old ++ reported (text_address laid) (code_span laid) ns) c.of.ensures
