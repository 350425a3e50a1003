use Rattle.std.proofs.Common.{◌++◌, ◌∷◌, [], ℕ, List, ap, ◌∙◌}
use Rattle.mach_layout.specs.Fixups.{import_owner, import_sees, import_names_end, row_in}
use Rattle.mach_layout.specs.FixupViews.{data_view}
use Rattle.mach_layout.specs.Laid.{laid_of}
use Rattle.mach_layout.specs.Rules.{reported_over, sees_there, numbers_left}
use Rattle.mach_layout.specs.Symbols.{library_count}
use Rattle.mach_layout.specs.declared.fault.LayoutFault.{LayoutFault}
use Rattle.mach_layout.specs.declared.fault.Rule.TheVariants as rule
use Rattle.mach_layout.proofs.fixups.imports.import_faults.Goals as goal

pub returns-clause-reported : goal.returns-clause-reported
returns-clause-reported g c =
    let old = c.args.faults.now.items in
    let x = data_view c.args.chained.now in
    let h = c.args.front.now.header in
    let reported : ℕ → ℕ → List ℕ → List LayoutFault =
    λ libraries upto ks.
    reported_over (rule.ImportLibrary ∷ rule.ImportName ∷ []) (λ r. import_owner x) (λ r k. sees_there (row_in x h k) (import_sees x h libraries upto r)) ks in
    let upto = c.import_names_end.result in
    let libraries = library_count (laid_of c.args.layout.now) in
    c.in_ok-report_over.ensures.reported
    ∙ ap (λ (n : ℕ). old ++ reported n upto (numbers_left c.of-numbers.result)) c.library_count.ensures
    ∙ ap (λ (n : ℕ). old ++ reported libraries n (numbers_left c.of-numbers.result)) c.import_names_end.ensures
    ∙ ap (λ (ks : List ℕ). old ++ reported libraries (import_names_end x h) ks) c.of-numbers.ensures
