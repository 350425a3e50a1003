use Rattle.std.proofs.Common.{◌≡◌, ◌++◌, ◌∷◌, [], ℕ, List, ap, ◌∙◌}
use Rattle.std.specs.List.{range_with_len}
use Rattle.mach_layout.specs.Laid.{laid_of, placed_sections_of}
use Rattle.mach_layout.specs.Rules.{reported_over, numbers_left}
use Rattle.mach_layout.specs.Sections.{section_owner}
use Rattle.mach_layout.specs.Symbols.{indirect_count, indirect_owner, indirect_sees, indirect_section_sees, symbol_count}
use Rattle.mach_layout.specs.declared.fault.LayoutFault.{LayoutFault}
use Rattle.mach_layout.specs.declared.fault.Rule.TheVariants as rule
use Rattle.mach_layout.specs.declared.placed_sections.PlacedSection.{PlacedSection}
use Rattle.mach_layout.proofs.Joined.{then_others}
use Rattle.mach_layout.proofs.symbols.indirect.indirect_faults.Goals as goal

pub returns-clause-reported : goal.returns-clause-reported
returns-clause-reported g c =
    let laid = laid_of c.args.layout.now in
    let d = c.in-Some.table in
    let old = c.args.faults.now.items in
    let middle = c.report_over.new.faults.items in
    let symbols : ℕ → List ℕ → List LayoutFault =
    λ nsyms ks. reported_over (rule.IndirectSymbol ∷ []) (λ r. indirect_owner d) (λ r. indirect_sees laid.ctx.le laid.bytes d nsyms) ks in
    let sections : List PlacedSection → List LayoutFault =
    λ ss. reported_over (rule.IndirectSection ∷ []) (λ r. section_owner) (λ r. indirect_section_sees laid.ctx.container d) ss in
    let nsyms = symbol_count c.args.symbols in
    let first : middle ≡ old ++ symbols nsyms (range_with_len 0 (indirect_count laid d)) =
    c.in_ok-report_over.ensures.reported
    ∙ ap (λ (n : ℕ). old ++ symbols n (numbers_left c.of-numbers.result)) c.symbol_count.ensures
    ∙ ap (λ (ks : List ℕ). old ++ symbols nsyms ks) c.of-numbers.ensures
    ∙ ap (λ (n : ℕ). old ++ symbols nsyms (range_with_len 0 n)) c.indirect_count.ensures in
    let second : c.report_over-2.new.faults.items ≡ middle ++ sections (placed_sections_of laid) =
    c.in_ok-report_over-2.ensures.reported ∙ ap (λ (ss : List PlacedSection). middle ++ sections ss) c.sections.ensures in
    rw c.in-Some.is (then_others old (symbols nsyms (range_with_len 0 (indirect_count laid d))) (sections (placed_sections_of laid)) first second)
