use Rattle.std.proofs.Common.{◌++◌, ◌∙◌, ◌≤◌, length, map, take, sym, ap, arith}
use Rattle.std.proofs.lemmas.List.{append-nil, take_all}
use Rattle.mach_parts.specs.SectionItems.{sections_left}
use Rattle.machsyms.specs.Letters.{item_section}
use Rattle.machsyms.proofs.Taken.{take-full}
use Rattle.machsyms.proofs.letters.add_sections.Goals as goal

pub returns-then-len-from : goal.returns-then-len-from
returns-then-len-from g c =
    let full : 255 ≤ length c.sections.sections.items = omega (arith, c.if-len-from.true, c.len.ensures, c.from.ensures) in
    let left = map item_section (sections_left c.sections.item-iterator) in
    sym (ap (λ all. take 255 all) c.sections.invariant.1 ∙ take-full 255 c.sections.sections.items left c.sections.invariant.0 full)

pub returns : goal.returns
returns g c =
    let items = c.sections.sections.items in
    let whole = c.sections.invariant.1 ∙ ap (λ left. items ++ map item_section left) c.in-None.ensures.steps.0 ∙ append-nil items in
    sym (ap (λ all. take 255 all) whole ∙ take_all 255 c.sections.sections.items c.sections.invariant.0)
