use Rattle.std.proofs.Common.{◌≤◌, ◌∙◌, length, take, sym, ap, subst, arith}
use Rattle.std.proofs.lemmas.List.{append-nil, take_all, drop_all}
use Rattle.machsyms.proofs.Taken.{sections_with, sections-more, length-take-bound}
use Rattle.machsyms.proofs.letters.sections_held.Goals as goal

pub segments-init : goal.segments-init
segments-init g c = (
  subst (λ kept. length kept ≤ 255) (sym c.new-sections.ensures.items) (omega arith),
  ap (λ kept. sections_with kept c.args.segments.now) c.new-sections.ensures.items,
)

pub segments-preserved : goal.segments-preserved
segments-preserved g c = (
  subst (λ kept. length kept ≤ 255) (sym c.in_ok-add_sections.ensures) (length-take-bound 255 _),
  sections-more c.args.segments.now c.segments.segment-index _ c.segments.sections.items c.add_sections.new.sections.items
      c.segments-test.true c.in_ok-add_sections.ensures
      ∙ c.segments.invariant.1,
)

pub returns : goal.returns
returns g c =
    let items = c.segments.sections.items in
    sym (ap (λ all. take 255 all) (append-nil items) ∙ take_all 255 items c.segments.invariant.0)
    ∙ ap (λ left. sections_with items left) (sym (drop_all c.segments.segment-index c.args.segments.now c.segments-test.false))
    ∙ c.segments.invariant.1
