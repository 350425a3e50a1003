use Rattle.std.proofs.Common.{◌<◌, Some, subst, sym}
use Rattle.mach_layout.specs.PartsLeft.{TakesSection}
use Rattle.mach_layout.proofs.SectionItems.{taken_or_over}
use Rattle.mach_layout.proofs.placed_sections.take_section.Goals as goal

pub returns-clause-more : goal.returns-clause-more
returns-clause-more c =
    let s = c.in_ok-segment.segment in
    let takes = TakesSection c.args.ctx c.args.bytes.now in
    let inside = subst (λ n. c.args.taken < n) c.own_sections.ensures c.if-taken-own_sections.false in
    subst (λ segment. takes segment c.args.taken c.ok.result) (sym c.in_ok-segment.was)
    (subst (λ found. takes (Some s) c.args.taken found) (sym c.ok.ensures.value)
    (taken_or_over c.args.ctx c.args.bytes.now s c.args.taken _ inside c.placed_section_at.ensures))
