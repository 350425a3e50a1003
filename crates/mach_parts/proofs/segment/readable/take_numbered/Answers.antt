use Rattle.std.proofs.Common.{ℕ, List, ◌∷◌, ◌≡◌, ◌+◌, ◌<◌, [], subst, sym}
use Rattle.std.specs.Prelude.{MatchOption}
use Rattle.mach_parts.specs.Segment.{segment_view}
use Rattle.mach_parts.specs.SectionRecord.{held_from, in_front}
use Rattle.mach_parts.specs.declared.segment.numbered.NumberedSection.{NumberedSection}
use Rattle.mach_parts.proofs.NumberedSections.{taken_or_over}
use Rattle.mach_parts.proofs.segment.readable.take_numbered.Goals as goal

pub returns-clause-more : goal.returns-clause-more
returns-clause-more c =
    let s = segment_view c.args.segment.now in
    let left : ℕ → List NumberedSection = λ k. in_front (held_from c.args.n s k) in
    let inside = subst (λ n. c.args.taken < n) c.sections_held.ensures c.if-taken-sections_held.false in
    subst (λ found. MatchOption found (left c.args.taken ≡ []) (λ x. left c.args.taken ≡ x ∷ left (c.args.taken + 1))) (sym c.ok.ensures.value)
    (taken_or_over c.args.n s c.args.taken c.numbered.result inside c.numbered.ensures)
