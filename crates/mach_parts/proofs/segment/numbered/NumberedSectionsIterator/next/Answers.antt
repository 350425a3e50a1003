use Rattle.std.proofs.Common.{◌+◌, ◌∷◌, ◌∙◌, ap, arith, length, sym}
use Rattle.mach_base.proofs.ItemLists.{read_as-Reads}
use Rattle.mach_parts.specs.NumberedLeft.{numbered_left}
use Rattle.mach_parts.proofs.NumberedSections.{next_section}
use Rattle.mach_parts.proofs.segment.numbered.NumberedSectionsIterator.next.Goals as goal

pub returns-then-self-segment-clause-steps : goal.returns-then-self-segment-clause-steps
returns-then-self-segment-clause-steps c =
    let it = c.segments.self in
    c.segments.invariant
    ∙ (next_section it.segments.now it.segment _ c.if-self.false it.number c.if-self-segment.true
    ∙ ap (λ item. item ∷ numbered_left (record { segments = it.segments; segment = it.segment; number = it.number + 1 }))
    (sym (read_as-Reads _ c.numbered-item.result _ c.numbered-item.ensures)))

pub returns-then-self-segment-clause-goes : goal.returns-then-self-segment-clause-goes
returns-then-self-segment-clause-goes c =
    record {
      on = λ _. (tt, tt, omega (arith, ap length (returns-then-self-segment-clause-steps c)));
      keeps = tt;
      rests = λ _. tt;
    }
