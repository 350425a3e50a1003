-- The segments of an image after one of them was lent.
use Rattle.std.specs.Prelude.{ℕ, Option}
use Rattle.std.specs.Borrow.{LendsIf, Fml, RattleType, MutBor}
use Rattle.std.specs.Vec.{with_item}
use Rattle.std.specs.declared.alloc.Allocator.{Ghosts}
use Rattle.mach_parts.specs.declared.segment.list.Segments.{Segments}
use Rattle.mach_parts.specs.contracts.segment.list.Segments.{the_row}

-- the segments with w at index i, and all others unchanged
abbrev pub with_segment : {S A : Type 0} → Segments S A → ℕ → S → Segments S A
with_segment s i w = record s { segments = with_item s.segments i w }

module _ (S A : RattleType) (alloc : Ghosts A.Denot) where
  -- When the borrow r ends, segment i is what r then holds, and the others are unchanged. If there is no segment i, all are unchanged.
  abbrev pub LendsSegment : MutBor (Segments S.Denot A.Denot) → ℕ → Option (MutBor S.Denot) → Fml
  LendsSegment s i r = LendsIf (the_row S A alloc) S s r (with_segment s.now i) s.now
