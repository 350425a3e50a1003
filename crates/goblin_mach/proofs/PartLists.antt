-- The segments of an image as they are looked up: their ranges of memory.
use Rattle.std.proofs.Common.{◌≡◌, List, [], ◌∷◌, map, refl, ap}
use Rattle.goblin_mach.specs.AllStretches.{part_view}
use Rattle.goblin_mach.specs.declared.addresses.segments.SegmentStretches.{SegmentStretches}

-- parts and their views have the same ranges of memory
pub seen_memory : {A : Type 0} (parts : List (SegmentStretches A)) → map (λ p. p.memory) (map part_view parts) ≡ map (λ p. p.memory) parts
seen_memory [] = refl
seen_memory (p ∷ ps) = ap (λ rest. p.memory ∷ rest) (seen_memory ps)
