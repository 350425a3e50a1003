-- The names of segments that were met, each with the place of the first command that has it.
use Rattle.std.specs.Prelude.{ℕ, List, [], ◌∷◌, Option, Some, None, if◌then◌else◌}
use Rattle.std.specs.Borrow.{Bor}
use Rattle.std.specs.BTreeMap.{BTreeMap, get_by}
use Rattle.std.specs.Cmp.Lexicographic.{slice_cmp}
use Rattle.std.specs.Ordering.{nat_cmp}
use Rattle.std.specs.Str.{bytes_eq}
use Rattle.mach_layout.specs.Segments.{same_name, segment_name}
use Rattle.mach_layout.specs.declared.fault.LayoutFault.{LayoutFault}
use Rattle.mach_layout.specs.declared.placed_sections.PlacedSegment.{PlacedSegment}

-- the name of a segment and the place of its command
abbrev pub name_and_place : PlacedSegment → List ℕ × ℕ
name_and_place s = (segment_name s, s.place)

-- a name and a place, as definitions have them
abbrev pub seen_name : Bor (List ℕ) × ℕ → List ℕ × ℕ
seen_name named = (named.0.now, named.1)

-- the place that is kept for a name
abbrev pub place_met : BTreeMap (Bor (List ℕ)) ℕ → List ℕ → Option ℕ
place_met met q = get_by (λ k. slice_cmp nat_cmp q k.now) met

-- the place kept for q after one more name with its place: the one kept before, or else this place if q is this name
abbrev pub first_place_kept : Option ℕ → List ℕ → ℕ → List ℕ → Option ℕ
first_place_kept (Some earlier) name place q = Some earlier
first_place_kept None name place q = if bytes_eq name q then Some place else None

-- the fault of a name for which an earlier place is kept
abbrev pub name_again : Option ℕ → ℕ → List LayoutFault
name_again None place = []
name_again (Some earlier) place = same_name place earlier ∷ []
