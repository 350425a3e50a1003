-- The base of an image, segment by segment.
use Rattle.std.proofs.Common.{◌≡◌, ℕ, zero, suc, ◌+◌, ◌<◌, ◌≤◌, true, false, cond, List, [], ◌∷◌, length, map, drop, get_or, refl, ap, ◌∙◌, arith, add-one}
use Rattle.std.specs.Prelude.{filter, option_map, unwrap_or}
use Rattle.mach_parts.specs.Segment.{SegmentView, segment_view}
use Rattle.mach_parts.specs.declared.segment.Segment.{Segment}
use Rattle.goblin_mach.specs.Readings.{first_of}
use Rattle.goblin_mach.specs.Fixups.{is_text_segment, base_of}

from_here : (xs : List Segment) (i : ℕ) (d : Segment) → i < length xs
    → map segment_view (drop i xs) ≡ segment_view (get_or xs i d) ∷ map segment_view (drop (i + 1) xs)
from_here [] i d lt = absurd (omega arith)
from_here (x ∷ xs) zero d lt = refl
from_here (x ∷ xs) (suc i) d lt = rw add-one (rw add-one at (from_here xs i d (omega arith)))

base_first : (v : SegmentView) (vs : List SegmentView) → is_text_segment v ≡ true → base_of (v ∷ vs) ≡ v.command.vmaddr
unfolding base_of
base_first v vs e =
    ap (λ b. unwrap_or (option_map (λ (s : SegmentView). s.command.vmaddr) (first_of (cond b (v ∷ filter is_text_segment vs) (filter is_text_segment vs)))) 0)
    e

base_later : (v : SegmentView) (vs : List SegmentView) → is_text_segment v ≡ false → base_of (v ∷ vs) ≡ base_of vs
unfolding base_of
base_later v vs e =
    ap (λ b. unwrap_or (option_map (λ (s : SegmentView). s.command.vmaddr) (first_of (cond b (v ∷ filter is_text_segment vs) (filter is_text_segment vs)))) 0)
    e

base_none : base_of [] ≡ 0
unfolding base_of
base_none = refl

module _ (xs : List Segment) (i : ℕ) (d : Segment) (lt : i < length xs) where
  pub base_here : is_text_segment (segment_view (get_or xs i d)) ≡ true → base_of (map segment_view (drop i xs)) ≡ (get_or xs i d).vmaddr
  base_here e = ap base_of (from_here xs i d lt) ∙ base_first (segment_view (get_or xs i d)) (map segment_view (drop (i + 1) xs)) e

  pub base_further : is_text_segment (segment_view (get_or xs i d)) ≡ false
      → base_of (map segment_view (drop i xs)) ≡ base_of (map segment_view (drop (i + 1) xs))
  base_further e = ap base_of (from_here xs i d lt) ∙ base_later (segment_view (get_or xs i d)) (map segment_view (drop (i + 1) xs)) e

none_left : (xs : List Segment) (i : ℕ) → length xs ≤ i → drop i xs ≡ []
none_left [] zero past = refl
none_left [] (suc i) past = refl
none_left (x ∷ xs) zero past = absurd (omega arith)
none_left (x ∷ xs) (suc i) past = none_left xs i (omega arith)

pub base_at_end : (xs : List Segment) (i : ℕ) → length xs ≤ i → base_of (map segment_view (drop i xs)) ≡ 0
base_at_end xs i past = ap (λ (ys : List Segment). base_of (map segment_view ys)) (none_left xs i past) ∙ base_none
