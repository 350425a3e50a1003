-- Segment by segment, whether all of them are whole.
use Rattle.std.proofs.Common.{◌≡◌, ◌∙◌, ◌+◌, ◌≤◌, ◌<◌, ◌∷◌, [], ℕ, List, Bool, true, false, refl, ap, sym, subst, suc, take, drop, drop-cons, arith}
use Rattle.std.specs.Prelude.{◌&&◌, ◌||◌, ◌-◌, get_or, length, map, nat_lt}
use Rattle.std.proofs.lemmas.List.{drop_all, length-map, take-map}
use Rattle.mach_parts.specs.Segment.{SegmentView, segment_view}
use Rattle.machinfo.specs.SegmentStatus.{IsAfterSections, IsAfterSegments, are_segments_whole, has_more, have_more_sections, is_segment_whole}
use Rattle.machinfo.specs.SegmentStatus.{sections_as_objects}
use Rattle.mach_cli.specs.declared.listing.ListProgress.{ListProgress}
use Rattle.mach_parts.specs.declared.segment.Segment.{Segment}

and_assoc : (a b c : Bool) → ((a && b) && c) ≡ (a && (b && c))
and_assoc true b c = refl
and_assoc false b c = refl

or_assoc : (a b c : Bool) → ((a || b) || c) ≡ (a || (b || c))
or_assoc true b c = refl
or_assoc false b c = refl

and_true : (a : Bool) → (a && true) ≡ a
and_true true = refl
and_true false = refl

or_false : (a : Bool) → (a || false) ≡ a
or_false true = refl
or_false false = refl

-- the first segments are written, up to number i, and these are the state after them
pub record IsUpTo (limit : ℕ) (segments : List Segment) (i : ℕ) (t : ListProgress) : Type 0 where
  pub whole : (t.whole && are_segments_whole t.left (map segment_view (drop i (take limit segments))))
      ≡ are_segments_whole limit (map segment_view (take limit segments))
  pub more : (t.more || have_more_sections t.left (map segment_view (drop i (take limit segments))))
      ≡ (nat_lt limit (length segments) || have_more_sections limit (map segment_view (take limit segments)))

whole_next : (all : Bool) (s : SegmentView) (rest : List SegmentView) (t next after : ListProgress) → IsAfterSections t.left s next
    → after.left ≡ next.left → after.whole ≡ (t.whole && next.whole) → (t.whole && are_segments_whole t.left (s ∷ rest)) ≡ all
    → (after.whole && are_segments_whole after.left rest) ≡ all
whole_next all s rest t next after known left whole held =
    rw (whole, known.whole, left, known.rest)
    (and_assoc t.whole (is_segment_whole t.left s) (are_segments_whole (t.left - length (sections_as_objects s)) rest) ∙ held)

more_next : (all : Bool) (s : SegmentView) (rest : List SegmentView) (t next after : ListProgress) → IsAfterSections t.left s next
    → after.left ≡ next.left → after.more ≡ (t.more || next.more) → (t.more || have_more_sections t.left (s ∷ rest)) ≡ all
    → (after.more || have_more_sections after.left rest) ≡ all
more_next all s rest t next after known left more held =
    rw (more, known.more, left, known.rest)
    (or_assoc t.more (has_more t.left (sections_as_objects s)) (have_more_sections (t.left - length (sections_as_objects s)) rest) ∙ held)

rest_at : (limit : ℕ) (segments first : List Segment) → first ≡ take limit segments → (i : ℕ) (d : Segment) → i < length first
    → map segment_view (drop i (take limit segments)) ≡ segment_view (get_or first i d) ∷ map segment_view (drop (i + 1) (take limit segments))
rest_at limit segments first same i d within =
    let next : suc i ≡ i + 1 = omega arith in
    subst (λ (n : ℕ). map segment_view (drop i (take limit segments)) ≡ segment_view (get_or first i d) ∷ map segment_view (drop n (take limit segments)))
    next (subst (λ (xs : List Segment). map segment_view (drop i xs) ≡ segment_view (get_or first i d) ∷ map segment_view (drop (suc i) xs)) same
    (ap (λ (xs : List Segment). map segment_view xs) (drop-cons first i d within)))

pub one_more : (limit : ℕ) (segments first : List Segment) → first ≡ take limit segments → (i : ℕ) (d : Segment) → i < length first
    → (t next after : ListProgress) → IsAfterSections t.left (segment_view (get_or first i d)) next
    → after.left ≡ next.left → after.whole ≡ (t.whole && next.whole) → after.more ≡ (t.more || next.more)
    → IsUpTo limit segments i t → IsUpTo limit segments (i + 1) after
one_more limit segments first same i d within t next after known left whole more up =
    let s = segment_view (get_or first i d) in
    let rest = map segment_view (drop (i + 1) (take limit segments)) in
    let at = rest_at limit segments first same i d within in
    let all_whole = are_segments_whole limit (map segment_view (take limit segments)) in
    let all_more = nat_lt limit (length segments) || have_more_sections limit (map segment_view (take limit segments)) in
    record {
      whole = whole_next all_whole s rest t next after known left whole
          (subst (λ (xs : List SegmentView). (t.whole && are_segments_whole t.left xs) ≡ all_whole) at up.whole);
      more = more_next all_more s rest t next after known left more
          (subst (λ (xs : List SegmentView). (t.more || have_more_sections t.left xs) ≡ all_more) at up.more);
    }

none_left : (limit : ℕ) (segments first : List Segment) → first ≡ take limit segments → (i : ℕ) → length first ≤ i
    → drop i (take limit segments) ≡ []
none_left limit segments first same i past = subst (λ (xs : List Segment). drop i xs ≡ []) same (drop_all i first past)

pub all_of_them : (limit : ℕ) (segments first : List Segment) → first ≡ take limit segments → (i : ℕ) → length first ≤ i
    → (t : ListProgress) → IsUpTo limit segments i t → IsAfterSegments limit (map segment_view segments) t
all_of_them limit segments first same i past t up =
    let none = none_left limit segments first same i past in
    let views = sym (take-map segment_view limit segments) in
    record {
      whole = sym (and_true t.whole)
          ∙ (subst (λ (xs : List Segment). (t.whole && are_segments_whole t.left (map segment_view xs))
          ≡ are_segments_whole limit (map segment_view (take limit segments))) none up.whole
          ∙ ap (λ (xs : List SegmentView). are_segments_whole limit xs) views);
      more = sym (or_false t.more)
          ∙ (subst (λ (xs : List Segment). (t.more || have_more_sections t.left (map segment_view xs))
          ≡ (nat_lt limit (length segments) || have_more_sections limit (map segment_view (take limit segments)))) none up.more
          ∙ (ap (λ (xs : List SegmentView). nat_lt limit (length segments) || have_more_sections limit xs) views
          ∙ ap (λ (n : ℕ). nat_lt limit n || have_more_sections limit (take limit (map segment_view segments))) (sym (length-map segments segment_view))));
    }
