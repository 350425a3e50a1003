-- The names of segments that were met.
use Rattle.std.proofs.Common.{◌≡◌, ℕ, ◌+◌, ◌<◌, Bool, true, false, List, [], ◌∷◌, ◌++◌, Option, Some, None, option_map}
use Rattle.std.proofs.Common.{refl, sym, ap, ◌∙◌, append_assoc, append-nil, length, map, get_or, take, drop, not, nat_lt, unwrap_or, arith}
use Rattle.std.specs.Prelude.{if◌then◌else◌}
use Rattle.std.specs.List.{cons_option, filter_map, find, position_or_len}
use Rattle.std.specs.Option.{option_or}
use Rattle.std.specs.Str.{bytes_eq}
use Rattle.std.proofs.lemmas.List.{at_drop_more, map-append, take_more}
use Rattle.std.proofs.lemmas.List.Elements.{filter_map-append}
use Rattle.std.proofs.lemmas.List.Folds.{find-append}
use Rattle.std.proofs.lemmas.Bool.{ltb-false}
use Rattle.std.proofs.lemmas.List.Sums.{prefix_len-le-length}
use Rattle.std.proofs.lemmas.Slice.Eq.{bytes_eq-Decides}
use Rattle.mach_layout.specs.NamesMet.{first_place_kept, name_again, name_and_place}
use Rattle.mach_load.specs.Command.{Command}
use Rattle.mach_load.specs.Variants.{command_of}
use Rattle.mach_load.specs.declared.load_command.LoadCommand.{LoadCommand}
use Rattle.mach_layout.specs.Laid.{placed_segment_of}
use Rattle.mach_layout.specs.Segments.{same_name, segment_name, named_among, names_again}
use Rattle.mach_layout.specs.declared.fault.LayoutFault.{LayoutFault}
use Rattle.mach_layout.specs.declared.placed_sections.PlacedSegment.{PlacedSegment}

-- two texts that are the same
same_text : (xs ys : List ℕ) → bytes_eq xs ys ≡ true → xs ≡ ys
same_text xs ys e = (bytes_eq-Decides xs ys).0 e

-- nothing changes for a name that is kept
pub kept : (f : List ℕ → Option ℕ) (name : List ℕ) (place earlier : ℕ) (q : List ℕ) → f name ≡ Some earlier → f q ≡ first_place_kept (f q) name place q
kept f name place earlier q here = by (f q) (bytes_eq name q) refl refl
  where
    by : (o : Option ℕ) (b : Bool) → f q ≡ o → bytes_eq name q ≡ b → o ≡ first_place_kept o name place q
    by (Some p) b e same = refl
    by None true e same = let texts = ap f (same_text name q same) in absurd (cc)
    by None false e same = rw same refl

-- a new name is kept with its place
pub added : (f g : List ℕ → Option ℕ) (name : List ℕ) (place : ℕ) (q : List ℕ) → f name ≡ None
    → g q ≡ (if bytes_eq name q then Some place else f q) → g q ≡ first_place_kept (f q) name place q
added f g name place q none new = new ∙ by (f q) (bytes_eq name q) refl refl
  where
    by : (o : Option ℕ) (b : Bool) → f q ≡ o → bytes_eq name q ≡ b → (if b then Some place else o) ≡ first_place_kept o name place q
    by (Some p) true e same = let texts = ap f (same_text name q same) in absurd (cc)
    by (Some p) false e same = refl
    by None true e same = rw same refl
    by None false e same = rw same refl

-- the place of a segment's command, if there is a segment
abbrev pub place_of : Option PlacedSegment → Option ℕ
place_of o = option_map (λ (s : PlacedSegment). s.place) o

-- what is kept for a name after one more segment
pub kept_after : (q : List ℕ) (earlier : List PlacedSegment) (s : PlacedSegment) (old new : Option ℕ)
    → old ≡ place_of (named_among q earlier) → new ≡ first_place_kept old (segment_name s) s.place q
    → new ≡ place_of (named_among q (earlier ++ s ∷ []))
kept_after q earlier s old new before now =
    now ∙ ap (λ (o : Option ℕ). first_place_kept o (segment_name s) s.place q) before
    ∙ by (named_among q earlier) (bytes_eq (segment_name s) q) refl
    ∙ ap place_of (sym (find-append (λ (t : PlacedSegment). bytes_eq (segment_name t) q) earlier (s ∷ [])))
  where
    by : (o : Option PlacedSegment) (b : Bool) → bytes_eq (segment_name s) q ≡ b
        → first_place_kept (place_of o) (segment_name s) s.place q ≡ place_of (option_or o (find (λ (t : PlacedSegment). bytes_eq (segment_name t) q) (s ∷ [])))
    by (Some t) b e = refl
    by None true e = rw e refl
    by None false e = rw e refl

-- the fault of one more segment comes after those before it
pub reported_after : (front pushed : List LayoutFault) (earlier rest : List PlacedSegment) (s : PlacedSegment) (met : Option ℕ)
    → met ≡ place_of (named_among (segment_name s) earlier) → pushed ≡ front ++ name_again met s.place
    → front ++ names_again earlier (s ∷ rest) ≡ pushed ++ names_again (earlier ++ s ∷ []) rest
reported_after front pushed earlier rest s met same more =
    let after : List LayoutFault = names_again (earlier ++ s ∷ []) rest in
    let reported_as : Option PlacedSegment → List LayoutFault =
    λ o. cons_option (option_map (λ (t : PlacedSegment). same_name s.place t.place) o) after in
    let by : (o : Option PlacedSegment) → named_among (segment_name s) earlier ≡ o → front ++ names_again earlier (s ∷ rest) ≡ pushed ++ after = λ o.
    elim o as (λ (o : Option PlacedSegment). named_among (segment_name s) earlier ≡ o → front ++ names_again earlier (s ∷ rest) ≡ pushed ++ after) [
      | None ↦ λ e.
          let none : met ≡ None = same ∙ ap place_of e in
          let all : pushed ≡ front = more ∙ ap (λ (o : Option ℕ). front ++ name_again o s.place) none ∙ append-nil front in
          ap (λ (o : Option PlacedSegment). front ++ reported_as o) e ∙ ap (λ (l : List LayoutFault). l ++ after) (sym all)
      | Some t ↦ λ e.
          let some : met ≡ Some t.place = same ∙ ap place_of e in
          let all : pushed ≡ front ++ same_name s.place t.place ∷ [] = more ∙ ap (λ (o : Option ℕ). front ++ name_again o s.place) some in
          ap (λ (o : Option PlacedSegment). front ++ reported_as o) e
          ∙ sym (append_assoc front (same_name s.place t.place ∷ []) after)
          ∙ ap (λ (l : List LayoutFault). l ++ after) (sym all)
    ] in
    by (named_among (segment_name s) earlier) refl

-- the segments of the commands before one, and those from it on
abbrev pub before : List LoadCommand → ℕ → List PlacedSegment
before cs i = filter_map placed_segment_of (map command_of (take i cs))

abbrev pub from_on : List LoadCommand → ℕ → List PlacedSegment
from_on cs i = filter_map placed_segment_of (map command_of (drop i cs))

module _ (cs : List LoadCommand) (i : ℕ) (d : LoadCommand) (inside : i < length cs) where
  abbrev here : Option PlacedSegment
  here = placed_segment_of (command_of (get_or cs i d))

  from_here : from_on cs i ≡ cons_option here (from_on cs (i + 1))
  from_here = at_drop_more (λ (xs : List LoadCommand). filter_map placed_segment_of (map command_of xs)) cs i d inside

  before_next : before cs (i + 1) ≡ before cs i ++ cons_option here []
  before_next =
      ap (λ (xs : List LoadCommand). filter_map placed_segment_of (map command_of xs)) (take_more cs i d inside)
      ∙ ap (λ (xs : List Command). filter_map placed_segment_of xs) (map-append command_of (take i cs) (get_or cs i d ∷ []))
      ∙ filter_map-append placed_segment_of (map command_of (take i cs)) (command_of (get_or cs i d) ∷ [])

  no_segment : (o : Option PlacedSegment) → None ≡ option_map name_and_place o → o ≡ None
  no_segment None e = refl
  no_segment (Some s) e = absurd (cc)

  -- a command that isn't a segment's leaves both unchanged
  pub unnamed_next : None ≡ option_map name_and_place here → (before cs (i + 1) ≡ before cs i) × (from_on cs i ≡ from_on cs (i + 1))
  unnamed_next e =
      let none = no_segment here e in (
        before_next ∙ ap (λ (o : Option PlacedSegment). before cs i ++ cons_option o []) none ∙ append-nil (before cs i),
        from_here ∙ ap (λ (o : Option PlacedSegment). cons_option o (from_on cs (i + 1))) none,
      )

  module _ (old new : List ℕ → Option ℕ) (whole front pushed : List LayoutFault) where
    abbrev Kept : List PlacedSegment → Type 0
    Kept segments = (q : List ℕ) → new q ≡ place_of (named_among q segments)

    with_segment : (s : PlacedSegment) → here ≡ Some s
        → ((q : List ℕ) → old q ≡ place_of (named_among q (before cs i)))
        → ((q : List ℕ) → new q ≡ first_place_kept (old q) (segment_name s) s.place q)
        → whole ≡ front ++ names_again (before cs i) (from_on cs i)
        → pushed ≡ front ++ name_again (old (segment_name s)) s.place
        → Kept (before cs (i + 1)) × (whole ≡ pushed ++ names_again (before cs (i + 1)) (from_on cs (i + 1)))
    with_segment s e was now all more =
        let b : before cs (i + 1) ≡ before cs i ++ s ∷ [] = before_next ∙ ap (λ (o : Option PlacedSegment). before cs i ++ cons_option o []) e in
        let r : from_on cs i ≡ s ∷ from_on cs (i + 1) = from_here ∙ ap (λ (o : Option PlacedSegment). cons_option o (from_on cs (i + 1))) e in (
          λ (q : List ℕ). kept_after q (before cs i) s (old q) (new q) (was q) (now q) ∙ ap (λ (l : List PlacedSegment). place_of (named_among q l)) (sym b),
          all ∙ ap (λ (l : List PlacedSegment). front ++ names_again (before cs i) l) r
              ∙ reported_after front pushed (before cs i) (from_on cs (i + 1)) s (old (segment_name s)) (was (segment_name s)) more
              ∙ ap (λ (l : List PlacedSegment). pushed ++ names_again l (from_on cs (i + 1))) (sym b),
        )

    -- a segment's command moves from the one to the other
    pub named_next : (name : List ℕ) (place : ℕ) → Some (name, place) ≡ option_map name_and_place here
        → ((q : List ℕ) → old q ≡ place_of (named_among q (before cs i)))
        → ((q : List ℕ) → new q ≡ first_place_kept (old q) name place q)
        → whole ≡ front ++ names_again (before cs i) (from_on cs i)
        → pushed ≡ front ++ name_again (old name) place
        → Kept (before cs (i + 1)) × (whole ≡ pushed ++ names_again (before cs (i + 1)) (from_on cs (i + 1)))
    named_next name place e was now all more = by here refl e
      where
        by : (o : Option PlacedSegment) → here ≡ o → Some (name, place) ≡ option_map name_and_place o
            → Kept (before cs (i + 1)) × (whole ≡ pushed ++ names_again (before cs (i + 1)) (from_on cs (i + 1)))
        by None h e = absurd (cc)
        by (Some s) h e =
            let n : name ≡ segment_name s = ap (λ (o : Option (List ℕ × ℕ)). unwrap_or (option_map (λ (p : List ℕ × ℕ). p.0) o) []) e in
            let p : place ≡ s.place = ap (λ (o : Option (List ℕ × ℕ)). unwrap_or (option_map (λ (p : List ℕ × ℕ). p.1) o) 0) e in
            with_segment s h was
            (λ (q : List ℕ). now q ∙ ap (λ (x : List ℕ). first_place_kept (old q) x place q) n
            ∙ ap (λ (y : ℕ). first_place_kept (old q) (segment_name s) y q) p)
            all
            (more ∙ ap (λ (x : List ℕ). front ++ name_again (old x) place) n ∙ ap (λ (y : ℕ). front ++ name_again (old (segment_name s)) y) p)

-- the number of bytes before the first that passes, if a search found its place or found none
pub first_place_or_len : (p : ℕ → Bool) (xs : List ℕ) (r : Option ℕ)
    → r ≡ (if nat_lt (position_or_len p xs) (length xs) then Some (position_or_len p xs) else None) → unwrap_or r (length xs) ≡ position_or_len p xs
first_place_or_len p xs r e = ap (λ (o : Option ℕ). unwrap_or o (length xs)) e ∙ by (nat_lt (position_or_len p xs) (length xs)) refl
  where
    by : (b : Bool) → nat_lt (position_or_len p xs) (length xs) ≡ b
        → unwrap_or (if b then Some (position_or_len p xs) else None) (length xs) ≡ position_or_len p xs
    by true e = refl
    by false e = omega (arith, prefix_len-le-length (λ (x : ℕ). not (p x)) xs, ltb-false (position_or_len p xs) (length xs) e)
