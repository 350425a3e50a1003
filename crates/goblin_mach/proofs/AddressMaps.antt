-- The sections and the function starts of a map of addresses.
use Rattle.std.proofs.Common.{◌≡◌, ◌∙◌, ℕ, zero, suc, ◌+◌, ◌-◌, ◌<◌, ◌≤◌, Bool, true, false, List, [], ◌∷◌, length, map, min, Option, Some, None}
use Rattle.std.proofs.Common.{Result, Ok, Err, refl, sym, ap, subst, arith, inl, inr, slice_get, get_or, cond, nat_le}
use Rattle.std.specs.Prelude.{find, option_map}
use Rattle.std.specs.List.Sorted.{IsNonDecreasingBy, IsPartitionPoint}
use Rattle.std.proofs.lemmas.Bool.{cases_lt, leb-true, leb-false}
use Rattle.std.proofs.lemmas.Option.{slice_get-get_or, slice_get-map, slice_get_within, get_or_from_slice_get}
use Rattle.mach_base.specs.Fault.{Fault}
use Rattle.mach_parts.specs.SectionRecord.{holds_address, readable_sections, section_holding}
use Rattle.mach_parts.specs.Segment.{SegmentView}
use Rattle.mach_parts.specs.declared.segment.numbered.NumberedSection.{NumberedSection}
use Rattle.mach_records.specs.declared.segments.Section64.{Section64}
use Rattle.goblin_mach.specs.AddressMaps.{mapped_section, memory_of_mapped, starts_in}
use Rattle.goblin_mach.specs.AddressFound.{IsFoundAt}
use Rattle.goblin_mach.specs.Fixups.{base_view}
use Rattle.goblin_mach.specs.OpenImage.{bytes_view, commands_view, segments_view, IsLossyImage}
use Rattle.goblin_mach.specs.SymbolMaps.{image_symbols}
use Rattle.goblin_mach.specs.Tables.{AreStartsAt, starts_place_in}
use Rattle.goblin_mach.specs.declared.addresses.FoundAt.{FoundAt}
use Rattle.goblin_mach.specs.declared.addresses.map.MappedSection.{MappedSection}
use Rattle.goblin_mach.specs.declared.addresses.stretches.Stretch.{Stretch}
use Rattle.goblin_mach.specs.declared.macho.MachO.{MachO}
use Rattle.goblin_mach.proofs.LookedUpFacts.{function_at_is, symbol_at_is}
use Rattle.goblin_mach.proofs.SlotFacts.{section_at_is}
use Rattle.goblin_mach.specs.NearestSymbol.{section_number, IsFunctionAt, IsSymbolAt, IsAround, IsAscending, IsFunctionIn, IsStart, IsStartAfter, IsStartBelow}
use Rattle.goblin_mach.specs.Stretches.{at_number, first_holder}
use Rattle.goblin_mach.specs.declared.macho.nearest.Function.{Function}

-- ---- the section that holds an address

-- the number of the first of some sections that holds an address, of which the first has number n, and that section
abbrev HolderIn : ℕ → List NumberedSection → Option NumberedSection → Option ℕ → Type 0
HolderIn n hs found None = found ≡ None
HolderIn n hs found (Some m) = (k : ℕ) × (m ≡ k + n) × (slice_get hs k ≡ found)

one_more : (n : ℕ) (h : NumberedSection) (hs : List NumberedSection) (b : Bool) (found : Option NumberedSection) (holder : Option ℕ)
    → HolderIn (n + 1) hs found holder → HolderIn n (h ∷ hs) (cond b (Some h) found) (cond b (Some n) holder)
one_more n h hs true found holder p = (0, omega arith, refl)
one_more n h hs false found None p = p
one_more n h hs false found (Some m) p = (suc p.0, omega (arith, p.1), p.2)

module _ (ss : List SegmentView) (a : ℕ) where
  holder_is : (n : ℕ) (hs : List NumberedSection)
      → HolderIn n hs (find (holds_address a) hs) (first_holder a n (map memory_of_mapped (map (mapped_section ss) hs)))
  holder_is n [] = refl
  holder_is n (h ∷ hs) =
      one_more n h hs (holds_address a h) (find (holds_address a) hs) (first_holder a (n + 1) (map memory_of_mapped (map (mapped_section ss) hs)))
      (holder_is (n + 1) hs)

  at_holder : (hs : List NumberedSection) (found : Option NumberedSection) (holder : Option ℕ) → HolderIn 0 hs found holder
      → at_number (map (mapped_section ss) hs) holder ≡ option_map (mapped_section ss) found
  at_holder hs found None p = sym (ap (option_map (mapped_section ss)) p)
  at_holder hs found (Some m) p =
      let same : m ≡ p.0 = omega (arith, p.1) in
      slice_get-map (mapped_section ss) hs m ∙ ap (option_map (mapped_section ss)) (ap (slice_get hs) same ∙ p.2)

  -- it is the one at the number that the table of their addresses has
  pub held_at : (hs : List NumberedSection) → at_number (map (mapped_section ss) hs) (first_holder a 0 (map memory_of_mapped (map (mapped_section ss) hs)))
      ≡ option_map (mapped_section ss) (find (holds_address a) hs)
  held_at hs = at_holder hs (find (holds_address a) hs) (first_holder a 0 (map memory_of_mapped (map (mapped_section ss) hs))) (holder_is 0 hs)

module _ (ss : List SegmentView) (a : ℕ) where
  -- the same of a map's items
  pub held_by : (items : List MappedSection) (memory : List Stretch) (holder : Option ℕ) → items ≡ map (mapped_section ss) (readable_sections ss)
      → memory ≡ map memory_of_mapped items → holder ≡ first_holder a 0 memory → at_number items holder ≡ option_map (mapped_section ss) (section_holding ss a)
  held_by items memory holder is placed e = rw (e, placed, is) (held_at ss a (readable_sections ss))

  pub held_none : (held : Option NumberedSection) → option_map (mapped_section ss) held ≡ None → held ≡ None
  held_none None e = refl
  held_none (Some h) e = absurd (cc (e))

  pub held_some : (held : Option NumberedSection) (m : MappedSection) → option_map (mapped_section ss) held ≡ Some m
      → (held ≡ Some m.section) × (m.n_sect ≡ section_number ss m.section)
  held_some None m e = absurd (cc (e))
  held_some (Some h) m e =
      let same : mapped_section ss h ≡ m = cc (e) in
      (ap (λ (x : MappedSection). Some x.section) same, subst (λ (x : MappedSection). x.n_sect ≡ section_number ss x.section) same refl)

-- ---- sorted starts around an address

ok_of : (o : Option ℕ) (s : ℕ) → ◌≡◌ {A = Option (Result ℕ Fault)} (option_map Ok o) (Some (Ok s)) → o ≡ Some s
ok_of None s e = absurd (cc (e))
ok_of (Some x) s e = cc (e)

module _ (starts : List ℕ) (a passed : ℕ) (up : IsNonDecreasingBy (λ (start : ℕ). start) starts)
    (point : IsPartitionPoint (λ x. nat_le x a ≡ true) (λ x. nat_le x a ≡ false) starts passed) where
  -- the number of a start
  place_of : (s : ℕ) → IsStart (map Ok starts) s → (k : ℕ) × (k < length starts) × ((d : ℕ) → get_or starts k d ≡ s)
  place_of s there =
      let e = ok_of (slice_get starts there.0) s (sym (slice_get-map Ok starts there.0) ∙ there.1) in
      (there.0, slice_get_within starts there.0 s e, λ d. get_or_from_slice_get starts there.0 s d e)

  is_start : (k s : ℕ) → slice_get starts k ≡ Some s → IsStart (map Ok starts) s
  is_start k s e = (k, slice_get-map Ok starts k ∙ ap (option_map Ok) e)

  -- one at or below the address is one of the first
  is_passed : (k s : ℕ) → k < length starts → ((d : ℕ) → get_or starts k d ≡ s) → s ≤ a → k < passed
  is_passed k s within is less =
      elim (cases_lt k passed) [
        | inl before ↦ before
        | inr past ↦ absurd (omega (arith, is 0, less, leb-false (get_or starts k 0) a (point.1 k 0 past within)))
      ]

  -- one after it is none of them
  is_left : (k s : ℕ) → ((d : ℕ) → get_or starts k d ≡ s) → a < s → passed ≤ k
  is_left k s is more =
      elim (cases_lt k passed) [
        | inl before ↦ absurd (omega (arith, is 0, more, leb-true (get_or starts k 0) a (point.0 k 0 (omega arith) before)))
        | inr past ↦ past
      ]

  pub none_below : passed < 1 → IsStartBelow (map Ok starts) a None
  none_below none = λ s there less. let p = place_of s there in omega (arith, none, is_passed p.0 s p.1 p.2 less)

  pub last_below : (last d : ℕ) → passed ≤ length starts → 1 ≤ passed → last ≡ passed - 1 → IsStartBelow (map Ok starts) a (Some (get_or starts last d))
  last_below last d most some at = (
    is_start last (get_or starts last d) (slice_get-get_or starts last d (omega (arith, most, some, at))),
    leb-true (get_or starts last d) a (point.0 last d (omega arith) (omega (arith, some, at))),
    λ s there less. let p = place_of s there in
        let before = is_passed p.0 s p.1 p.2 less in
        omega (arith, p.2 d, up p.0 last d (omega (arith, before, at)) (omega (arith, most, some, at))),
  )

  pub first_after : (found : Option ℕ) → slice_get starts passed ≡ found → IsStartAfter (map Ok starts) a found
  first_after None e = λ s there more. let p = place_of s there in
      let left = is_left p.0 s p.2 more in
      let there = slice_get-get_or starts passed 0 (omega (arith, left, p.1)) in cc (e, there)
  first_after (Some x) e =
      let within = slice_get_within starts passed x e in
      let is : (d : ℕ) → get_or starts passed d ≡ x = λ d. get_or_from_slice_get starts passed x d e in (
        is_start passed x e,
        omega (arith, is 0, leb-false (get_or starts passed 0) a (point.1 passed 0 (omega arith) within)),
        λ s there more. let p = place_of s there in
            let left = is_left p.0 s p.2 more in
            omega (arith, is 0, p.2 0, up passed p.0 0 left p.1),
      )

-- where a function ends, by the start after its address
abbrev EndsAt : ℕ → Option ℕ → ℕ → Type 0
EndsAt limit None end = end ≡ limit
EndsAt limit (Some next) end = end ≡ min limit next

-- the starts on both sides of an address
pub starts_around : (items : List (Result ℕ Fault)) (a limit start end : ℕ) (after : Option ℕ) → IsStartBelow items a (Some start)
    → IsStartAfter items a after → EndsAt limit after end → IsAround items a limit (Some start) end
starts_around items a limit start end None below none e = record {
  below = below;
  ends = inl e;
  within = omega (arith, e);
  next = λ s there more. absurd (none s there more);
}
starts_around items a limit start end (Some next) below later e = record {
  below = below;
  ends = elim (cases_lt next limit) [
    | inl less ↦ let same : end ≡ next = omega (arith, e, less) in inr (omega (arith, same, later.1), rw same later.0)
    | inr past ↦ inl (omega (arith, e, past))
  ];
  within = omega (arith, e);
  next = λ s there more. omega (arith, e, later.2 s there more);
}

-- ---- the starts that can be read

into : (items : List (Result ℕ Fault)) (k s : ℕ) → slice_get items k ≡ Some (Ok s) → (j : ℕ) × (slice_get (starts_in items) j ≡ Some s)
into [] k s e = absurd (cc (e))
into (Ok x ∷ items) zero s e = (0, cc (e))
into (Ok x ∷ items) (suc k) s e = let p = into items k s e in (suc p.0, p.1)
into (Err f ∷ items) zero s e = absurd (cc (e))
into (Err f ∷ items) (suc k) s e = into items k s e

back : (items : List (Result ℕ Fault)) (j s : ℕ) → slice_get (starts_in items) j ≡ Some s → (k : ℕ) × (slice_get items k ≡ Some (Ok s))
back [] j s e = absurd (cc (e))
back (Ok x ∷ items) zero s e = (0, cc (e))
back (Ok x ∷ items) (suc j) s e = let p = back items j s e in (suc p.0, p.1)
back (Err f ∷ items) j s e = let p = back items j s e in (suc p.0, p.1)

later : (x : Result ℕ Fault) (items : List (Result ℕ Fault)) → IsAscending (x ∷ items) → IsAscending items
later x items up j k a b e f less = up (suc j) (suc k) a b e f (omega (arith, less))

-- they are sorted
pub starts_sorted : (items : List (Result ℕ Fault)) → IsAscending items → IsNonDecreasingBy (λ (start : ℕ). start) (starts_in items)
starts_sorted [] up i j d less within = absurd (omega (arith, within))
starts_sorted (Ok x ∷ items) up zero zero d less within = omega arith
starts_sorted (Ok x ∷ items) up zero (suc j) d less within =
    let there = back items j (get_or (starts_in items) j d) (slice_get-get_or (starts_in items) j d (omega (arith, within))) in
    omega (arith, up 0 (suc there.0) x (get_or (starts_in items) j d) refl there.1 (omega arith))
starts_sorted (Ok x ∷ items) up (suc i) zero d less within = absurd (omega (arith, less))
starts_sorted (Ok x ∷ items) up (suc i) (suc j) d less within =
    starts_sorted items (later (Ok x) items up) i j d (omega (arith, less)) (omega (arith, within))
starts_sorted (Err f ∷ items) up i j d less within = starts_sorted items (later (Err f) items up) i j d less within

module _ (items : List (Result ℕ Fault)) where
  start_in : (s : ℕ) → IsStart items s → IsStart (map Ok (starts_in items)) s
  start_in s there =
      let p = into items there.0 s there.1 in (p.0, slice_get-map Ok (starts_in items) p.0 ∙ ap (option_map Ok) p.1)

  start_of : (s : ℕ) → IsStart (map Ok (starts_in items)) s → IsStart items s
  start_of s there =
      back items there.0 s (ok_of (slice_get (starts_in items) there.0) s (sym (slice_get-map Ok (starts_in items) there.0) ∙ there.1))

  -- a function by them is one by all
  pub function_by_all : (h : Section64) (a : ℕ) (found : Option Function) → IsFunctionIn (map Ok (starts_in items)) h a found → IsFunctionIn items h a found
  function_by_all h a None none = λ s there inside less. none s (start_in s there) inside less
  function_by_all h a (Some f) is = record {
    inside = is.inside;
    around = record {
      below = (
        start_of f.start is.around.below.0,
        is.around.below.1,
        λ s there less. is.around.below.2 s (start_in s there) less,
      );
      ends = elim is.around.ends [ inl limit ↦ inl limit | inr p ↦ inr (p.0, start_of f.end p.1) ];
      within = is.around.within;
      next = λ s there more. is.around.next s (start_in s there) more;
    };
  }

-- ---- in an image

-- what is found at an address is what the bytes have there
pub found_is : {A : Type 0} (m : MachO A) (bytes : List ℕ) (a : ℕ) (found : FoundAt) → IsLossyImage bytes 0 m
    → found.section ≡ section_holding (segments_view m) a
    → IsSymbolAt (segments_view m) (image_symbols m) (section_holding (segments_view m) a) a found.symbol
    → ((items : List (Result ℕ Fault)) → AreStartsAt (bytes_view m) (starts_place_in (commands_view m)) (base_view m) items
    → IsFunctionAt items (section_holding (segments_view m) a) a found.function)
    → IsFoundAt bytes a found
found_is m bytes a found opened section symbol function = record {
  opens = (opened.ctx, commands_view m, opened.opens);
  section = ((section_at_is m a).lossy bytes 0 opened found.section).1 section;
  symbol = ((symbol_at_is m a).lossy bytes 0 opened found.symbol).1 symbol;
  function = ((function_at_is m a).lossy bytes 0 opened found.function).1 function;
}
