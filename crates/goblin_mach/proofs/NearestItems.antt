-- Searches among the items of a list, one after another: the nearest below an address, the function.
use Rattle.std.proofs.Common.{◌≡◌, ◌⊎◌, ℕ, zero, suc, ◌+◌, ◌<◌, ◌≤◌, true, List, [], ◌∷◌, ◌++◌, length, Option, Some, None, Result, Ok, Err}
use Rattle.std.proofs.Common.{inl, inr, refl, ap, arith, slice_get, append_assoc, Bool, false, cond, not, ◌&&◌, nat_le}
use Rattle.std.specs.Prelude.{◌==◌}
use Rattle.std.proofs.lemmas.List.{length-append}
use Rattle.std.proofs.lemmas.Bool.{ltb-true, ltb-false, leb-true}
use Rattle.mach_parts.specs.Symbols.{is_stab, type_of}
use Rattle.std.proofs.lemmas.Bool.{cases_lt}
use Rattle.std.proofs.lemmas.Option.{slice_get_within}
use Rattle.std.proofs.Common.{IfSome, min, sym, ◌∙◌}
use Rattle.std.proofs.lemmas.List.{append-nil, length-map}
use Rattle.std.proofs.Common.{map, get_or, ◌-◌, ◌^◌}
use Rattle.std.proofs.Math.ListN.{get_or-map}
use Rattle.std.proofs.lemmas.List.Sums.{sum_by_more}
use Rattle.mach_base.specs.Fault.{Fault}
use Rattle.mach_load.proofs.StartLaws.{one_start_list, starts_ascend}
use Rattle.mach_load.specs.FunctionStarts.{start_range_at}
use Rattle.mach_parts.specs.Segment.{SegmentView, segment_view}
use Rattle.mach_parts.specs.Symbols.{SymbolTable, symbols_of, table_in_bounds}
use Rattle.mach_parts.specs.declared.segment.Segment.{Segment}
use Rattle.mach_parts.specs.declared.segment.numbered.NumberedSection.{NumberedSection}
use Rattle.goblin_mach.specs.AddressMaps.{claimed_before}
use Rattle.goblin_mach.specs.Tables.{AreStartsAt}
use Rattle.goblin_mach.specs.declared.macho.nearest.Function.{Function}
use Rattle.mach_base.specs.Number.{place_after}
use Rattle.mach_records.specs.declared.segments.Section64.{Section64}
use Rattle.mach_parts.specs.declared.symbols.nlist.Nlist.{Nlist}
use Rattle.goblin_mach.specs.NamedParts.{symbols_within}
use Rattle.goblin_mach.specs.NearestSymbol.{is_below, is_nearer, section_number, IsBelow, IsNearestIn, IsSymbolAt, IsFunctionAt, IsAround, IsAscending}
use Rattle.goblin_mach.specs.NearestSymbol.{IsFunctionIn, IsStart, IsStartBelow}
use Rattle.goblin_mach.specs.declared.macho.nearest.SymbolAt.{SymbolAt}

-- ---- an item after those before it

module _ {X : Type 0} where
  -- an item of a list with one more is one of the list, or that one
  pub item_or_last : (front : List X) (x : X) (k : ℕ) (y : X) → slice_get (front ++ x ∷ []) k ≡ Some y
      → (slice_get front k ≡ Some y) ⊎ ((k ≡ length front) × (x ≡ y))
  item_or_last [] x zero y e = inr (refl, cc)
  item_or_last [] x (suc k) y e = absurd (cc)
  item_or_last (z ∷ front) x zero y e = inl e
  item_or_last (z ∷ front) x (suc k) y e = elim (item_or_last front x k y e) [
    | inl f ↦ inl f
    | inr f ↦ inr (ap suc f.0, f.1)
  ]

  pub item_before : (front rest : List X) (k : ℕ) (y : X) → slice_get front k ≡ Some y → slice_get (front ++ rest) k ≡ Some y
  item_before [] rest k y e = absurd (cc)
  item_before (z ∷ front) rest zero y e = e
  item_before (z ∷ front) rest (suc k) y e = item_before front rest k y e

  -- an item of a list with more after it, below the list's length, is one of the list
  pub item_of : (front rest : List X) (k : ℕ) (y : X) → k < length front → slice_get (front ++ rest) k ≡ Some y → slice_get front k ≡ Some y
  item_of [] rest k y less e = absurd (omega (arith, less))
  item_of (z ∷ front) rest zero y less e = e
  item_of (z ∷ front) rest (suc k) y less e = item_of front rest k y (omega (arith, less)) e

  pub item_last : (front : List X) (x : X) (rest : List X) → slice_get (front ++ x ∷ rest) (length front) ≡ Some x
  item_last [] x rest = refl
  item_last (z ∷ front) x rest = item_last front x rest

-- after one more item
module _ {X : Type 0} (whole front left after : List X) (x : X) where
  pub one_after : whole ≡ front ++ left → left ≡ x ∷ after → whole ≡ (front ++ x ∷ []) ++ after
  one_after is first = is ∙ (ap (λ (items : List X). front ++ items) first ∙ sym (append_assoc front (x ∷ []) after))

  pub one_more : (k : ℕ) → whole ≡ front ++ left → left ≡ x ∷ after → k ≡ length front
      → (whole ≡ (front ++ x ∷ []) ++ after) × (k + 1 ≡ length (front ++ x ∷ []))
  one_more k is first at = (one_after is first, omega (arith, at, length-append front (x ∷ [])))

-- what was read is one thing
same_read : (item : Result (List ℕ × Nlist) Fault) (x y : List ℕ × Nlist) → item ≡ Ok x → item ≡ Ok y → x ≡ y
same_read item x y e f = cc (e, f)

-- ---- the nearest below an address

module _ (n a : ℕ) where
  -- a symbol is further below the address than the nearest so far
  abbrev pub IsBeaten : Option SymbolAt → Nlist → Type 0
  IsBeaten None s = ⊥
  IsBeaten (Some x) s = s.n_value < x.symbol.n_value

  -- an item that is beaten changes nothing
  pub nearest-unchanged : (front : List (Result (List ℕ × Nlist) Fault)) (item : Result (List ℕ × Nlist) Fault) (best : Option SymbolAt)
      → IsNearestIn front n a best → ((name : List ℕ) (s : Nlist) → item ≡ Ok (name, s) → is_below n a s ≡ true → IsBeaten best s)
      → IsNearestIn (front ++ item ∷ []) n a best
  nearest-unchanged front item None none beaten = λ k name s b. elim (item_or_last front item k (Ok (name, s)) b.item) [
    | inl before ↦ none k name s (record { item = before; below = b.below })
    | inr last ↦ beaten name s last.1 b.below
  ]
  nearest-unchanged front item (Some x) is beaten = record {
    symbol = record { item = item_before front (item ∷ []) x.index (Ok (x.name.now, x.symbol)) is.symbol.item; below = is.symbol.below };
    greatest = λ k name s b. elim (item_or_last front item k (Ok (name, s)) b.item) [
      | inl before ↦ is.greatest k name s (record { item = before; below = b.below })
      | inr last ↦ omega (arith, beaten name s last.1 b.below)
    ];
    last = λ k name s b after. elim (item_or_last front item k (Ok (name, s)) b.item) [
      | inl before ↦ is.last k name s (record { item = before; below = b.below }) after
      | inr last ↦ beaten name s last.1 b.below
    ];
    distance = is.distance;
  }

  -- a symbol is no nearer to the address than another
  abbrev pub IsNoNearer : Option SymbolAt → SymbolAt → Type 0
  IsNoNearer None x = Unit {0}
  IsNoNearer (Some best) x = best.symbol.n_value ≤ x.symbol.n_value

  both : (b c : Bool) → (b && c) ≡ true → c ≡ true
  both true c e = e
  both false c e = absurd (cc)

  above_value : (s : Nlist) → is_below n a s ≡ true → s.n_value ≤ a
  above_value s e = leb-true s.n_value a (both (type_of s.n_type == 0x0e && not (is_stab s) && s.n_sect == n) (nat_le s.n_value a) e)

  none_if : (b : Bool) (d : ℕ) (found : Option ℕ) → found ≡ cond b (Some d) None → found ≡ None → b ≡ false
  none_if true d found is none = absurd (cc (is, none))
  none_if false d found is none = refl

  some_if : (b : Bool) (d : ℕ) (found : Option ℕ) (e : ℕ) → found ≡ cond b (Some d) None → found ≡ Some e → (b ≡ true) × (e ≡ d)
  some_if true d found e is some = (refl, cc (is, some))
  some_if false d found e is some = absurd (cc (is, some))

  pub not_below : (s : Nlist) (found : Option ℕ) → found ≡ cond (is_below n a s) (Some (a - s.n_value)) None → found ≡ None → is_below n a s ≡ false
  not_below s found is none = none_if (is_below n a s) (a - s.n_value) found is none

  pub distance_is : (s : Nlist) (found : Option ℕ) (d : ℕ) → found ≡ cond (is_below n a s) (Some (a - s.n_value)) None → found ≡ Some d
      → (is_below n a s ≡ true) × (d ≡ a - s.n_value)
  distance_is s found d is some = some_if (is_below n a s) (a - s.n_value) found d is some

  beaten_by : (front : List (Result (List ℕ × Nlist) Fault)) (best : Option SymbolAt) (s : Nlist) (d : ℕ) → IsNearestIn front n a best → d ≡ a - s.n_value
      → is_nearer best d ≡ true → IsBeaten best s
  beaten_by front None s d is distance nearer = absurd (cc (nearer))
  beaten_by front (Some x) s d is distance nearer = omega (arith, is.distance, distance, ltb-true x.distance d nearer)

  no_nearer : (front : List (Result (List ℕ × Nlist) Fault)) (best : Option SymbolAt) (x : SymbolAt) → IsNearestIn front n a best
      → x.distance ≡ a - x.symbol.n_value → x.symbol.n_value ≤ a → is_nearer best x.distance ≡ false → IsNoNearer best x
  no_nearer front None x is distance below nearer = tt
  no_nearer front (Some best) x is distance below nearer = omega (arith, is.distance, distance, below, ltb-false best.distance x.distance nearer)

  no_greater : (front : List (Result (List ℕ × Nlist) Fault)) (best : Option SymbolAt) (x : SymbolAt) → IsNearestIn front n a best → IsNoNearer best x
      → (k : ℕ) (name : List ℕ) (s : Nlist) → IsBelow front n a k name s → s.n_value ≤ x.symbol.n_value
  no_greater front None x none any k name s b = absurd (none k name s b)
  no_greater front (Some best) x is less k name s b = omega (arith, is.greatest k name s b, less)

  -- an item that is no farther is the nearest
  pub nearest-replaced : (front : List (Result (List ℕ × Nlist) Fault)) (best : Option SymbolAt) (x : SymbolAt) → IsNearestIn front n a best
      → IsNoNearer best x → is_below n a x.symbol ≡ true → x.index ≡ length front → x.symbol.n_value + x.distance ≡ a
      → IsNearestIn (front ++ Ok (x.name.now, x.symbol) ∷ []) n a (Some x)
  nearest-replaced front best x is less below index distance =
      let item : Result (List ℕ × Nlist) Fault = Ok (x.name.now, x.symbol) in
      record {
        symbol = record { item = rw index (item_last front item []); below = below };
        greatest = λ k name s b. elim (item_or_last front item k (Ok (name, s)) b.item) [
          | inl before ↦ no_greater front best x is less k name s (record { item = before; below = b.below })
          | inr last ↦ omega (arith, ap (λ (p : List ℕ × Nlist). p.1.n_value) (same_read item (x.name.now, x.symbol) (name, s) refl last.1))
        ];
        last = λ k name s b after. elim (item_or_last front item k (Ok (name, s)) b.item) [
          | inl before ↦ absurd (omega (arith, slice_get_within front k (Ok (name, s)) before, index, after))
          | inr last ↦ absurd (omega (arith, last.0, index, after))
        ];
        distance = distance;
      }

  -- one more item: it can't be read; it is none of them; it is farther; it is no farther
  pub nearest-err : (front : List (Result (List ℕ × Nlist) Fault)) (best : Option SymbolAt) (item : Result (List ℕ × Nlist) Fault) (f : Fault)
      → IsNearestIn front n a best → item ≡ Err f → IsNearestIn (front ++ item ∷ []) n a best
  nearest-err front best item f is err = nearest-unchanged front item best is (λ name s e below. absurd (cc (err, e)))

  -- an item has this record, if it can be read
  abbrev pub IsOf : Result (List ℕ × Nlist) Fault → Nlist → Type 0
  IsOf item s = (name : List ℕ) (t : Nlist) → item ≡ Ok (name, t) → t ≡ s

  pub nearest-other : (front : List (Result (List ℕ × Nlist) Fault)) (best : Option SymbolAt) (item : Result (List ℕ × Nlist) Fault) (s : Nlist)
      → IsNearestIn front n a best → IsOf item s → is_below n a s ≡ false → IsNearestIn (front ++ item ∷ []) n a best
  nearest-other front best item s is one other = nearest-unchanged front item best is (λ name t e below.
      let test : is_below n a t ≡ is_below n a s = ap (λ (u : Nlist). is_below n a u) (one name t e) in absurd (cc (test, below, other)))

  pub nearest-farther : (front : List (Result (List ℕ × Nlist) Fault)) (best : Option SymbolAt) (item : Result (List ℕ × Nlist) Fault) (s : Nlist)
      (d : ℕ) → IsNearestIn front n a best → IsOf item s → d ≡ a - s.n_value → is_nearer best d ≡ true → IsNearestIn (front ++ item ∷ []) n a best
  nearest-farther front best item s d is one distance nearer = nearest-unchanged front item best is (λ name t e below.
      beaten_by front best t d is (distance ∙ ap (λ (u : Nlist). a - u.n_value) (sym (one name t e))) nearer)

  pub nearest-nearer : (front : List (Result (List ℕ × Nlist) Fault)) (best : Option SymbolAt) (x : SymbolAt) → IsNearestIn front n a best
      → is_below n a x.symbol ≡ true → x.index ≡ length front → x.distance ≡ a - x.symbol.n_value → is_nearer best x.distance ≡ false
      → IsNearestIn (front ++ Ok (x.name.now, x.symbol) ∷ []) n a (Some x)
  nearest-nearer front best x is below index distance nearer =
      let less = above_value x.symbol below in
      nearest-replaced front best x is (no_nearer front best x is distance less nearer) below index (omega (arith, less, distance))

-- ---- the starts around an address

-- The starts so far, and the last of them, which is the greatest: all are at or below the address.
pub record StartsSoFar (front : List (Result ℕ Fault)) (a : ℕ) (begin : Option ℕ) : Type 0 where
  pub greatest : IsStartBelow front a begin
  pub below : (start : ℕ) → IsStart front start → start ≤ a

-- the same starts have the same greatest one
still : (a : ℕ) (front items : List (Result ℕ Fault)) (begin : Option ℕ) → ((start : ℕ) → IsStart items start → start ≤ a → IsStart front start)
    → ((start : ℕ) → IsStart front start → IsStart items start) → IsStartBelow front a begin → IsStartBelow items a begin
still a front items None back on none = λ start s less. none start (back start s less) less
still a front items (Some begin) back on p = (on begin p.0, p.1, λ start s less. p.2 start (back start s less) less)

-- a start before another is less
earlier : (items front rest : List (Result ℕ Fault)) (start s : ℕ) → IsAscending items → items ≡ front ++ Ok start ∷ rest → IsStart front s → s < start
earlier items front rest start s ascend is there =
    ascend there.0 (length front) s start (rw is (item_before front (Ok start ∷ rest) there.0 (Ok s) there.1)) (rw is (item_last front (Ok start) rest))
    (slice_get_within front there.0 (Ok s) there.1)

-- a start at or after another is no less
later : (items front rest : List (Result ℕ Fault)) (start s k : ℕ) → IsAscending items → items ≡ front ++ Ok start ∷ rest → slice_get items k ≡ Some (Ok s)
    → length front ≤ k → start ≤ s
later items front rest start s k ascend is there after =
    let here : slice_get items (length front) ≡ Some (Ok start) = rw is (item_last front (Ok start) rest) in
    elim (cases_lt (length front) k) [
      | inl less ↦ omega (arith, ascend (length front) k start s here there less)
      | inr more ↦
          let at : length front ≡ k = omega (arith, after, more) in
          let same : start ≡ s = cc (here, there, at) in omega (arith, same)
    ]

module _ (a limit : ℕ) where
  pub no_starts : StartsSoFar [] a None
  no_starts = record { greatest = λ start s less. cc (s.1); below = λ start s. absurd (cc (s.1)) }

  -- a fault changes nothing
  pub starts-fault : (front : List (Result ℕ Fault)) (item : Result ℕ Fault) (f : Fault) (begin : Option ℕ) → item ≡ Err f → StartsSoFar front a begin
      → StartsSoFar (front ++ item ∷ []) a begin
  starts-fault front item f begin err p =
      let same : (start : ℕ) → IsStart (front ++ item ∷ []) start → IsStart front start =
      λ start s. elim (item_or_last front item s.0 (Ok start) s.1) [ inl before ↦ (s.0, before) | inr last ↦ absurd (cc (last.1, err)) ] in
      record {
        greatest = still a front (front ++ item ∷ []) begin (λ start s _. same start s)
            (λ start s. (s.0, item_before front (item ∷ []) s.0 (Ok start) s.1)) p.greatest;
        below = λ start s. p.below start (same start s);
      }

  -- the next start is the greatest
  pub starts-more : (items front rest : List (Result ℕ Fault)) (start : ℕ) (begin : Option ℕ) → IsAscending items → items ≡ front ++ Ok start ∷ rest
      → start ≤ a → StartsSoFar front a begin → StartsSoFar (front ++ Ok start ∷ []) a (Some start)
  starts-more items front rest start begin ascend is less p =
      let greater : (s : ℕ) → IsStart (front ++ Ok start ∷ []) s → s ≤ start =
      λ s there. elim (item_or_last front (Ok start) there.0 (Ok s) there.1) [
        | inl before ↦ omega (arith, earlier items front rest start s ascend is (there.0, before))
        | inr last ↦ let same : start ≡ s = cc (last.1) in omega (arith, same)
      ] in
      record {
        greatest = ((length front, item_last front (Ok start) []), less, λ s there _. greater s there);
        below = λ s there. omega (arith, greater s there, less);
      }

  -- at the first start after the address
  pub around-next : (items front rest : List (Result ℕ Fault)) (start : ℕ) (begin : Option ℕ) → IsAscending items → items ≡ front ++ Ok start ∷ rest
      → a < start → StartsSoFar front a begin → IsAround items a limit begin (min limit start)
  around-next items front rest start begin ascend is after p =
      let on : (s : ℕ) → IsStart front s → IsStart items s = λ s there. (there.0, rw is (item_before front (Ok start ∷ rest) there.0 (Ok s) there.1)) in
      let back : (s : ℕ) → IsStart items s → s < start → IsStart front s = λ s there less.
      elim (cases_lt there.0 (length front)) [
        | inl inside ↦ (there.0, item_of front (Ok start ∷ rest) there.0 (Ok s) inside (rw is at there.1))
        | inr past ↦ absurd (omega (arith, later items front rest start s there.0 ascend is there.1 past, less))
      ] in
      record {
        below = still a front items begin (λ s there less. back s there (omega (arith, less, after))) on p.greatest;
        ends = elim (cases_lt start limit) [
          | inl less ↦ let least : min limit start ≡ start = omega (arith, less) in
              inr (omega (arith, least, after), (length front, rw (least, is) (item_last front (Ok start) rest)))
          | inr more ↦ inl (omega (arith, more))
        ];
        within = omega arith;
        next = λ s there more. elim (cases_lt s start) [
          | inl less ↦ absurd (omega (arith, p.below s (back s there less), more))
          | inr no_less ↦ omega (arith, no_less)
        ];
      }

  -- after all starts
  pub around-all : (items front : List (Result ℕ Fault)) (begin : Option ℕ) → items ≡ front ++ [] → StartsSoFar front a begin
      → IsAround items a limit begin limit
  around-all items front begin is p =
      let same : items ≡ front = is ∙ append-nil front in
      let back : (s : ℕ) → IsStart items s → IsStart front s = λ s there. (there.0, rw same at there.1) in
      record {
        below = still a front items begin (λ s there _. back s there) (λ s there. (there.0, rw same there.1)) p.greatest;
        ends = inl refl;
        within = omega arith;
        next = λ s there more. absurd (omega (arith, p.below s (back s there), more));
      }

-- the function of a section, by the starts around the address
pub function_of : (items : List (Result ℕ Fault)) (h : Section64) (a start : ℕ) (end : ℕ) → IsAround items a (place_after h.addr h.size) (Some start) end
    → h.addr ≤ start → IsFunctionIn items h a (Some (record { start = start; end = end }))
function_of items h a start end around inside = record { inside = inside; around = around }

pub no_function : (items : List (Result ℕ Fault)) (h : Section64) (a limit : ℕ) (begin : Option ℕ) (end : ℕ) → IsAround items a limit begin end
    → IfSome begin (λ start. start < h.addr) → IsFunctionIn items h a None
no_function items h a limit None end around before = λ start s inside less. around.below start s less
no_function items h a limit (Some begin) end around before = λ start s inside less. absurd (omega (arith, around.below.2 start s less, before, inside))

-- ---- in an image

pub symbol_found : (ss : List SegmentView) (table : Option SymbolTable) (t : SymbolTable) (held : Option NumberedSection) (h : NumberedSection) (n a : ℕ)
    (found : Option SymbolAt) → held ≡ Some h → table ≡ Some t → n ≡ section_number ss h → IsNearestIn (symbols_of (table_in_bounds t)) n a found
    → IsSymbolAt ss (symbols_within table) held a found
symbol_found ss table t held h n a found held_is table_is number nearest = rw (held_is, table_is) (rw number at nearest)

-- the starts of an image ascend, and they are one list
pub image_starts_ascend : (bytes : List ℕ) (place : Option (ℕ × ℕ)) (base : ℕ) (items : List (Result ℕ Fault)) → AreStartsAt bytes place base items
    → IsAscending items
image_starts_ascend bytes None base items none = λ j k a b e f less. let e' : slice_get [] j ≡ Some (Ok a) = rw none at e in absurd (cc (e'))
image_starts_ascend bytes (Some place) base items are = λ j k a b e f less. starts_ascend (start_range_at bytes place.0 place.1) base items are j k a b e f less

pub image_starts_one : (bytes : List ℕ) (place : Option (ℕ × ℕ)) (base : ℕ) (xs ys : List (Result ℕ Fault)) → AreStartsAt bytes place base xs
    → AreStartsAt bytes place base ys → xs ≡ ys
image_starts_one bytes None base xs ys none same = none ∙ sym same
image_starts_one bytes (Some place) base xs ys are same = one_start_list (start_range_at bytes place.0 place.1) base xs ys are same

pub function_found : (held : Option NumberedSection) (h : NumberedSection) (items starts : List (Result ℕ Fault)) (a : ℕ) (found : Option Function)
    → held ≡ Some h → starts ≡ items → IsFunctionIn starts h.section a found → IsFunctionAt items held a found
function_found held h items starts a found held_is same is = rw held_is (rw same at is)

-- how many sections segments claim with one more
pub counted_more : (segments : List Segment) (i claimed : ℕ) (d : Segment) → i < length segments → claimed ≡ claimed_before (map segment_view segments) i
    → min (claimed + (get_or segments i d).nsects) (2 ^ 64 - 1) ≡ claimed_before (map segment_view segments) (i + 1)
counted_more segments i claimed d inside before =
    let more = sum_by_more (λ (v : SegmentView). v.command.nsects) (map segment_view segments) i (segment_view d)
    (omega (arith, inside, length-map segments segment_view)) in
    let last = ap (λ (v : SegmentView). v.command.nsects) (get_or-map segment_view segments i d) in
    omega (arith, before, more, last)
