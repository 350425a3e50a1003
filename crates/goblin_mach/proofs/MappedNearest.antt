-- The nearest of a map's symbols to an address.
use Rattle.std.proofs.Common.{◌≡◌, ◌⊎◌, ℕ, ◌-◌, ◌<◌, ◌≤◌, Bool, true, false, cond, ◌&&◌, List, [], length, Option, Some, None, Result, Ok, Err}
use Rattle.std.proofs.Common.{inl, inr, refl, ap, sym, subst, ◌∙◌, arith, get_or, slice_get, nat_le, nat_lt}
use Rattle.std.specs.Prelude.{◌==◌, option_and_then}
use Rattle.std.specs.Bool.{Decides}
use Rattle.std.specs.List.{Contains}
use Rattle.std.specs.List.Sorted.{IsPartitionPoint, IsPartitionedBy}
use Rattle.std.proofs.lemmas.Bool.{cases_lt, eqb-true, false≢true, leb-true, le-leb}
use Rattle.std.proofs.lemmas.Bool.Decides.{Decides-and, Decides-eqb, Decides-ltb, Decides-or}
use Rattle.std.proofs.lemmas.List.Elements.{All-contains, All-nil}
use Rattle.std.proofs.lemmas.List.Folds.{Any-from_list_any}
use Rattle.std.proofs.lemmas.Option.{cond_some, get_or_from_slice_get, option_and_then_some, same_Some, none-some, slice_get-get_or, slice_get_within}
use Rattle.mach_base.specs.Fault.{Fault}
use Rattle.mach_base.proofs.ItemLists.{length-items_from, slice_get-items}
use Rattle.mach_parts.specs.Symbols.{SymbolTable, symbol_at, symbols_of, table_in_bounds}
use Rattle.mach_parts.specs.Segment.{SegmentView}
use Rattle.mach_parts.specs.declared.segment.numbered.NumberedSection.{NumberedSection}
use Rattle.mach_parts.specs.declared.symbols.nlist.Nlist.{Nlist}
use Rattle.goblin_mach.specs.MappedSymbols.{is_defined, mapped_symbol, mapped_at, is_up_to, AreMapped, AreSortedSymbols, IsLastUpTo, IsNoLater}
use Rattle.goblin_mach.specs.NamedParts.{symbols_within}
use Rattle.goblin_mach.specs.NearestSymbol.{is_below, section_number, IsBelow, IsNearest, IsNearestIn, IsSymbolAt}
use Rattle.goblin_mach.specs.declared.macho.nearest.SymbolAt.{SymbolAt}
use Rattle.goblin_mach.specs.declared.symbol_map.MappedSymbol.{MappedSymbol}

-- ---- up to an address of a section

Decides-leb : (a b : ℕ) → Decides (nat_le a b) (a ≤ b)
Decides-leb a b = (leb-true a b, le-leb a b)

module _ (n a : ℕ) where
  up_to_decides : (m : MappedSymbol) → Decides (is_up_to n a m) ((m.section < n) ⊎ ((m.section ≡ n) × (m.value ≤ a)))
  up_to_decides m =
      Decides-or (nat_lt m.section n) (m.section == n && nat_le m.value a) (Decides-ltb m.section n)
      (Decides-and (m.section == n) (nat_le m.value a) (Decides-eqb m.section n) (Decides-leb m.value a))

  earlier_is_up_to : (x y : MappedSymbol) → IsNoLater x y → (y.section < n) ⊎ ((y.section ≡ n) × (y.value ≤ a))
      → (x.section < n) ⊎ ((x.section ≡ n) × (x.value ≤ a))
  earlier_is_up_to x y less (inl before) = inl (omega (arith, less, before))
  earlier_is_up_to x y less (inr here) = earlier_here x y less here where
    earlier_here : (x y : MappedSymbol) → IsNoLater x y → (y.section ≡ n) × (y.value ≤ a) → (x.section < n) ⊎ ((x.section ≡ n) × (x.value ≤ a))
    earlier_here x y less here = grind (arith)

  pub up_to_is_partitioned : (found : List MappedSymbol) → AreSortedSymbols found → IsPartitionedBy (is_up_to n a) found
  up_to_is_partitioned found up i j d less inside e =
      let x = get_or found i d in
      let y = get_or found j d in
      (up_to_decides x).1 (earlier_is_up_to x y (up i j d less inside) ((up_to_decides y).0 e))

  -- the last one before the point where the test fails
  pub last_before : (found : List MappedSymbol) (passed last : ℕ) (d : MappedSymbol) → AreSortedSymbols found
      → IsPartitionPoint (λ x. is_up_to n a x ≡ true) (λ x. is_up_to n a x ≡ false) found passed → passed ≤ length found → 1 ≤ passed → last ≡ passed - 1
      → IsLastUpTo found n a (Some (get_or found last d))
  last_before found passed last d up point most some at =
      let m : MappedSymbol = get_or found last d in
      let inside : last < length found = omega (arith, most, some, at) in
      let there : slice_get found last ≡ Some m = slice_get-get_or found last d inside in (
        (last, there),
        point.0 last d (omega arith) (omega (arith, some, at)),
        λ k e within passes. elim (cases_lt k passed) [
          | inl before ↦
              subst (λ (x : MappedSymbol). IsNoLater (get_or found k e) x) (get_or_from_slice_get found last m e there)
              (up k last e (omega (arith, before, some, at)) inside)
          | inr past ↦ absurd (false≢true (sym (point.1 k e past within) ∙ passes))
        ],
      )

  pub none_before : (found : List MappedSymbol) (passed : ℕ) → (1 ≤ passed → ⊥)
      → IsPartitionPoint (λ x. is_up_to n a x ≡ true) (λ x. is_up_to n a x ≡ false) found passed → IsLastUpTo found n a None
  none_before found passed none point = λ k d within.
      elim (cases_lt passed 1) [ inl less ↦ point.1 k d (omega (arith, less)) within | inr more ↦ absurd (none more) ]

-- ---- a symbol below the address is one of the map

both : (b c : Bool) → (b && c) ≡ true → (b ≡ true) × (c ≡ true)
both true c e = (refl, e)
both false c e = absurd (cc (e))

join : (b c : Bool) → b ≡ true → c ≡ true → (b && c) ≡ true
join b c e f = ap (λ (x : Bool). x && c) e ∙ f

-- a symbol as a map holds it
abbrev mapped : ℕ → Nlist → MappedSymbol
mapped k s = record { section = s.n_sect; value = s.n_value; index = k }

-- what an item says of the symbol that a map holds for it
pub parts_of : (k : ℕ) (name : List ℕ) (s : Nlist) (m : MappedSymbol) → mapped_symbol k (Ok (name, s)) ≡ Some m → (is_defined s ≡ true) × (mapped k s ≡ m)
parts_of k name s m e = cond_some (is_defined s) (mapped k s) m e

module _ (n a : ℕ) where
  below_parts : (s : Nlist) → is_below n a s ≡ true → (is_defined s ≡ true) × ((s.n_sect ≡ n) × (s.n_value ≤ a))
  below_parts s e =
      let most = both (is_defined s && s.n_sect == n) (nat_le s.n_value a) e in
      let first = both (is_defined s) (s.n_sect == n) most.0 in
      (first.0, (eqb-true s.n_sect n first.1, leb-true s.n_value a most.1))

  below_of : (s : Nlist) → is_defined s ≡ true → s.n_sect ≡ n → s.n_value ≤ a → is_below n a s ≡ true
  below_of s defined here less =
      join (is_defined s && s.n_sect == n) (nat_le s.n_value a) (join (is_defined s) (s.n_sect == n) defined ((Decides-eqb s.n_sect n).1 here))
      (le-leb s.n_value a less)

  module _ (items : List (Result (List ℕ × Nlist) Fault)) (found : List MappedSymbol) (all : AreMapped items found) where
    is_found : (k : ℕ) (m : MappedSymbol) → mapped_at items k ≡ Some m → Contains found m
    is_found k m e =
        let any = Any-from_list_any (λ (x : MappedSymbol). x.index == k) found (all.whole k m e) in
        let x : MappedSymbol = any.1 in
        let says : mapped_at items x.index ≡ Some x =
        subst (λ (y : MappedSymbol). mapped_at items y.index ≡ Some y) any.3 (all.each any.0 x any.2) in
        let at : x.index ≡ k = eqb-true x.index k any.4 in
        let same : x ≡ m = same_Some x m (sym says ∙ (ap (mapped_at items) at ∙ e)) in
        (any.0, any.2, subst (λ (y : MappedSymbol). get_or found any.0 y ≡ y) same any.3)

    below_is_found : (k : ℕ) (name : List ℕ) (s : Nlist) → IsBelow items n a k name s → Contains found (mapped k s) × (is_up_to n a (mapped k s) ≡ true)
    below_is_found k name s b =
        let parts = below_parts s b.below in
        let there : mapped_at items k ≡ Some (mapped k s) =
        ap (option_and_then (mapped_symbol k)) b.item ∙ ap (λ (is : Bool). cond is (Some (mapped k s)) None) parts.0 in
        (is_found k (mapped k s) there, (up_to_decides n a (mapped k s)).1 (inr parts.1))

    pub none_nearest : IsLastUpTo found n a None → IsNearestIn items n a None
    none_nearest none = λ k name s b.
        let held = below_is_found k name s b in
        false≢true (sym (All-contains (λ m. is_up_to n a m ≡ false) found (mapped k s) none held.0) ∙ held.1)

    no_later_than : (last : MappedSymbol) → IsLastUpTo found n a (Some last) → (k : ℕ) (name : List ℕ) (s : Nlist) → IsBelow items n a k name s
        → IsNoLater (mapped k s) last
    no_later_than last is k name s b =
        let held = below_is_found k name s b in
        All-contains (λ m. is_up_to n a m ≡ true → IsNoLater m last) found (mapped k s) is.2 held.0 held.1

    -- the last one is of another section, or it is the nearest
    pub other_section : (last : MappedSymbol) (s : Nlist) → IsLastUpTo found n a (Some last) → is_defined s ≡ true → mapped last.index s ≡ last
        → is_below n a s ≡ false → IsNearestIn items n a None
    other_section last s is defined same other = λ k name t b.
        let less = no_later_than last is k name t b in
        let at = (below_parts t b.below).1 in
        let section : s.n_sect ≡ last.section = ap (λ (m : MappedSymbol). m.section) same in
        let value : s.n_value ≡ last.value = ap (λ (m : MappedSymbol). m.value) same in
        elim ((up_to_decides n a last).0 is.1) [
          | inl before ↦ omega (arith, before, less.0, at.0)
          | inr here ↦ false≢true (sym other ∙ below_of s defined (section ∙ here.0) (omega (arith, here.1, value)))
        ]

    pub is_nearest : (x : SymbolAt) (last : MappedSymbol) → IsLastUpTo found n a (Some last) → mapped x.index x.symbol ≡ last
        → slice_get items x.index ≡ Some (Ok (x.name.now, x.symbol)) → is_below n a x.symbol ≡ true → x.distance ≡ a - x.symbol.n_value
        → IsNearest items n a x
    is_nearest x last is same item below distance =
        let section : x.symbol.n_sect ≡ last.section = ap (λ (m : MappedSymbol). m.section) same in
        let value : x.symbol.n_value ≡ last.value = ap (λ (m : MappedSymbol). m.value) same in
        let index : x.index ≡ last.index = ap (λ (m : MappedSymbol). m.index) same in
        let at = (below_parts x.symbol below).1 in
        record {
          symbol = record { item = item; below = below };
          greatest = λ k name s b.
              let less = no_later_than last is k name s b in
              let here = (below_parts s b.below).1 in
              omega (arith, less.1 (here.0 ∙ (sym at.0 ∙ section)), value);
          last = λ k name s b after.
              let less = no_later_than last is k name s b in
              let here = (below_parts s b.below).1 in
              let together : s.n_sect ≡ last.section = here.0 ∙ (sym at.0 ∙ section) in
              elim (cases_lt s.n_value x.symbol.n_value) [
                | inl below ↦ below
                | inr above ↦ absurd (omega (arith, less.2 together (omega (arith, less.1 together, value, above)), index, after))
              ];
          distance = omega (arith, distance, at.1);
        }

-- ---- the item of the last one

pub item_of_last : (t : SymbolTable) (found : List MappedSymbol) (n a : ℕ) (last : MappedSymbol) → AreMapped (symbols_of t) found
    → IsLastUpTo found n a (Some last)
    → (slice_get (symbols_of t) last.index ≡ Some (symbol_at t last.index)) × (mapped_symbol last.index (symbol_at t last.index) ≡ Some last)
item_of_last t found n a last all is =
    let there = is.0 in
    let inside = slice_get_within found there.0 last there.1 in
    let says : mapped_at (symbols_of t) last.index ≡ Some last =
    subst (λ (y : MappedSymbol). mapped_at (symbols_of t) y.index ≡ Some y) (get_or_from_slice_get found there.0 last last there.1)
    (all.each there.0 last inside) in
    option_and_then_some (mapped_symbol last.index) (slice_get (symbols_of t) last.index) last says (λ x at reads.
    let within : last.index < t.nsyms =
    omega (arith, slice_get_within (symbols_of t) last.index x at, length-items_from (symbol_at t) 0 t.nsyms) in
    let item = slice_get-items (symbol_at t) t.nsyms last.index within in
    let same : x ≡ symbol_at t last.index = same_Some x (symbol_at t last.index) (sym at ∙ item) in
    (item, subst (λ (y : Result (List ℕ × Nlist) Fault). mapped_symbol last.index y ≡ Some last) same reads))

-- it can be read
pub unreadable : (k : ℕ) (item : Result (List ℕ × Nlist) Fault) (f : Fault) (m : MappedSymbol) → item ≡ Err f → mapped_symbol k item ≡ Some m → ⊥
unreadable k item f m err e =
    let none : mapped_symbol k (Err f) ≡ Some m = subst (λ (x : Result (List ℕ × Nlist) Fault). mapped_symbol k x ≡ Some m) err e in
    none-some m none

pub parts_of_item : (k : ℕ) (item : Result (List ℕ × Nlist) Fault) (name : List ℕ) (s : Nlist) (m : MappedSymbol) → item ≡ Ok (name, s)
    → mapped_symbol k item ≡ Some m → (is_defined s ≡ true) × (mapped k s ≡ m)
parts_of_item k item name s m ok e =
    parts_of k name s m (subst (λ (x : Result (List ℕ × Nlist) Fault). mapped_symbol k x ≡ Some m) ok e)

-- ---- in an image

pub none_mapped : (found : List MappedSymbol) → found ≡ [] → AreMapped [] found
none_mapped found none = subst (λ (ms : List MappedSymbol). AreMapped [] ms) (sym none) (record {
  each = All-nil (λ m. mapped_at [] m.index ≡ Some m);
  whole = λ k m e. absurd (none-some m e);
  many = refl;
  in_order = λ i j d less inside. absurd (omega (arith, inside));
})

pub table_mapped : (table : Option SymbolTable) (t : SymbolTable) (found symbols : List MappedSymbol) → AreMapped (symbols_within table) found → table ≡ Some t
    → symbols ≡ found → AreMapped (symbols_of (table_in_bounds t)) symbols
table_mapped table t found symbols all is same =
    let of_table : AreMapped (symbols_within (Some t)) found = subst (λ (o : Option SymbolTable). AreMapped (symbols_within o) found) is all in
    subst (λ (ms : List MappedSymbol). AreMapped (symbols_of (table_in_bounds t)) ms) (sym same) of_table

-- the nearest of a table's symbols are those of the image
pub table_nearest : (table : Option SymbolTable) (t : SymbolTable) (n a : ℕ) (found : Option SymbolAt) → table ≡ Some t
    → IsNearestIn (symbols_of (table_in_bounds t)) n a found → IsNearestIn (symbols_within table) n a found
table_nearest table t n a found is nearest = rw is nearest

-- the nearest of the section that holds the address
pub symbol_by_section : (ss : List SegmentView) (items : List (Result (List ℕ × Nlist) Fault)) (held : Option NumberedSection) (h : NumberedSection) (n a : ℕ)
    (found : Option SymbolAt) → held ≡ Some h → n ≡ section_number ss h → IsNearestIn items n a found → IsSymbolAt ss items held a found
symbol_by_section ss items held h n a found is number nearest = rw is (rw number at nearest)
