-- The map of a table's symbols as an array of numbers: how it is sorted, and how it is searched.
use Rattle.std.proofs.Common.{◌≡◌, ℕ, zero, suc, ◌+◌, ◌<◌, ◌≤◌, Bool, true, false, cond, ◌&&◌, List, [], ◌∷◌, ◌++◌, length, map}
use Rattle.std.proofs.Common.{Option, Some, None, Result, Ok, Err, refl, ap, sym, subst, ◌∙◌, arith, get_or, slice_get, nat_le}
use Rattle.std.specs.Option.{option_to_list}
use Rattle.std.specs.Prelude.{◌==◌, IfSome}
use Rattle.std.specs.List.Sorted.{IsPartitionPoint, IsPartitionedBy, IsPermutation, IsSortedByKey}
use Rattle.std.proofs.lemmas.Bool.{eqb-true, leb-true, le-leb}
use Rattle.std.proofs.lemmas.Bool.Decides.{Decides-eqb}
use Rattle.std.proofs.lemmas.List.{length-map, get_or-map}
use Rattle.std.proofs.lemmas.List.Sorted.{IsPermutation-map}
use Rattle.mach_base.specs.Answer.{◌>>=◌}
use Rattle.mach_base.specs.Fault.{Fault}
use Rattle.mach_base.specs.Items.{items_from}
use Rattle.mach_base.specs.Number.{place_after}
use Rattle.mach_base.specs.Text.{text_at}
use Rattle.mach_base.proofs.Binds.{same_ok}
use Rattle.mach_base.proofs.ItemLists.{length-items_from}
use Rattle.mach_parts.specs.Symbols.{SymbolTable, symbol_at, symbol_record_at, symbols_of, table_in_bounds}
use Rattle.mach_parts.specs.declared.symbols.nlist.Nlist.{Nlist}
use Rattle.goblin_mach.specs.ImageSlots.{symbol_table_view}
use Rattle.goblin_mach.specs.MappedSymbols.{AreSortedSymbols, IsLastUpTo, is_defined, is_defined_symbol, is_up_to, mapped_from, mapped_symbol}
use Rattle.goblin_mach.specs.NamedParts.{symbols_within}
use Rattle.goblin_mach.specs.NearestSymbol.{IsNearestIn, is_below}
use Rattle.goblin_mach.specs.OpenImage.{IsLossyImage, commands_view}
use Rattle.goblin_mach.specs.Subjects.{table_in}
use Rattle.goblin_mach.specs.declared.macho.MachO.{MachO}
use Rattle.goblin_mach.specs.declared.macho.nearest.SymbolAt.{SymbolAt}
use Rattle.goblin_mach.specs.declared.symbol_map.MappedSymbol.{MappedSymbol}
use Rattle.goblin_mach.proofs.ImageFacts.{one_image}
use Rattle.goblin_mach.proofs.MappedItems.{key_cmp, mapped_key, mapped_sorted}
use Rattle.goblin_mach.proofs.MappedNearest.{item_of_last, other_section, parts_of_item, up_to_is_partitioned}
use Rattle.goblin_mach_c.specs.SymbolMaps.{IsOrderOf, IsSymbolMap, IsSymbolOrder, defined_from, numbered_symbol, record_on_map}

-- ---- a symbol by its number is that of its item

named_record : (s : Nlist) (name : Result (List ℕ) Fault) (found : List ℕ × Nlist) → (name >>= λ text. Ok (text, s)) ≡ Ok found → s ≡ found.1
named_record s (Ok text) found e = ap (λ (p : List ℕ × Nlist). p.1) (same_ok e)
named_record s (Err f) found e = absurd (cc (e))

read_record : (t : SymbolTable) (read : Result Nlist Fault) (found : List ℕ × Nlist)
    → (read >>= λ s. text_at t.bytes (place_after t.strtab s.n_strx) >>= λ text. Ok (text, s)) ≡ Ok found → read ≡ Ok found.1
read_record t (Ok s) found e = ap Ok (named_record s (text_at t.bytes (place_after t.strtab s.n_strx)) found e)
read_record t (Err f) found e = absurd (cc (e))

record_of_item : (t : SymbolTable) (k : ℕ) (found : List ℕ × Nlist) → symbol_at t k ≡ Ok found → symbol_record_at t k ≡ Ok found.1
unfolding symbol_at
record_of_item t k found e = read_record t (symbol_record_at t k) found e

module _ (t : SymbolTable) where
  abbrev N : ℕ → MappedSymbol
  N = numbered_symbol t

  mapped_item : (k : ℕ) (item : Result (List ℕ × Nlist) Fault) (rest : List (Result (List ℕ × Nlist) Fault)) → symbol_at t k ≡ item
      → map N (defined_from (k + 1) rest) ≡ mapped_from (k + 1) rest → map N (defined_from k (item ∷ rest)) ≡ mapped_from k (item ∷ rest)
  mapped_item k (Err f) rest e later = later
  mapped_item k (Ok found) rest e later =
      let m : MappedSymbol = record { section = found.1.n_sect; value = found.1.n_value; index = k } in
      let is : N k ≡ m = ap (record_on_map k) (record_of_item t k found e) in
      by_test (is_defined found.1) m is where
        by_test : (b : Bool) (m : MappedSymbol) → N k ≡ m
            → map N (cond b (k ∷ defined_from (k + 1) rest) (defined_from (k + 1) rest)) ≡ option_to_list (cond b (Some m) None) ++ mapped_from (k + 1) rest
        by_test true m is = cc (is, later)
        by_test false m is = later

  -- the numbers of a table are those of its map, before it is sorted
  mapped_numbers : (k n : ℕ) → map N (defined_from k (items_from (symbol_at t) k n)) ≡ mapped_from k (items_from (symbol_at t) k n)
  mapped_numbers k zero = refl
  mapped_numbers k (suc n) = mapped_item k (symbol_at t k) (items_from (symbol_at t) (k + 1) n) refl (mapped_numbers (k + 1) n)

  -- ---- sorted

  sorted_map : (numbers : List ℕ) → IsSortedByKey (λ k. mapped_key (N k)) key_cmp numbers → IsSortedByKey mapped_key key_cmp (map N numbers)
  sorted_map numbers up k d low inside =
      let long : length (map N numbers) ≡ length numbers = length-map numbers N in
      let less : k + 1 < length numbers = omega (arith, long, inside) in
      rw (get_or-map N numbers (k + 1) 0 d less, get_or-map N numbers k 0 d (omega (arith, less))) (up k 0 low less)

  pub sorted_order : (given numbers : List ℕ) → given ≡ defined_from 0 (symbols_of t) → IsPermutation given numbers
      → IsSortedByKey (λ k. mapped_key (N k)) key_cmp numbers → IsOrderOf t numbers
  sorted_order given numbers is moved up =
      mapped_sorted (symbols_of t) (map N given) (map N numbers) (ap (map N) is ∙ mapped_numbers 0 t.nsyms) (IsPermutation-map N given numbers moved)
      (sorted_map numbers up)

  -- ---- searched

  module _ (n a : ℕ) where
    pub is_partitioned : (order : List ℕ) → AreSortedSymbols (map N order) → IsPartitionedBy (λ k. is_up_to n a (N k)) order
    is_partitioned order up i j d less inside e =
        let long : length (map N order) ≡ length order = length-map order N in
        let at : (k : ℕ) → k < length order → get_or (map N order) k (N d) ≡ N (get_or order k d) = λ k within. get_or-map N order k d (N d) within in
        let there = up_to_is_partitioned n a (map N order) up i j (N d) less (omega (arith, long, inside)) in
        ap (is_up_to n a) (sym (at i (omega (arith, less, inside)))) ∙ there (ap (is_up_to n a) (at j inside) ∙ e)

    pub point_of_map : (order : List ℕ) (passed : ℕ) → passed ≤ length order
        → IsPartitionPoint (λ k. is_up_to n a (N k) ≡ true) (λ k. is_up_to n a (N k) ≡ false) order passed
        → IsPartitionPoint (λ m. is_up_to n a m ≡ true) (λ m. is_up_to n a m ≡ false) (map N order) passed
    point_of_map order passed most point =
        let long : length (map N order) ≡ length order = length-map order N in (
          λ k d low inside. ap (is_up_to n a) (get_or-map N order k 0 d (omega (arith, inside, most))) ∙ point.0 k 0 low inside,
          λ k d past inside. let within : k < length order = omega (arith, long, inside) in
              ap (is_up_to n a) (get_or-map N order k 0 d within) ∙ point.1 k 0 past within,
        )

-- ---- the symbol that a search finds

record_index : (k : ℕ) (r : Result Nlist Fault) → (record_on_map k r).index ≡ k
record_index k (Ok s) = refl
record_index k (Err f) = refl

pub item_of_number : (t : SymbolTable) (order : List ℕ) (n a k : ℕ) → IsOrderOf t order
    → IsLastUpTo (map (numbered_symbol t) order) n a (Some (numbered_symbol t k))
    → (slice_get (symbols_of t) k ≡ Some (symbol_at t k)) × (mapped_symbol k (symbol_at t k) ≡ Some (numbered_symbol t k))
item_of_number t order n a k all is =
    subst (λ (i : ℕ). (slice_get (symbols_of t) i ≡ Some (symbol_at t i)) × (mapped_symbol i (symbol_at t i) ≡ Some (numbered_symbol t k)))
    (record_index k (symbol_record_at t k)) (item_of_last t (map (numbered_symbol t) order) n a (numbered_symbol t k) all is)

-- if the last one isn't at or below the address in the section, none is
pub nearest_elsewhere : (t : SymbolTable) (order : List ℕ) (n a k : ℕ) (name : List ℕ) (s : Nlist) → IsOrderOf t order
    → IsLastUpTo (map (numbered_symbol t) order) n a (Some (numbered_symbol t k)) → symbol_at t k ≡ Ok (name, s) → is_below n a s ≡ false
    → IsNearestIn (symbols_of t) n a None
nearest_elsewhere t order n a k name s all is read other =
    let item = item_of_number t order n a k all is in
    let parts = parts_of_item k (symbol_at t k) name s (numbered_symbol t k) read item.1 in
    let m : ℕ → MappedSymbol = λ i. record { section = s.n_sect; value = s.n_value; index = i } in
    other_section n a (symbols_of t) (map (numbered_symbol t) order) all (numbered_symbol t k) s is parts.0
    (ap m (record_index k (symbol_record_at t k)) ∙ parts.1) other

all_three : (b c d : Bool) → b ≡ true → c ≡ true → d ≡ true → (b && c && d) ≡ true
all_three b c d e f g = rw (e, f, g) refl

pub other_number : (n a : ℕ) (s : Nlist) → (s.n_sect ≡ n → ⊥) → is_below n a s ≡ false
other_number n a s other = by_test (s.n_sect == n) refl where
  by_test : (b : Bool) → s.n_sect == n ≡ b → (is_defined s && b && nat_le s.n_value a) ≡ false
  by_test true e = absurd (other (eqb-true s.n_sect n e))
  by_test false e = none (is_defined s) where
    none : (d : Bool) → (d && false && nat_le s.n_value a) ≡ false
    none true = refl
    none false = refl

pub above_address : (n a : ℕ) (s : Nlist) → (s.n_value ≤ a → ⊥) → is_below n a s ≡ false
above_address n a s above = by_test (is_defined s && s.n_sect == n) (nat_le s.n_value a) refl where
  by_test : (d b : Bool) → nat_le s.n_value a ≡ b → (d && b) ≡ false
  by_test d true e = absurd (above (leb-true s.n_value a e))
  by_test true false e = refl
  by_test false false e = refl

pub below_address : (n a : ℕ) (s : Nlist) → is_defined s ≡ true → s.n_sect ≡ n → s.n_value ≤ a → is_below n a s ≡ true
below_address n a s defined here less =
    all_three (is_defined s) (s.n_sect == n) (nat_le s.n_value a) defined ((Decides-eqb s.n_sect n).1 here) (le-leb s.n_value a less)

pub within_table : (table : Option SymbolTable) (t : SymbolTable) (found : Option SymbolAt) → table ≡ Some t → (u : SymbolTable) → u ≡ table_in_bounds t
    → IfSome found (λ x. x.index < u.nsyms) → IfSome found (λ x. x.index < length (symbols_within table))
within_table table t None is u at less = less
within_table table t (Some x) is u at less =
    let v : SymbolTable = table_in_bounds t in
    let many : length (symbols_of v) ≡ v.nsyms = length-items_from (symbol_at v) 0 v.nsyms in
    let same : u.nsyms ≡ v.nsyms = ap (λ (w : SymbolTable). w.nsyms) at in
    rw is (omega (arith, less, many, same))

-- the map of the bytes is that of the table that is held
pub order_of_image : {A : Type 0} (bytes : List ℕ) (o : ℕ) (m : MachO A) (order : List ℕ) → IsLossyImage bytes o m → IsSymbolMap bytes o order
    → IsSymbolOrder (symbol_table_view m) order
order_of_image bytes o m order p q =
    subst (λ (table : Option SymbolTable). IsSymbolOrder table order) (sym p.fields.symbols)
    (one_image bytes o (λ ctx cs. IsSymbolOrder (table_in ctx bytes cs) order) p.ctx (commands_view m) p.opens q)

-- ---- how many they are

few_if : (b : Bool) (k m : ℕ) (numbers : List ℕ) → length numbers ≤ m → length (cond b (k ∷ numbers) numbers) ≤ suc m
few_if true k m numbers less = omega (arith, less)
few_if false k m numbers less = omega (arith, less)

pub few_defined : (k : ℕ) (items : List (Result (List ℕ × Nlist) Fault)) → length (defined_from k items) ≤ length items
few_defined k [] = omega arith
few_defined k (item ∷ items) = few_if (is_defined_symbol item) k (length items) (defined_from (k + 1) items) (few_defined (k + 1) items)
