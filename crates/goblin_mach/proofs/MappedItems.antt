-- The symbols of a map: those of a table, and how they are sorted.
use Rattle.std.proofs.Common.{◌≡◌, ℕ, zero, suc, ◌+◌, ◌<◌, ◌≤◌, Bool, true, false, cond, ◌||◌, List, [], ◌∷◌, ◌++◌, length, Option, Some, None, Result, Ok, Err}
use Rattle.std.proofs.Common.{refl, ap, sym, subst, ◌∙◌, arith, slice_get, append_assoc}
use Rattle.std.specs.Prelude.{◌==◌, count_by, option_and_then}
use Rattle.std.specs.Cmp.{IsTotalOrder}
use Rattle.std.specs.List.{All, list_any}
use Rattle.std.specs.List.Sorted.{IsPermutation, IsSortedByKey}
use Rattle.std.specs.Option.{option_to_list}
use Rattle.std.specs.Ordering.{MatchOrdering, is_lt, nat_cmp, ordering_then}
use Rattle.std.specs.declared.cmp.Ordering.{Ordering}
use Rattle.std.specs.declared.cmp.Ordering.TheVariants.{Less, Equal, Greater}
use Rattle.std.proofs.Math.Bool.{or-true}
use Rattle.std.proofs.lemmas.Bool.Decides.{Decides-eqb}
use Rattle.std.proofs.lemmas.Cmp.{nat_cmp_total, on_total, ranked, then_total}
use Rattle.std.proofs.lemmas.List.{length-append}
use Rattle.std.proofs.lemmas.List.Elements.{All-append, All-cons, All-nil}
use Rattle.std.proofs.lemmas.List.Folds.{list_any-append}
use Rattle.std.proofs.lemmas.List.Sums.{sum_by-cons}
use Rattle.std.proofs.lemmas.List.Sorted.{All-permutation, length_permutation, list_any-IsPermutation, ranks_by, sorted_far}
use Rattle.std.proofs.lemmas.Option.{cond_some}
use Rattle.mach_base.specs.Fault.{Fault}
use Rattle.mach_parts.specs.declared.symbols.nlist.Nlist.{Nlist}
use Rattle.goblin_mach.specs.MappedSymbols.{is_defined, is_defined_symbol, mapped_symbol, mapped_at, mapped_from, AreMapped, AreSortedSymbols, IsNoLater}
use Rattle.goblin_mach.specs.declared.symbol_map.MappedSymbol.{MappedSymbol}
use Rattle.goblin_mach.proofs.NearestItems.{item_last}

-- ---- one item after another

-- after an item that is no such symbol, and after one that is
pub mapped_none : (k : ℕ) (front all : List MappedSymbol) (item : Result (List ℕ × Nlist) Fault) (left after : List (Result (List ℕ × Nlist) Fault))
    → front ++ mapped_from k left ≡ all → left ≡ item ∷ after → mapped_symbol k item ≡ None → front ++ mapped_from (k + 1) after ≡ all
mapped_none k front all item left after so_far first none =
    ap (λ (o : Option MappedSymbol). front ++ (option_to_list o ++ mapped_from (k + 1) after)) (sym none)
    ∙ (ap (λ (items : List (Result (List ℕ × Nlist) Fault)). front ++ mapped_from k items) (sym first) ∙ so_far)

pub mapped_more : (k : ℕ) (front all : List MappedSymbol) (m : MappedSymbol) (item : Result (List ℕ × Nlist) Fault)
    (left after : List (Result (List ℕ × Nlist) Fault)) → front ++ mapped_from k left ≡ all → left ≡ item ∷ after → mapped_symbol k item ≡ Some m
    → (front ++ m ∷ []) ++ mapped_from (k + 1) after ≡ all
mapped_more k front all m item left after so_far first some =
    append_assoc front (m ∷ []) (mapped_from (k + 1) after)
    ∙ (ap (λ (o : Option MappedSymbol). front ++ (option_to_list o ++ mapped_from (k + 1) after)) (sym some)
    ∙ (ap (λ (items : List (Result (List ℕ × Nlist) Fault)). front ++ mapped_from k items) (sym first) ∙ so_far))

-- ---- what they say of the items

-- a symbol has the number of its item
index_is : (k : ℕ) (item : Result (List ℕ × Nlist) Fault) (m : MappedSymbol) → mapped_symbol k item ≡ Some m → m.index ≡ k
index_is k (Ok found) m e =
    let r : MappedSymbol = record { section = found.1.n_sect; value = found.1.n_value; index = k } in
    ap (λ (x : MappedSymbol). x.index) (sym (cond_some (is_defined found.1) r m e).1)
index_is k (Err f) m e = absurd (cc (e))

each_of : (items : List (Result (List ℕ × Nlist) Fault)) (k : ℕ) (item : Result (List ℕ × Nlist) Fault) (o : Option MappedSymbol)
    → slice_get items k ≡ Some item → mapped_symbol k item ≡ o → All (λ m. mapped_at items m.index ≡ Some m) (option_to_list o)
each_of items k item None there none = All-nil (λ m. mapped_at items m.index ≡ Some m)
each_of items k item (Some m) there some =
    let at : m.index ≡ k = index_is k item m some in
    let says : mapped_at items m.index ≡ Some m =
    ap (mapped_at items) at ∙ (ap (option_and_then (mapped_symbol k)) there ∙ some) in
    All-cons (λ m. mapped_at items m.index ≡ Some m) m [] says (All-nil (λ m. mapped_at items m.index ≡ Some m))

each_from : (front items : List (Result (List ℕ × Nlist) Fault))
    → All (λ m. mapped_at (front ++ items) m.index ≡ Some m) (mapped_from (length front) items)
each_from front [] = All-nil (λ m. mapped_at (front ++ []) m.index ≡ Some m)
each_from front (item ∷ items) =
    let all : List (Result (List ℕ × Nlist) Fault) = front ++ item ∷ items in
    let k : ℕ = length front in
    let same : (front ++ item ∷ []) ++ items ≡ all = append_assoc front (item ∷ []) items in
    let long : length (front ++ item ∷ []) ≡ k + 1 = length-append front (item ∷ []) in
    let P : MappedSymbol → Type 0 = λ m. mapped_at all m.index ≡ Some m in
    let later = subst (λ (n : ℕ). All P (mapped_from n items)) long
    (subst (λ (whole : List (Result (List ℕ × Nlist) Fault)). All (λ m. mapped_at whole m.index ≡ Some m) (mapped_from (length (front ++ item ∷ [])) items))
    same (each_from (front ++ item ∷ []) items)) in
    All-append P (option_to_list (mapped_symbol k item)) (mapped_from (k + 1) items)
    (each_of all k item (mapped_symbol k item) (item_last front item items) refl) later

-- a test of one of two lists
any_second : (b : Bool) (c : Bool) → c ≡ true → (b || c) ≡ true
any_second b c e = ap (λ (x : Bool). b || x) e ∙ or-true b

any_first : (p : MappedSymbol → Bool) (m : MappedSymbol) (xs : List MappedSymbol) → p m ≡ true → list_any p ((m ∷ []) ++ xs) ≡ true
any_first p m xs e = ap (λ (b : Bool). b || list_any p xs) e

whole_from : (items : List (Result (List ℕ × Nlist) Fault)) (k j n : ℕ) (m : MappedSymbol) → n ≡ k + j
    → option_and_then (mapped_symbol n) (slice_get items j) ≡ Some m → list_any (λ x. x.index == n) (mapped_from k items) ≡ true
whole_from [] k j n m at e = absurd (cc (e))
whole_from (item ∷ items) k zero n m at e =
    let first : n ≡ k = omega (arith, at) in
    let P : MappedSymbol → Bool = λ x. x.index == n in
    let here : mapped_symbol k item ≡ Some m = ap (λ (i : ℕ). mapped_symbol i item) (sym first) ∙ e in
    let same : P m ≡ true = (Decides-eqb m.index n).1 (index_is n item m e) in
    ap (λ (o : Option MappedSymbol). list_any P (option_to_list o ++ mapped_from (k + 1) items)) here ∙ any_first P m (mapped_from (k + 1) items) same
whole_from (item ∷ items) k (suc j) n m at e =
    let P : MappedSymbol → Bool = λ x. x.index == n in
    list_any-append P (option_to_list (mapped_symbol k item)) (mapped_from (k + 1) items)
    ∙ any_second (list_any P (option_to_list (mapped_symbol k item))) (list_any P (mapped_from (k + 1) items))
    (whole_from items (k + 1) j n m (omega (arith, at)) e)

many_of : (k : ℕ) (item : Result (List ℕ × Nlist) Fault) → length (option_to_list (mapped_symbol k item)) ≡ cond (is_defined_symbol item) 1 0
many_of k (Ok found) = one_if (is_defined found.1) (record { section = found.1.n_sect; value = found.1.n_value; index = k }) where
  one_if : (b : Bool) (m : MappedSymbol) → length (option_to_list (cond b (Some m) None)) ≡ cond b 1 0
  one_if true m = refl
  one_if false m = refl
many_of k (Err f) = refl

many_from : (k : ℕ) (items : List (Result (List ℕ × Nlist) Fault)) → length (mapped_from k items) ≡ count_by is_defined_symbol items
many_from k [] = refl
many_from k (item ∷ items) =
    length-append (option_to_list (mapped_symbol k item)) (mapped_from (k + 1) items)
    ∙ (ap (λ (n : ℕ). n + length (mapped_from (k + 1) items)) (many_of k item)
    ∙ (ap (λ (n : ℕ). cond (is_defined_symbol item) 1 0 + n) (many_from (k + 1) items)
    ∙ sym (sum_by-cons (λ (x : Result (List ℕ × Nlist) Fault). cond (is_defined_symbol x) 1 0) item items)))

-- ---- sorted

-- the key by which they are sorted, and its order
abbrev pub MappedKey : Type 0
MappedKey = ℕ × ℕ × ℕ

abbrev pub mapped_key : MappedSymbol → MappedKey
mapped_key m = (m.section, m.value, m.index)

abbrev pub key_cmp : MappedKey → MappedKey → Ordering
key_cmp x y = ordering_then (ordering_then (nat_cmp x.0 y.0) (nat_cmp x.1 y.1)) (nat_cmp x.2 y.2)

key_cmp_total : IsTotalOrder key_cmp
key_cmp_total =
    then_total (then_total (on_total (λ (x : MappedKey). x.0) nat_cmp_total) (on_total (λ (x : MappedKey). x.1) nat_cmp_total))
    (on_total (λ (x : MappedKey). x.2) nat_cmp_total)

-- what it says of two keys that the first isn't less: by the first numbers that differ
not_less : (o p q : Ordering) (a b c x y z : ℕ) → MatchOrdering o (x < a) (x ≡ a) (a < x) → MatchOrdering p (y < b) (y ≡ b) (b < y)
    → MatchOrdering q (z < c) (z ≡ c) (c < z) → is_lt (ordering_then (ordering_then o p) q) ≡ false
    → (a ≤ x) × (a ≡ x → b ≤ y) × (a ≡ x → b ≡ y → c ≤ z)
not_less Less p q a b c x y z first second third e = absurd (cc (e))
not_less Greater p q a b c x y z first second third e =
    (omega (arith, first), λ same. absurd (omega (arith, first, same)), λ same _. absurd (omega (arith, first, same)))
not_less Equal Less q a b c x y z first second third e = absurd (cc (e))
not_less Equal Greater q a b c x y z first second third e =
    (omega (arith, first), λ _. omega (arith, second), λ _ same. absurd (omega (arith, second, same)))
not_less Equal Equal Less a b c x y z first second third e = absurd (cc (e))
not_less Equal Equal Equal a b c x y z first second third e = (omega (arith, first), λ _. omega (arith, second), λ _ _. omega (arith, third))
not_less Equal Equal Greater a b c x y z first second third e = (omega (arith, first), λ _. omega (arith, second), λ _ _. omega (arith, third))

no_later : (x y : MappedSymbol) → is_lt (key_cmp (mapped_key y) (mapped_key x)) ≡ false → IsNoLater x y
no_later x y e =
    not_less (nat_cmp y.section x.section) (nat_cmp y.value x.value) (nat_cmp y.index x.index) x.section x.value x.index y.section y.value y.index
    (ranked y.section x.section (nat_cmp y.section x.section) refl) (ranked y.value x.value (nat_cmp y.value x.value) refl)
    (ranked y.index x.index (nat_cmp y.index x.index) refl) e

sorted_symbols : (found : List MappedSymbol) → IsSortedByKey mapped_key key_cmp found → AreSortedSymbols found
sorted_symbols found up i j d less inside =
    no_later _ _ (sorted_far (λ (x y : MappedSymbol). is_lt (key_cmp (mapped_key x) (mapped_key y))) (ranks_by key_cmp_total mapped_key) found up i j d less
    inside)

-- the symbols of some items, sorted, are a map of them
pub mapped_sorted : (items : List (Result (List ℕ × Nlist) Fault)) (given found : List MappedSymbol) → given ≡ mapped_from 0 items
    → IsPermutation given found → IsSortedByKey mapped_key key_cmp found → AreMapped items found
mapped_sorted items given found is moved up = record {
  each = All-permutation (λ m. mapped_at items m.index ≡ Some m) given found moved
      (subst (λ (ms : List MappedSymbol). All (λ m. mapped_at items m.index ≡ Some m) ms) (sym is) (each_from [] items));
  whole = λ k m e.
      let P : MappedSymbol → Bool = λ x. x.index == k in
      sym (list_any-IsPermutation P given found moved) ∙ (ap (list_any P) is ∙ whole_from items 0 k k m (omega arith) e);
  many = length_permutation given found moved ∙ (ap (λ (ms : List MappedSymbol). length ms) is ∙ many_from 0 items);
  in_order = sorted_symbols found up;
}
