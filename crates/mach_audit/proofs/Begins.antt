-- Records of which the first ones begin within the bytes.
use Rattle.std.proofs.Common.{◌≡◌, ◌<◌, ◌≤◌, ◌-◌, ◌^◌, ◌++◌, ◌∷◌, ◌∙◌, [], ℕ, zero, suc, Bool, true, false, List, length, Option, Some, None, Result}
use Rattle.std.proofs.Common.{slice_get, refl, sym, ap, arith}
use Rattle.std.specs.Prelude.{◌&&◌, is_ok, if◌then◌else◌, option_map}
use Rattle.std.specs.List.{list_all, flat_map, sum_by}
use Rattle.std.proofs.lemmas.Bool.{false≢true, and_left, and_right}
use Rattle.std.proofs.lemmas.List.Folds.{list_all-append}
use Rattle.std.proofs.lemmas.List.Sums.{sum_by-cons}
use Rattle.mach_base.proofs.InBounds.{some_past}
use Rattle.mach_base.proofs.ItemLists.{length-items_from, slice_get-items}
use Rattle.mach_base.specs.Fault.{Fault}
use Rattle.mach_base.specs.Items.{items_in_bounds, is_past_the_end}
use Rattle.mach_parts.specs.Symbols.{SymbolTable, table_in_bounds, symbol_at, symbols_of}
use Rattle.goblin_mach.specs.Subjects.{symbols_in}
use Rattle.mach_audit.specs.Reported.{more_than, symbols_beyond}

-- Of all items of a list these begin within the bytes; there are `past` more, one of which can't be read.
pub record Begins {X : Type 0} (all in_bounds : List (Result X Fault)) (past : ℕ) : Type 0 where
  pub whole : past ≡ 0 → in_bounds ≡ all
  pub broken : 0 < past → list_all is_ok all ≡ true → ⊥

begun_whole : {X : Type 0} (items : List (Result X Fault)) → length items ≤ length (items_in_bounds items) → items_in_bounds items ≡ items
begun_whole [] all = refl
begun_whole (item ∷ items) all = by_test (is_past_the_end item) (λ fewer. begun_whole items fewer) all
  where
    by_test : (past : Bool) → (length items ≤ length (items_in_bounds items) → items_in_bounds items ≡ items)
        → length (item ∷ items) ≤ length (if past then [] else item ∷ items_in_bounds items)
        → (if past then [] else item ∷ items_in_bounds items) ≡ item ∷ items
    by_test true others all = absurd (omega (arith, all))
    by_test false others all = ap (λ rest. item ∷ rest) (others (omega (arith, all)))

-- the items of one list
pub items_begin : {X : Type 0} (items : List (Result X Fault)) → Begins items (items_in_bounds items) (more_than (items_in_bounds items) items)
items_begin items = record {
  whole = λ none. begun_whole items (omega (arith, none));
  broken = λ some all. false≢true (sym (some_past items (omega (arith, some))) ∙ all);
}

left_of : (a b : Bool) → (a && b) ≡ true → a ≡ true
left_of true b both = refl
left_of false b both = absurd (false≢true both)

right_of : (a b : Bool) → (a && b) ≡ true → b ≡ true
right_of true b both = both
right_of false b both = absurd (false≢true both)

-- the items of several lists
pub each_begins : {Y X : Type 0} (all in_bounds : Y → List (Result X Fault)) (past : Y → ℕ) → ((y : Y) → Begins (all y) (in_bounds y) (past y)) → (ys : List Y)
    → Begins (flat_map all ys) (flat_map in_bounds ys) (sum_by past ys)
each_begins all in_bounds past one [] = record { whole = λ none. refl; broken = λ some ok. omega (arith, some) }
each_begins all in_bounds past one (y ∷ ys) =
    let here = one y in
    let rest = each_begins all in_bounds past one ys in
    let count = sum_by-cons past y ys in record {
      whole = λ none.
          let first : past y ≡ 0 = omega (arith, none, count) in
          let others : sum_by past ys ≡ 0 = omega (arith, none, count) in
          ap (λ front. front ++ flat_map in_bounds ys) (here.whole first) ∙ ap (λ xs. all y ++ xs) (rest.whole others);
      broken = λ some ok.
          let both = sym (list_all-append is_ok (all y) (flat_map all ys)) ∙ ok in
          by_count (past y) refl rest some both;
    }
  where
    by_count : (n : ℕ) → past y ≡ n → Begins (flat_map all ys) (flat_map in_bounds ys) (sum_by past ys) → 0 < sum_by past (y ∷ ys)
        → (list_all is_ok (all y) && list_all is_ok (flat_map all ys)) ≡ true → ⊥
    by_count zero is rest some both = rest.broken (omega (arith, is, some, sum_by-cons past y ys)) (right_of (list_all is_ok (all y)) _ both)
    by_count (suc n) is rest some both = (one y).broken (omega (arith, is)) (left_of _ (list_all is_ok (flat_map all ys)) both)

same_table : (t : SymbolTable) → t.nsyms ≤ (table_in_bounds t).nsyms → symbols_of (table_in_bounds t) ≡ symbols_of t
same_table t all =
    let same : (table_in_bounds t).nsyms ≡ t.nsyms = omega (arith, all) in
    ap (λ (n : ℕ). symbols_of (record { bytes = t.bytes; start = t.start; nsyms = n; strtab = t.strtab; ctx = t.ctx })) same

bad_within : {X : Type 0} (items : List (Result X Fault)) (k : ℕ) (item : Result X Fault) → slice_get items k ≡ Some item → is_ok item ≡ false
    → list_all is_ok items ≡ false
bad_within [] k item is bad = absurd (cc)
bad_within (x ∷ items) zero item is bad =
    let same : x ≡ item = cc in
    and_left (is_ok x) (list_all is_ok items) (ap is_ok same ∙ bad)
bad_within (x ∷ items) (suc k) item is bad = and_right (is_ok x) (list_all is_ok items) (bad_within items k item is bad)

abbrev pub NoneIsPast : Type 0
NoneIsPast = (t : SymbolTable) (k : ℕ) → length t.bytes < 2 ^ 64 → (table_in_bounds t).nsyms ≤ k → k < t.nsyms → is_ok (symbol_at t k) ≡ false

-- a table that claims more symbols than begin within the bytes has one that can't be read
pub table_broken : NoneIsPast → (t : SymbolTable) → length t.bytes < 2 ^ 64 → (table_in_bounds t).nsyms < t.nsyms → list_all is_ok (symbols_of t) ≡ true → ⊥
table_broken law t few past ok =
    let k = (table_in_bounds t).nsyms in
    let bad = bad_within (symbols_of t) k (symbol_at t k) (slice_get-items (symbol_at t) t.nsyms k past) (law t k few (omega arith) past) in
    false≢true (sym bad ∙ ok)

pub count_past : (t : SymbolTable) → symbols_beyond (Some t) ≡ t.nsyms - (table_in_bounds t).nsyms
count_past t = omega (arith, length-items_from (symbol_at t) 0 t.nsyms, length-items_from (symbol_at (table_in_bounds t)) 0 (table_in_bounds t).nsyms)

-- the symbols of a table, if there is one
pub symbols_begin : (table : Option SymbolTable) → (0 < symbols_beyond table → list_all is_ok (symbols_in table) ≡ true → ⊥)
    → Begins (symbols_in table) (symbols_in (option_map table_in_bounds table)) (symbols_beyond table)
symbols_begin None broken = record { whole = λ none. refl; broken = broken }
symbols_begin (Some t) broken = record { whole = λ none. same_table t (omega (arith, none, count_past t)); broken = broken }
