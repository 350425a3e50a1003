-- The order of symbols.
use Rattle.std.specs.Prelude.{◌≡◌, ℕ, List, [], map, Bool, true, false, Option, Some, None, Result, Ok, Err, if◌then◌else◌}
use Rattle.std.specs.Ordering.{nat_cmp, ordering_then}
use Rattle.std.specs.declared.cmp.Ordering.{Ordering}
use Rattle.std.specs.Cmp.Lexicographic.{slice_cmp}
use Rattle.std.specs.List.Sorted.{IsPermutation, IsSortedByKey, IsStableByKey}
use Rattle.mach_base.specs.Fault.{Fault}
use Rattle.mach_base.specs.Items.{items_from}
use Rattle.mach_parts.specs.Symbols.{SymbolTable, symbol_at, symbols_of}
use Rattle.mach_parts.specs.declared.symbols.nlist.Nlist.{Nlist}
use Rattle.machsyms.specs.Request.{is_elsewhere}
use Rattle.machsyms.specs.declared.selection.SortedBy.{SortedBy}
use Rattle.machsyms.specs.declared.selection.SortedBy.TheVariants.{Name, Address}
use Rattle.machsyms.specs.declared.selection.Sorting.{Sorting}
use Rattle.machsyms.specs.declared.order.SortKey.{SortKey}

-- the rank of a symbol: of two symbols the first difference decides
abbrev pub SymbolRank : Type 0
SymbolRank = ℕ × ℕ × List ℕ × ℕ

abbrev pub symbol_rank_cmp : SymbolRank → SymbolRank → Ordering
symbol_rank_cmp x y =
    ordering_then (ordering_then (ordering_then (nat_cmp x.0 y.0) (nat_cmp x.1 y.1)) (slice_cmp nat_cmp x.2 y.2)) (nat_cmp x.3 y.3)

-- ascending or descending
abbrev pub symbol_rank_order : (is_reversed : Bool) → SymbolRank → SymbolRank → Ordering
symbol_rank_order false x y = symbol_rank_cmp x y
symbol_rank_order true x y = symbol_rank_cmp y x

-- By name and then by value; or the symbols that another image defines first, by value and then by name. One that can't be read
-- comes after all others.
abbrev pub symbol_rank : SortedBy → Result (List ℕ × Nlist) Fault → SymbolRank
symbol_rank Name (Ok found) = (0, 0, found.0, found.1.n_value)
symbol_rank Address (Ok found) = (if is_elsewhere found.1 then 0 else 1, found.1.n_value, found.0, 0)
symbol_rank Name (Err f) = (2, 0, [], 0)
symbol_rank Address (Err f) = (2, 0, [], 0)

-- a symbol of a table by its number, and its rank
pub record SymbolKey : Type 0 where
  pub rank : SymbolRank
  pub index : ℕ

abbrev pub symbol_key_of : SortedBy → ℕ → Result (List ℕ × Nlist) Fault → SymbolKey
symbol_key_of by index answer = record { rank = symbol_rank by answer; index = index }

-- the keys of a table's symbols, in table order
abbrev pub keys_of_table : SortedBy → SymbolTable → List SymbolKey
keys_of_table by t = items_from (λ k. symbol_key_of by k (symbol_at t k)) 0 t.nsyms

-- the rank of a key of the code
abbrev pub rank_view : SortKey → SymbolRank
rank_view k = (k.rank.0, k.rank.1, k.rank.2.now, k.rank.3)

abbrev pub key_view : SortKey → SymbolKey
key_view k = record { rank = rank_view k; index = k.index }

-- The same keys, sorted. Keys with equal ranks keep their order, also in a descending order.
pub record AreSortedKeys (is_reversed : Bool) (given keys : List SortKey) : Type 0 where
  pub each_once : IsPermutation given keys
  pub sorted : IsSortedByKey rank_view (symbol_rank_order is_reversed) keys
  pub stable : IsStableByKey rank_view (symbol_rank_order is_reversed) given keys

-- The keys of a table's symbols, sorted from table order.
pub record AreKeysInOrder (sorting : Sorting) (t : SymbolTable) (keys : List SortKey) : Type 0 where
  pub given : List SortKey
  pub are_keys : map key_view given ≡ keys_of_table sorting.by t
  pub are_sorted : AreSortedKeys sorting.is_reversed given keys

-- the symbols of some keys
abbrev pub symbols_by : List SortKey → SymbolTable → List (Result (List ℕ × Nlist) Fault)
symbols_by keys t = map (λ k. symbol_at t k.index) keys

-- the symbols of a table in table order, or by their keys
abbrev pub gone_over : Option Sorting → List SortKey → SymbolTable → List (Result (List ℕ × Nlist) Fault)
gone_over None keys t = symbols_of t
gone_over (Some sorting) keys t = symbols_by keys t
