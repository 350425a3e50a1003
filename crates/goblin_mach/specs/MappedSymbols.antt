-- The symbols of a table that are defined in sections, sorted for look-ups by address (`mach-o/nlist.h`, n_type, n_sect and n_value).
use Rattle.std.specs.Prelude.{◌≡◌, ◌==◌, ℕ, ◌+◌, ◌≤◌, ◌<◌, ◌&&◌, ◌||◌, not, Bool, true, false, List, [], ◌++◌, ◌∷◌, length, Option, Some, None, Result, Ok, Err}
use Rattle.std.specs.Prelude.{if◌then◌else◌, count_by, nat_le, nat_lt, option_and_then, slice_get, slice_index_or}
use Rattle.std.specs.List.{All, list_any}
use Rattle.std.specs.Option.{option_to_list}
use Rattle.mach_base.specs.Fault.{Fault}
use Rattle.mach_parts.specs.Symbols.{is_stab, type_of}
use Rattle.mach_parts.specs.declared.symbols.nlist.Nlist.{Nlist}
use Rattle.goblin_mach.specs.declared.symbol_map.MappedSymbol.{MappedSymbol}

-- whether a symbol is defined in a section (N_SECT), and is no debugging entry
abbrev pub is_defined : Nlist → Bool
is_defined s = type_of s.n_type == 0x0e && not (is_stab s)

-- whether an item is such a symbol; one that can't be read is none
abbrev pub is_defined_symbol : Result (List ℕ × Nlist) Fault → Bool
is_defined_symbol (Ok found) = is_defined found.1
is_defined_symbol (Err f) = false

-- item k as a map holds it, if it is such a symbol
abbrev pub mapped_symbol : ℕ → Result (List ℕ × Nlist) Fault → Option MappedSymbol
mapped_symbol k (Ok found) = if is_defined found.1 then Some (record { section = found.1.n_sect; value = found.1.n_value; index = k }) else None
mapped_symbol k (Err f) = None

abbrev pub mapped_at : List (Result (List ℕ × Nlist) Fault) → ℕ → Option MappedSymbol
mapped_at items k = option_and_then (mapped_symbol k) (slice_get items k)

-- all of them in table order, of items of which the first has number k
abbrev pub mapped_from : ℕ → List (Result (List ℕ × Nlist) Fault) → List MappedSymbol
mapped_from k [] = []
mapped_from k (item ∷ items) = option_to_list (mapped_symbol k item) ++ mapped_from (k + 1) items

-- one is at or before another: by its section, then by its value, then by its number in the table
abbrev pub IsNoLater : MappedSymbol → MappedSymbol → Type 0
IsNoLater x y =
    (x.section ≤ y.section) × (x.section ≡ y.section → x.value ≤ y.value) × (x.section ≡ y.section → x.value ≡ y.value → x.index ≤ y.index)

-- they are sorted so
abbrev pub AreSortedSymbols : List MappedSymbol → Type 0
AreSortedSymbols found = (i j : ℕ) (d : MappedSymbol) → i ≤ j → j < length found → IsNoLater (slice_index_or found i d) (slice_index_or found j d)

-- The symbols of a map: each one is what its item says, every item that is such a symbol is among them, and they are sorted.
pub record AreMapped (items : List (Result (List ℕ × Nlist) Fault)) (found : List MappedSymbol) : Type 0 where
  pub each : All (λ m. mapped_at items m.index ≡ Some m) found
  pub whole : (k : ℕ) (m : MappedSymbol) → mapped_at items k ≡ Some m → list_any (λ x. x.index == k) found ≡ true
  pub many : length found ≡ count_by is_defined_symbol items
  pub in_order : AreSortedSymbols found

-- whether a symbol is one of an earlier section, or one of this section at or below an address
abbrev pub is_up_to : (section address : ℕ) → MappedSymbol → Bool
is_up_to section address m = nat_lt m.section section || m.section == section && nat_le m.value address

-- The last of some sorted symbols up to an address of a section, if there is one.
abbrev pub IsLastUpTo : List MappedSymbol → (section address : ℕ) → Option MappedSymbol → Type 0
IsLastUpTo found section address None = All (λ m. is_up_to section address m ≡ false) found
IsLastUpTo found section address (Some last) =
    ((k : ℕ) × (slice_get found k ≡ Some last)) × (is_up_to section address last ≡ true)
    × All (λ m. is_up_to section address m ≡ true → IsNoLater m last) found
