-- The symbol and the function at an address (`mach-o/nlist.h`, n_type, n_sect and n_value; `mach-o/loader.h`, LC_FUNCTION_STARTS).
use Rattle.std.specs.Prelude.{◌≡◌, ◌==◌, ◌⊎◌, ℕ, ◌+◌, ◌-◌, ◌<◌, ◌≤◌, ◌^◌, ◌&&◌, not, min, Bool, true, false, List, take, sum_by, Option, Some, None, Result, Ok}
use Rattle.std.specs.Prelude.{[], if◌then◌else◌, slice_get, nat_le, nat_lt}
use Rattle.mach_base.specs.Answer.{◌>>=◌}
use Rattle.mach_base.specs.Fault.{Fault}
use Rattle.mach_base.specs.Items.{items_from}
use Rattle.mach_base.specs.Number.{place_after}
use Rattle.mach_base.specs.Text.{text_at}
use Rattle.mach_parts.specs.Segment.{SegmentView}
use Rattle.mach_parts.specs.Symbols.{SymbolTable, is_stab, symbol_record_at, type_of}
use Rattle.mach_parts.specs.declared.segment.numbered.NumberedSection.{NumberedSection}
use Rattle.mach_records.specs.declared.segments.Section64.{Section64}
use Rattle.mach_parts.specs.declared.symbols.nlist.Nlist.{Nlist}
use Rattle.goblin_mach.specs.declared.macho.nearest.Function.{Function}
use Rattle.goblin_mach.specs.declared.macho.nearest.SymbolAt.{SymbolAt}

-- ---- symbols

-- the number by which symbols name a section (n_sect): counted from 1 over all segments, at most 2^64 - 1
abbrev pub section_number : List SegmentView → NumberedSection → ℕ
section_number ss h = min (h.number + 1 + sum_by (λ s. s.command.nsects) (take h.segment ss)) (2 ^ 64 - 1)

-- whether a symbol is defined in the section with number n (N_SECT), is no debugging entry, and lies at or below an address
abbrev pub is_below : (n a : ℕ) → Nlist → Bool
is_below n a s = type_of s.n_type == 0x0e && not (is_stab s) && s.n_sect == n && nat_le s.n_value a

-- whether a symbol was found that is nearer to its address than a distance
abbrev pub is_nearer : Option SymbolAt → ℕ → Bool
is_nearer None distance = false
is_nearer (Some x) distance = nat_lt x.distance distance

-- symbol k can be read, and is such a one
pub record IsBelow (items : List (Result (List ℕ × Nlist) Fault)) (n a k : ℕ) (name : List ℕ) (s : Nlist) : Type 0 where
  pub item : slice_get items k ≡ Some (Ok (name, s))
  pub below : is_below n a s ≡ true

-- It is the nearest of them: none has a greater value, and none after it has the same value.
pub record IsNearest (items : List (Result (List ℕ × Nlist) Fault)) (n a : ℕ) (x : SymbolAt) : Type 0 where
  pub symbol : IsBelow items n a x.index x.name.now x.symbol
  pub greatest : (k : ℕ) (name : List ℕ) (s : Nlist) → IsBelow items n a k name s → s.n_value ≤ x.symbol.n_value
  pub last : (k : ℕ) (name : List ℕ) (s : Nlist) → IsBelow items n a k name s → x.index < k → s.n_value < x.symbol.n_value
  pub distance : x.symbol.n_value + x.distance ≡ a

-- the nearest of the section with number n; none if none of its symbols is at or below the address
abbrev pub IsNearestIn : List (Result (List ℕ × Nlist) Fault) → (n a : ℕ) → Option SymbolAt → Type 0
IsNearestIn items n a None = (k : ℕ) (name : List ℕ) (s : Nlist) → IsBelow items n a k name s → ⊥
IsNearestIn items n a (Some x) = IsNearest items n a x

-- the nearest of the section that holds the address; none if no section holds it
abbrev pub IsSymbolAt : List SegmentView → List (Result (List ℕ × Nlist) Fault) → Option NumberedSection → ℕ → Option SymbolAt → Type 0
IsSymbolAt ss items None a found = found ≡ None
IsSymbolAt ss items (Some h) a found = IsNearestIn items (section_number ss h) a found

-- a name as a search reads it: the text at its place, or none of it
abbrev pub name_if : Bool → List ℕ → ℕ → Result (List ℕ) Fault
name_if is_named bytes place = if is_named then text_at bytes place else Ok []

-- symbol k as a search reads it: its record, with its name or an empty one
abbrev pub symbol_if : Bool → SymbolTable → ℕ → Result (List ℕ × Nlist) Fault
symbol_if is_named t k = do
  symbol ← symbol_record_at t k
  name ← name_if is_named t.bytes (place_after t.strtab symbol.n_strx)
  Ok (name, symbol)

abbrev pub symbols_if : Bool → SymbolTable → List (Result (List ℕ × Nlist) Fault)
symbols_if is_named t = items_from (symbol_if is_named t) 0 t.nsyms

-- what a symbol that was found says: its number, its name, its record, and how far the address is above its value
abbrev pub found_symbol_view : SymbolAt → ℕ × List ℕ × Nlist × ℕ
found_symbol_view x = (x.index, x.name.now, x.symbol, x.distance)

-- ---- functions

-- a function begins at an address, by these items
abbrev pub IsStart : List (Result ℕ Fault) → ℕ → Type 0
IsStart items start = (k : ℕ) × (slice_get items k ≡ Some (Ok start))

-- each start is greater than those before it
abbrev pub IsAscending : List (Result ℕ Fault) → Type 0
IsAscending items = (j k a b : ℕ) → slice_get items j ≡ Some (Ok a) → slice_get items k ≡ Some (Ok b) → j < k → a < b

-- the greatest start at or below an address; none if no function begins there
abbrev pub IsStartBelow : List (Result ℕ Fault) → ℕ → Option ℕ → Type 0
IsStartBelow items a None = (start : ℕ) → IsStart items start → start ≤ a → ⊥
IsStartBelow items a (Some begin) = IsStart items begin × (begin ≤ a) × ((start : ℕ) → IsStart items start → start ≤ a → start ≤ begin)

-- the least start after an address; none if no function begins there
abbrev pub IsStartAfter : List (Result ℕ Fault) → ℕ → Option ℕ → Type 0
IsStartAfter items a None = (start : ℕ) → IsStart items start → a < start → ⊥
IsStartAfter items a (Some end) = IsStart items end × (a < end) × ((start : ℕ) → IsStart items start → a < start → end ≤ start)

-- The starts on both sides of an address: the greatest at or below it, and the least after it, or a limit if that is before.
pub record IsAround (items : List (Result ℕ Fault)) (a limit : ℕ) (begin : Option ℕ) (end : ℕ) : Type 0 where
  pub below : IsStartBelow items a begin
  pub ends : (end ≡ limit) ⊎ ((a < end) × IsStart items end)
  pub within : end ≤ limit
  pub next : (start : ℕ) → IsStart items start → a < start → end ≤ start

-- The function of a section: it begins at the last start at or below an address, which lies in the section. It ends at the next
-- start, or at the end of the section if that is before, at most at 2^64 - 1.
pub record IsFunction (items : List (Result ℕ Fault)) (h : Section64) (a : ℕ) (f : Function) : Type 0 where
  pub inside : h.addr ≤ f.start
  pub around : IsAround items a (place_after h.addr h.size) (Some f.start) f.end

-- none if no function begins in the section at or below the address
abbrev pub IsFunctionIn : List (Result ℕ Fault) → Section64 → ℕ → Option Function → Type 0
IsFunctionIn items h a None = (start : ℕ) → IsStart items start → h.addr ≤ start → start ≤ a → ⊥
IsFunctionIn items h a (Some f) = IsFunction items h a f

-- the function of the section that holds the address; none if no section holds it
abbrev pub IsFunctionAt : List (Result ℕ Fault) → Option NumberedSection → ℕ → Option Function → Type 0
IsFunctionAt items None a found = found ≡ None
IsFunctionAt items (Some h) a found = IsFunctionIn items h.section a found
