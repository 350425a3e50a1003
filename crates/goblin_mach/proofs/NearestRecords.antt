-- The nearest symbol by the records of a table: names are read only of symbols that may be the answer.
use Rattle.std.proofs.Common.{◌≡◌, ℕ, zero, suc, ◌+◌, ◌-◌, Bool, true, false, List, [], ◌∷◌, ◌++◌, Option, Some, None, Result, Ok, Err}
use Rattle.std.proofs.Common.{refl, ap, sym, subst, ◌∙◌, arith}
use Rattle.mach_base.specs.Answer.{◌>>=◌}
use Rattle.mach_base.specs.Fault.{Fault}
use Rattle.mach_base.specs.Items.{items_from}
use Rattle.mach_base.specs.Number.{place_after}
use Rattle.mach_base.proofs.Binds.{bind_ok}
use Rattle.mach_base.proofs.ItemLists.{length-items_from, slice_get-items}
use Rattle.mach_parts.specs.Symbols.{SymbolTable, symbol_at, symbol_record_at, symbols_of}
use Rattle.mach_parts.specs.declared.symbols.nlist.Nlist.{Nlist}
use Rattle.goblin_mach.specs.NearestSymbol.{is_below, is_nearer, name_if, symbol_if, symbols_if, IsBelow, IsNearest, IsNearestIn}
use Rattle.goblin_mach.specs.declared.macho.nearest.SymbolAt.{SymbolAt}
use Rattle.goblin_mach.proofs.FatNumbers.{item-only}
use Rattle.goblin_mach.proofs.NearestItems.{nearest-err, nearest-farther, nearest-nearer, nearest-other, IsOf}

-- ---- a symbol by its record

-- a symbol with a record is its name, and that
abbrev of_record : Bool → SymbolTable → Nlist → Result (List ℕ × Nlist) Fault
of_record b t s = name_if b t.bytes (place_after t.strtab s.n_strx) >>= (λ name. Ok (name, s))

is_of_record : (b : Bool) (t : SymbolTable) (k : ℕ) (r : Result Nlist Fault) → symbol_record_at t k ≡ r → symbol_if b t k ≡ (r >>= of_record b t)
is_of_record b t k r e = ap (λ (x : Result Nlist Fault). x >>= of_record b t) e

same_pair : (x y : List ℕ × Nlist) → ◌≡◌ {A = Result (List ℕ × Nlist) Fault} (Ok x) (Ok y) → x ≡ y
same_pair x y e = cc (e)

-- the name that was read at a symbol's place in some bytes is its name, if these are the bytes of the table
pub name_of : (b : Bool) (t : SymbolTable) (s : Nlist) (bytes : List ℕ) (place : ℕ) (r : Result (List ℕ) Fault) → bytes ≡ t.bytes
    → place ≡ place_after t.strtab s.n_strx → name_if b bytes place ≡ r → name_if b t.bytes (place_after t.strtab s.n_strx) ≡ r
name_of b t s bytes place r same at read =
    sym (ap (λ (x : List ℕ). name_if b x (place_after t.strtab s.n_strx)) same) ∙ (sym (ap (λ (k : ℕ). name_if b bytes k) at) ∙ read)

-- without a record or without a name there is no symbol
pub no_record : (b : Bool) (t : SymbolTable) (k : ℕ) (f : Fault) → symbol_record_at t k ≡ Err f → symbol_if b t k ≡ Err f
no_record b t k f e = is_of_record b t k (Err f) e

pub no_name : (b : Bool) (t : SymbolTable) (k : ℕ) (s : Nlist) (f : Fault) → symbol_record_at t k ≡ Ok s
    → name_if b t.bytes (place_after t.strtab s.n_strx) ≡ Err f → symbol_if b t k ≡ Err f
no_name b t k s f e none =
    is_of_record b t k (Ok s) e ∙ ap (λ (x : Result (List ℕ) Fault). x >>= (λ name. Ok (name, s))) none

pub with_name : (b : Bool) (t : SymbolTable) (k : ℕ) (s : Nlist) (name : List ℕ) → symbol_record_at t k ≡ Ok s
    → name_if b t.bytes (place_after t.strtab s.n_strx) ≡ Ok name → symbol_if b t k ≡ Ok (name, s)
with_name b t k s name e is =
    is_of_record b t k (Ok s) e ∙ ap (λ (x : Result (List ℕ) Fault). x >>= (λ n. Ok (n, s))) is

-- a symbol that can be read has its record
pub record_if : (b : Bool) (t : SymbolTable) (k : ℕ) (name : List ℕ) (s : Nlist) → symbol_if b t k ≡ Ok (name, s) → symbol_record_at t k ≡ Ok s
record_if b t k name s e =
    let first = bind_ok (symbol_record_at t k) (of_record b t) (name, s) e in
    let second = bind_ok (name_if b t.bytes (place_after t.strtab first.0.n_strx)) (λ n. Ok (n, first.0)) (name, s) first.2 in
    first.1 ∙ ap (λ (p : List ℕ × Nlist). Ok p.1) (same_pair (second.0, first.0) (name, s) second.2)

pub has_record : (t : SymbolTable) (k : ℕ) (name : List ℕ) (s : Nlist) → symbol_at t k ≡ Ok (name, s) → symbol_record_at t k ≡ Ok s
unfolding symbol_at
has_record t k name s e = record_if true t k name s e

same_record : (r : Result Nlist Fault) (s u : Nlist) → r ≡ Ok s → r ≡ Ok u → u ≡ s
same_record r s u e f = cc (e, f)

pub one_record : (n a : ℕ) (b : Bool) (t : SymbolTable) (k : ℕ) (s : Nlist) → symbol_record_at t k ≡ Ok s → IsOf n a (symbol_if b t k) s
one_record n a b t k s e = λ name u is. same_record (symbol_record_at t k) s u e (record_if b t k name u is)

-- ---- one more symbol

items_more : {A : Type 0} (item : ℕ → A) (first count : ℕ) → items_from item first (count + 1) ≡ items_from item first count ++ item (first + count) ∷ []
items_more item first zero = ap (λ (k : ℕ). item k ∷ []) (omega arith)
items_more item first (suc count) =
    let same : suc count + 1 ≡ suc (count + 1) = omega arith in
    let at : (first + 1) + count ≡ first + suc count = omega arith in
    let later = items_more item (first + 1) count ∙ ap (λ (k : ℕ). items_from item (first + 1) count ++ item k ∷ []) at in
    rw same (ap (λ (xs : List _). item first ∷ xs) later)

-- the nearest of the first k symbols
abbrev pub IsSoFar : Bool → SymbolTable → (n a k : ℕ) → Option SymbolAt → Type 0
IsSoFar b t n a k best = IsNearestIn (items_from (symbol_if b t) 0 k) n a best

module _ (b : Bool) (t : SymbolTable) (n a k : ℕ) (best : Option SymbolAt) where
  one_more : (found : Option SymbolAt) (item : Result (List ℕ × Nlist) Fault) → symbol_if b t k ≡ item
      → IsNearestIn (items_from (symbol_if b t) 0 k ++ item ∷ []) n a found → IsSoFar b t n a (k + 1) found
  one_more found item is nearest =
      let at : 0 + k ≡ k = omega arith in
      let more : items_from (symbol_if b t) 0 (k + 1) ≡ items_from (symbol_if b t) 0 k ++ item ∷ [] =
      items_more (symbol_if b t) 0 k ∙ ap (λ (x : Result (List ℕ × Nlist) Fault). items_from (symbol_if b t) 0 k ++ x ∷ [])
      (ap (symbol_if b t) at ∙ is) in
      subst (λ (items : List (Result (List ℕ × Nlist) Fault)). IsNearestIn items n a found) (sym more) nearest

  -- it can't be read; it is none of them; it is farther; it is no farther
  pub so_far-err : (f : Fault) → IsSoFar b t n a k best → symbol_if b t k ≡ Err f → IsSoFar b t n a (k + 1) best
  so_far-err f so_far is = one_more best (Err f) is (nearest-err n a (items_from (symbol_if b t) 0 k) best (Err f) f so_far refl)

  pub so_far-other : (s : Nlist) → IsSoFar b t n a k best → symbol_record_at t k ≡ Ok s → is_below n a s ≡ false → IsSoFar b t n a (k + 1) best
  so_far-other s so_far is other =
      one_more best (symbol_if b t k) refl (nearest-other n a (items_from (symbol_if b t) 0 k) best (symbol_if b t k) s so_far
      (one_record n a b t k s is) other)

  pub so_far-farther : (s : Nlist) (d : ℕ) → IsSoFar b t n a k best → symbol_record_at t k ≡ Ok s → d ≡ a - s.n_value → is_nearer best d ≡ true
      → IsSoFar b t n a (k + 1) best
  so_far-farther s d so_far is distance nearer =
      one_more best (symbol_if b t k) refl
      (nearest-farther n a (items_from (symbol_if b t) 0 k) best (symbol_if b t k) s d so_far (one_record n a b t k s is) distance nearer)

  pub so_far-nearer : (x : SymbolAt) → IsSoFar b t n a k best → symbol_if b t k ≡ Ok (x.name.now, x.symbol) → is_below n a x.symbol ≡ true → x.index ≡ k
      → x.distance ≡ a - x.symbol.n_value → is_nearer best x.distance ≡ false → IsSoFar b t n a (k + 1) (Some x)
  so_far-nearer x so_far is below index distance nearer =
      one_more (Some x) (Ok (x.name.now, x.symbol)) is
      (nearest-nearer n a (items_from (symbol_if b t) 0 k) best x so_far below (index ∙ sym (length-items_from (symbol_if b t) 0 k)) distance nearer)

-- ---- the nearest by records, and by symbols

-- all symbols with their names are those of the table
pub symbols_named : (t : SymbolTable) → symbols_if true t ≡ symbols_of t
unfolding symbol_at
symbols_named t = refl

module _ (t : SymbolTable) (n a : ℕ) where
  below_by_record : (k : ℕ) (name : List ℕ) (s : Nlist) → IsBelow (symbols_of t) n a k name s → IsBelow (symbols_if false t) n a k [] s
  below_by_record k name s b =
      let at = item-only (symbol_at t) t.nsyms k (Ok (name, s)) b.item in
      let read : symbol_if false t k ≡ Ok ([], s) = with_name false t k s [] (has_record t k name s at.1) refl in
      record { item = slice_get-items (symbol_if false t) t.nsyms k at.0 ∙ ap (λ (x : Result (List ℕ × Nlist) Fault). Some x) read; below = b.below }

  pub nearest_none : IsNearestIn (symbols_if false t) n a None → IsNearestIn (symbols_of t) n a None
  nearest_none none = λ k name s b. none k [] s (below_by_record k name s b)

  -- the nearest record is that of the nearest symbol, if its name can be read
  pub nearest_named : (x y : SymbolAt) (s : Nlist) → IsNearest (symbols_if false t) n a x → symbol_at t x.index ≡ Ok (y.name.now, s) → y.index ≡ x.index
      → y.symbol ≡ x.symbol → y.distance ≡ x.distance → IsNearest (symbols_of t) n a y
  nearest_named x y s is read index symbol distance =
      let at = item-only (symbol_if false t) t.nsyms x.index (Ok (x.name.now, x.symbol)) is.symbol.item in
      let same : s ≡ y.symbol =
      same_record (symbol_record_at t x.index) x.symbol s (record_if false t x.index x.name.now x.symbol at.1) (has_record t x.index y.name.now s read)
      ∙ sym symbol in
      let item : symbol_at t x.index ≡ Ok (y.name.now, y.symbol) = read ∙ ap (λ (u : Nlist). Ok (y.name.now, u)) same in
      record {
        symbol = record {
          item = rw index (slice_get-items (symbol_at t) t.nsyms x.index at.0 ∙ ap (λ (z : Result (List ℕ × Nlist) Fault). Some z) item);
          below = rw symbol is.symbol.below;
        };
        greatest = λ k name u b. rw symbol (is.greatest k [] u (below_by_record k name u b));
        last = λ k name u b after. rw symbol (is.last k [] u (below_by_record k name u b) (rw index at after));
        distance = rw (symbol, distance) is.distance;
      }
