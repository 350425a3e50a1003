-- An address has one symbol; offsets and addresses lead back to each other.
use Rattle.std.proofs.Common.{◌≡◌, ℕ, zero, suc, ◌+◌, ◌-◌, ◌<◌, ◌≤◌, ◌^◌, Bool, true, false, cond, ◌&&◌, List, [], ◌∷◌, Option, Some, None, Result, Ok}
use Rattle.std.proofs.Common.{inl, inr, refl, ap, sym, subst, ◌∙◌, arith, slice_get, nat_le, nat_lt}
use Rattle.std.specs.Prelude.{find, option_map}
use Rattle.std.proofs.lemmas.Bool.{cases_lt, leb-true, le-leb, ltb-true}
use Rattle.std.proofs.lemmas.Bool.Decides.{Decides-ltb}
use Rattle.std.proofs.lemmas.Option.{cond_some, none-some, same_Some}
use Rattle.mach_base.specs.Fault.{Fault}
use Rattle.mach_layout.specs.Entry.{is_among}
use Rattle.mach_parts.specs.Segment.{SegmentView}
use Rattle.mach_parts.specs.declared.segment.numbered.NumberedSection.{NumberedSection}
use Rattle.mach_parts.specs.declared.symbols.nlist.Nlist.{Nlist}
use Rattle.goblin_mach.specs.FileOffsets.{address_at_offset, address_by, as_far_after, mapped_size, maps_address, maps_offset}
use Rattle.goblin_mach.specs.FileOffsets.{offset_at_address, offset_by, AtMostOne}
use Rattle.goblin_mach.specs.NearestSymbol.{found_symbol_view, section_number, IsNearest, IsNearestIn, IsSymbolAt}
use Rattle.goblin_mach.specs.declared.macho.nearest.SymbolAt.{SymbolAt}

-- ---- one symbol

-- neither of two nearest symbols has a greater value or a greater number
no_greater : (items : List (Result (List ℕ × Nlist) Fault)) (n a : ℕ) (x y : SymbolAt) → IsNearest items n a x → IsNearest items n a y → x.index ≤ y.index
no_greater items n a x y first second = elim (cases_lt y.index x.index) [
  | inl less ↦ absurd (omega (
    arith,
    second.last x.index x.name.now x.symbol first.symbol less,
    first.greatest y.index y.name.now y.symbol second.symbol,
  ))
  | inr more ↦ more
]

same_found : (items : List (Result (List ℕ × Nlist) Fault)) (n a : ℕ) (x y : SymbolAt) → IsNearest items n a x → IsNearest items n a y
    → found_symbol_view x ≡ found_symbol_view y
same_found items n a x y first second =
    let index : x.index ≡ y.index = omega (arith, no_greater items n a x y first second, no_greater items n a y x second first) in
    let item : ◌≡◌ {A = Option (Result (List ℕ × Nlist) Fault)} (Some (Ok (x.name.now, x.symbol))) (Some (Ok (y.name.now, y.symbol))) =
    sym first.symbol.item ∙ (ap (slice_get items) index ∙ second.symbol.item) in
    let both : ◌≡◌ {A = List ℕ × Nlist} (x.name.now, x.symbol) (y.name.now, y.symbol) = cc (item) in
    let name : x.name.now ≡ y.name.now = ap (λ (p : List ℕ × Nlist). p.0) both in
    let symbol : x.symbol ≡ y.symbol = ap (λ (p : List ℕ × Nlist). p.1) both in
    let value : x.symbol.n_value ≡ y.symbol.n_value = ap (λ (s : Nlist). s.n_value) symbol in
    let distance : x.distance ≡ y.distance = omega (arith, first.distance, second.distance, value) in
    cc (index, name, symbol, distance)

same_nearest : (items : List (Result (List ℕ × Nlist) Fault)) (n a : ℕ) (x y : Option SymbolAt) → IsNearestIn items n a x → IsNearestIn items n a y
    → option_map found_symbol_view x ≡ option_map found_symbol_view y
same_nearest items n a None None first second = refl
same_nearest items n a None (Some y) first second = absurd (first y.index y.name.now y.symbol second.symbol)
same_nearest items n a (Some x) None first second = absurd (second x.index x.name.now x.symbol first.symbol)
same_nearest items n a (Some x) (Some y) first second = ap (λ (found : ℕ × List ℕ × Nlist × ℕ). Some found) (same_found items n a x y first second)

pub one_symbol : (ss : List SegmentView) (items : List (Result (List ℕ × Nlist) Fault)) (held : Option NumberedSection) (a : ℕ) (x y : Option SymbolAt)
    → IsSymbolAt ss items held a x → IsSymbolAt ss items held a y → option_map found_symbol_view x ≡ option_map found_symbol_view y
one_symbol ss items None a x y first second = ap (option_map found_symbol_view) (first ∙ sym second)
one_symbol ss items (Some h) a x y first second = same_nearest items (section_number ss h) a x y first second

-- ---- the first that passes a test

module _ {X : Type 0} (test : X → Bool) where
  -- what was found is one of them, and passes
  abbrev IsThere : List X → X → Type 0
  IsThere xs x = (i : ℕ) × (slice_get xs i ≡ Some x) × (test x ≡ true)

  there_by : (b : Bool) (y : X) (ys : List X) (x : X) → test y ≡ b → (find test ys ≡ Some x → IsThere ys x) → cond b (Some y) (find test ys) ≡ Some x
      → IsThere (y ∷ ys) x
  there_by true y ys x passes later e = (0, e, subst (λ (z : X). test z ≡ true) (same_Some y x e) passes)
  there_by false y ys x passes later e = let t = later e in (suc t.0, t.1, t.2)

  find_there : (xs : List X) (x : X) → find test xs ≡ Some x → IsThere xs x
  find_there [] x e = absurd (none-some x e)
  find_there (y ∷ ys) x e = there_by (test y) y ys x refl (find_there ys x) e

  one_by : (b : Bool) (y : X) (ys : List X) (i : ℕ) (x : X) → test y ≡ b → slice_get ys i ≡ Some x → test x ≡ true → AtMostOne test (y ∷ ys)
      → (AtMostOne test ys → find test ys ≡ Some x) → cond b (Some y) (find test ys) ≡ Some x
  one_by true y ys i x passes at right one later = absurd (omega (arith, one 0 (suc i) y x refl at passes right))
  one_by false y ys i x passes at right one later = later (λ j k u v at_j at_k pass_u pass_v.
      omega (arith, one (suc j) (suc k) u v at_j at_k pass_u pass_v))

  -- the one that passes is found
  find_one : (xs : List X) (i : ℕ) (x : X) → slice_get xs i ≡ Some x → test x ≡ true → AtMostOne test xs → find test xs ≡ Some x
  find_one [] i x at right one = absurd (none-some x at)
  find_one (y ∷ ys) zero x at right one =
      let same : y ≡ x = same_Some y x at in
      ap (λ (b : Bool). cond b (Some y) (find test ys)) (ap test same ∙ right) ∙ at
  find_one (y ∷ ys) (suc i) x at right one = one_by (test y) y ys i x refl at right one (find_one ys i x at right)

-- ---- offsets and addresses

both : (b c : Bool) → (b && c) ≡ true → (b ≡ true) × (c ≡ true)
both true c e = (refl, e)
both false c e = absurd (cc (e))

join : (b c : Bool) → b ≡ true → c ≡ true → (b && c) ≡ true
join b c e f = ap (λ (x : Bool). x && c) e ∙ f

among_parts : (first count n : ℕ) → is_among first count n ≡ true → (first ≤ n) × (n < first + count)
among_parts first count n e =
    let parts = both (nat_le first n) (nat_lt n (first + count)) e in
    (leb-true first n parts.0, ltb-true n (first + count) parts.1)

among_of : (first count n : ℕ) → first ≤ n → n < first + count → is_among first count n ≡ true
among_of first count n low high = join (nat_le first n) (nat_lt n (first + count)) (le-leb first n low) ((Decides-ltb n (first + count)).1 high)

-- the same distance from another place, and back
far_after : (from to n m : ℕ) → as_far_after from to n ≡ Some m → to + (n - from) ≡ m
far_after from to n m e = (cond_some (nat_lt (to + (n - from)) (2 ^ 64)) (to + (n - from)) m e).1

back_after : (from to n m : ℕ) → from ≤ n → n < 2 ^ 64 → to + (n - from) ≡ m → as_far_after to from m ≡ Some n
back_after from to n m low small is =
    let same : from + (m - to) ≡ n = omega (arith, low, is) in
    let fits : nat_lt (from + (m - to)) (2 ^ 64) ≡ true = (Decides-ltb (from + (m - to)) (2 ^ 64)).1 (omega (arith, same, small)) in
    ap (λ (b : Bool). cond b (Some (from + (m - to))) None) fits ∙ ap (λ (k : ℕ). Some k) same

address_of : (offset address : ℕ) (o : Option SegmentView) → address_by offset o ≡ Some address
    → (s : SegmentView) × (o ≡ Some s) × (as_far_after s.command.fileoff s.command.vmaddr offset ≡ Some address)
address_of offset address None e = absurd (none-some address e)
address_of offset address (Some s) e = (s, refl, e)

offset_of : (offset address : ℕ) (o : Option SegmentView) → offset_by address o ≡ Some offset
    → (s : SegmentView) × (o ≡ Some s) × (as_far_after s.command.vmaddr s.command.fileoff address ≡ Some offset)
offset_of offset address None e = absurd (none-some offset e)
offset_of offset address (Some s) e = (s, refl, e)

pub address_back : (ss : List SegmentView) (offset address : ℕ) → offset < 2 ^ 64 → address_at_offset ss offset ≡ Some address
    → AtMostOne (maps_address address) ss → offset_at_address ss address ≡ Some offset
address_back ss offset address small e one =
    let by = address_of offset address (find (maps_offset offset) ss) e in
    let s : SegmentView = by.0 in
    let at = find_there (maps_offset offset) ss s by.1 in
    let inside = among_parts s.command.fileoff (mapped_size s) offset at.2 in
    let is = far_after s.command.fileoff s.command.vmaddr offset address by.2 in
    let maps : maps_address address s ≡ true =
    among_of s.command.vmaddr (mapped_size s) address (omega (arith, is)) (omega (arith, is, inside.0, inside.1)) in
    ap (offset_by address) (find_one (maps_address address) ss at.0 s at.1 maps one)
    ∙ back_after s.command.fileoff s.command.vmaddr offset address inside.0 small is

pub offset_back : (ss : List SegmentView) (offset address : ℕ) → address < 2 ^ 64 → offset_at_address ss address ≡ Some offset
    → AtMostOne (maps_offset offset) ss → address_at_offset ss offset ≡ Some address
offset_back ss offset address small e one =
    let by = offset_of offset address (find (maps_address address) ss) e in
    let s : SegmentView = by.0 in
    let at = find_there (maps_address address) ss s by.1 in
    let inside = among_parts s.command.vmaddr (mapped_size s) address at.2 in
    let is = far_after s.command.vmaddr s.command.fileoff address offset by.2 in
    let maps : maps_offset offset s ≡ true =
    among_of s.command.fileoff (mapped_size s) offset (omega (arith, is)) (omega (arith, is, inside.0, inside.1)) in
    ap (address_by offset) (find_one (maps_offset offset) ss at.0 s at.1 maps one)
    ∙ back_after s.command.vmaddr s.command.fileoff address offset inside.0 small is
