-- The nearest symbol of a section is one, and it is that of `nearest_of`.
use Rattle.std.proofs.Common.{◌≡◌, ◌∙◌, ℕ, zero, suc, ◌-◌, ◌<◌, ◌≤◌, Bool, cond, true, false, List, [], ◌∷◌, Option, Some, None, Result, Ok, Err}
use Rattle.std.proofs.Common.{refl, ap, sym, subst, arith, nat_le, not, ◌&&◌}
use Rattle.std.specs.Prelude.{◌==◌, option_map}
use Rattle.std.proofs.lemmas.Bool.{and_parts, leb-true, leb-false}
use Rattle.std.proofs.lemmas.Option.{same_Some}
use Rattle.mach_base.specs.Fault.{Fault}
use Rattle.mach_parts.specs.Segment.{SegmentView}
use Rattle.mach_parts.specs.Symbols.{is_stab, type_of}
use Rattle.mach_parts.specs.declared.segment.numbered.NumberedSection.{NumberedSection}
use Rattle.mach_parts.specs.declared.symbols.nlist.Nlist.{Nlist}
use Rattle.goblin_mach.specs.NearestSymbol.{found_symbol_view, is_below, section_number, IsBelow, IsNearest, IsNearestIn, IsSymbolAt}
use Rattle.goblin_mach.specs.declared.macho.nearest.SymbolAt.{SymbolAt}
use Rattle.goblin_mach.proofs.LookUpLaws.{one_symbol}
use Rattle.goblin_mach.specs.SymbolAtAddress.{SymbolBelow, nearer_of, nearest_in_section, nearest_of, symbol_below}

abbrev Items : Type 0
Items = List (Result (List ℕ × Nlist) Fault)

-- ---- a symbol in the table of one more before it

abbrev moved : SymbolAt → SymbolAt
moved x = record { index = suc x.index; name = x.name; symbol = x.symbol; distance = x.distance }

nearer_same : (x : Option SymbolAt) → nearer_of None (option_map symbol_below x) ≡ option_map symbol_below (option_map moved x)
nearer_same None = refl
nearer_same (Some x) = refl

module _ (n a : ℕ) where
  -- a symbol that is no farther from the address comes after it
  abbrev IsPassed : Option SymbolAt → Nlist → Type 0
  IsPassed None s = ⊥
  IsPassed (Some x) s = s.n_value ≤ x.symbol.n_value

  -- each symbol after it is farther from the address
  abbrev IsAhead : Option SymbolAt → Nlist → Type 0
  IsAhead None s = Unit {0}
  IsAhead (Some x) s = x.symbol.n_value < s.n_value

  abbrev Passes : Result (List ℕ × Nlist) Fault → Option SymbolAt → Type 0
  Passes item x = (name : List ℕ) (s : Nlist) → item ≡ Ok (name, s) → is_below n a s ≡ true → IsPassed x s

  none_passed : (items : Items) (item : Result (List ℕ × Nlist) Fault) → IsNearestIn items n a None → Passes item None
      → IsNearestIn (item ∷ items) n a None
  none_passed items item none passed zero name s b = passed name s (same_Some item (Ok (name, s)) b.item) b.below
  none_passed items item none passed (suc k) name s b = none k name s (record { item = b.item; below = b.below })

  module _ (items : Items) (item : Result (List ℕ × Nlist) Fault) (x : SymbolAt) (is : IsNearest items n a x) (passed : Passes item (Some x)) where
    greatest : (k : ℕ) (name : List ℕ) (s : Nlist) → IsBelow (item ∷ items) n a k name s → s.n_value ≤ x.symbol.n_value
    greatest zero name s b = passed name s (same_Some item (Ok (name, s)) b.item) b.below
    greatest (suc k) name s b = is.greatest k name s (record { item = b.item; below = b.below })

    last : (k : ℕ) (name : List ℕ) (s : Nlist) → IsBelow (item ∷ items) n a k name s → suc x.index < k → s.n_value < x.symbol.n_value
    last zero name s b after = absurd (omega (arith, after))
    last (suc k) name s b after = is.last k name s (record { item = b.item; below = b.below }) (omega (arith, after))

    one_passed : IsNearest (item ∷ items) n a (moved x)
    one_passed = record {
      symbol = record { item = is.symbol.item; below = is.symbol.below };
      greatest = greatest;
      last = last;
      distance = is.distance;
    }

  passed_by : (items : Items) (item : Result (List ℕ × Nlist) Fault) (x : Option SymbolAt) → IsNearestIn items n a x → Passes item x
      → IsNearestIn (item ∷ items) n a (option_map moved x)
  passed_by items item None none passed = none_passed items item none passed
  passed_by items item (Some x) is passed = one_passed items item x is passed

  below_address : (s : Nlist) → is_below n a s ≡ true → s.n_value ≤ a
  below_address s e =
      leb-true s.n_value a (and_parts (type_of s.n_type == 0x0e && not (is_stab s) && s.n_sect == n) (nat_le s.n_value a) e).1

  -- ---- the symbol before others

  module _ (items : Items) (found : List ℕ × Nlist) where
    abbrev here : SymbolAt
    here = record { index = 0; name = record { ref_ptr = (0, 0); now = found.0 }; symbol = found.1; distance = a - found.1.n_value }

    same_value : (name : List ℕ) (s : Nlist) → ◌≡◌ {A = Result (List ℕ × Nlist) Fault} (Ok found) (Ok (name, s)) → found.1.n_value ≡ s.n_value
    same_value name s e = let same : ◌≡◌ {A = List ℕ × Nlist} found (name, s) = cc (e) in ap (λ (p : List ℕ × Nlist). p.1.n_value) same

    farther : (x : Option SymbolAt) → IsNearestIn items n a x → IsAhead x found.1 → (k : ℕ) (name : List ℕ) (s : Nlist) → IsBelow items n a k name s
        → s.n_value < found.1.n_value
    farther None none ahead k name s b = absurd (none k name s b)
    farther (Some x) is ahead k name s b = omega (arith, is.greatest k name s b, ahead)

    module _ (x : Option SymbolAt) (is : IsNearestIn items n a x) (ahead : IsAhead x found.1) (below : is_below n a found.1 ≡ true) where
      here_greatest : (k : ℕ) (name : List ℕ) (s : Nlist) → IsBelow (Ok found ∷ items) n a k name s → s.n_value ≤ found.1.n_value
      here_greatest zero name s b = omega (arith, same_value name s (same_Some (Ok found) (Ok (name, s)) b.item))
      here_greatest (suc k) name s b = omega (arith, farther x is ahead k name s (record { item = b.item; below = b.below }))

      here_last : (k : ℕ) (name : List ℕ) (s : Nlist) → IsBelow (Ok found ∷ items) n a k name s → 0 < k → s.n_value < found.1.n_value
      here_last zero name s b after = absurd (omega (arith, after))
      here_last (suc k) name s b after = farther x is ahead k name s (record { item = b.item; below = b.below })

      here_nearest : IsNearest (Ok found ∷ items) n a here
      here_nearest = record {
        symbol = record { item = refl; below = below };
        greatest = here_greatest;
        last = here_last;
        distance = omega (arith, below_address found.1 below);
      }

  -- ---- all

  -- there is a nearest symbol or none, and it is that of the definition
  abbrev IsFound : Items → Option SymbolAt → Type 0
  IsFound items x = IsNearestIn items n a x × (nearest_of n a items ≡ option_map symbol_below x)

  abbrev Found : Items → Type 0
  Found items = (x : Option SymbolAt) × IsNearestIn items n a x × (nearest_of n a items ≡ option_map symbol_below x)

  module _ (items : Items) (found : List ℕ × Nlist) (x : Option SymbolAt) (all : IsFound items x) where
    value_passed : (y : SymbolAt) → x ≡ Some y → is_below n a found.1 ≡ true → nat_le y.distance (a - found.1.n_value) ≡ true
        → found.1.n_value ≤ y.symbol.n_value
    value_passed y e below near =
        let nearest : IsNearest items n a y = subst (λ (o : Option SymbolAt). IsNearestIn items n a o) e all.0 in
        omega (arith, nearest.distance, below_address found.1 below, leb-true y.distance (a - found.1.n_value) near)

    value_ahead : (y : SymbolAt) → x ≡ Some y → is_below n a found.1 ≡ true → nat_le y.distance (a - found.1.n_value) ≡ false
        → y.symbol.n_value < found.1.n_value
    value_ahead y e below far =
        let nearest : IsNearest items n a y = subst (λ (o : Option SymbolAt). IsNearestIn items n a o) e all.0 in
        omega (arith, nearest.distance, below_address found.1 below, leb-false y.distance (a - found.1.n_value) far)

  module _ (items : Items) (found : List ℕ × Nlist) where
    abbrev seen : SymbolBelow
    seen = record { name = found.0; distance = a - found.1.n_value }

    first_of : (b : Bool) → is_below n a found.1 ≡ b
        → nearest_of n a (Ok found ∷ items) ≡ nearer_of (cond b (Some seen) None) (nearest_of n a items)
    first_of b e = ap (λ (t : Bool). nearer_of (cond t (Some seen) None) (nearest_of n a items)) e

    by_distance : (b : Bool) (y : SymbolAt) → is_below n a found.1 ≡ true → nat_le y.distance (a - found.1.n_value) ≡ b → IsFound items (Some y)
        → Found (Ok found ∷ items)
    by_distance true y below near all = (
      Some (moved y),
      passed_by items (Ok found) (Some y) all.0 (λ name s e b.
          let more = value_passed items found (Some y) all y refl below near in omega (arith, more, same_value items found name s e)),
      first_of true below ∙ ap (λ (o : Option SymbolBelow). nearer_of (Some seen) o) all.1
          ∙ ap (λ (t : Bool). cond t (Some (symbol_below y)) (Some seen)) near,
    )
    by_distance false y below far all = (
      Some (here items found),
      here_nearest items found (Some y) all.0 (value_ahead items found (Some y) all y refl below far) below,
      first_of true below ∙ ap (λ (o : Option SymbolBelow). nearer_of (Some seen) o) all.1
          ∙ ap (λ (t : Bool). cond t (Some (symbol_below y)) (Some seen)) far,
    )

    by_symbol : (x : Option SymbolAt) → is_below n a found.1 ≡ true → IsFound items x → Found (Ok found ∷ items)
    by_symbol None below all = (
      Some (here items found),
      here_nearest items found None all.0 tt below,
      first_of true below ∙ ap (λ (o : Option SymbolBelow). nearer_of (Some seen) o) all.1,
    )
    by_symbol (Some x) below all = by_distance (nat_le x.distance (a - found.1.n_value)) x below refl all

    by_test : (b : Bool) (x : Option SymbolAt) → is_below n a found.1 ≡ b → IsFound items x → Found (Ok found ∷ items)
    by_test true x below all = by_symbol x below all
    by_test false x other all = (
      option_map moved x,
      passed_by items (Ok found) x all.0 (λ name s e below.
          let same : ◌≡◌ {A = List ℕ × Nlist} found (name, s) = cc (e) in
          let test = ap (λ (p : List ℕ × Nlist). is_below n a p.1) same in absurd (cc (test, below, other))),
      first_of false other ∙ ap (λ (o : Option SymbolBelow). nearer_of None o) all.1 ∙ nearer_same x,
    )

  one_found : (items : Items) → Found items
  one_found [] = (None, λ k name s b. absurd (cc (b.item)), refl)
  one_found (Err f ∷ items) =
      let all = one_found items in (
        option_map moved all.0,
        passed_by items (Err f) all.0 all.1 (λ name s e below. absurd (cc (e))),
        ap (λ (o : Option SymbolBelow). nearer_of None o) all.2 ∙ nearer_same all.0,
      )
  one_found (Ok found ∷ items) = let all = one_found items in by_test items found (is_below n a found.1) all.0 refl (all.1, all.2)

-- ---- by the section of an address

module _ (ss : List SegmentView) (items : Items) where
  pub symbol_exists : (held : Option NumberedSection) (a : ℕ)
      → (x : Option SymbolAt) × IsSymbolAt ss items held a x × (nearest_in_section ss items held a ≡ option_map symbol_below x)
  symbol_exists None a = (None, refl, refl)
  symbol_exists (Some h) a = let all = one_found (section_number ss h) a items in (all.0, all.1, all.2)

  abbrev seen_of : ℕ × List ℕ × Nlist × ℕ → SymbolBelow
  seen_of v = record { name = v.1; distance = v.3 }

  as_found : (x : Option SymbolAt) → option_map symbol_below x ≡ option_map seen_of (option_map found_symbol_view x)
  as_found None = refl
  as_found (Some x) = refl

  -- it is determined
  pub symbol_is : (held : Option NumberedSection) (a : ℕ) (x : Option SymbolAt) → IsSymbolAt ss items held a x
      → option_map symbol_below x ≡ nearest_in_section ss items held a
  symbol_is held a x is =
      let other = symbol_exists held a in
      as_found x
      ∙ (ap (λ (o : Option (ℕ × List ℕ × Nlist × ℕ)). option_map seen_of o) (one_symbol ss items held a x other.0 is other.1)
      ∙ (sym (as_found other.0) ∙ sym other.2))
