-- The first symbol of a name that is no debugging entry.
use Rattle.std.proofs.Common.{◌≡◌, ℕ, zero, suc, ◌+◌, ◌≤◌, Bool, true, false, cond, not, List, [], ◌∷◌, Option, Some, None, Result, Ok, Err}
use Rattle.std.proofs.Common.{refl, ap, sym, subst, ◌∙◌, arith, slice_get}
use Rattle.std.specs.Prelude.{find}
use Rattle.std.specs.List.{cons_option}
use Rattle.std.specs.Str.{bytes_eq}
use Rattle.std.proofs.lemmas.Option.{none-some, same_Some}
use Rattle.std.proofs.lemmas.Slice.Eq.{bytes_eq-Decides}
use Rattle.mach_base.specs.Fault.{Fault}
use Rattle.mach_parts.specs.Symbols.{is_stab}
use Rattle.mach_parts.specs.declared.symbols.nlist.Nlist.{Nlist}
use Rattle.goblin_mach.specs.NamedParts.{symbol_of_name, symbols_of_name, IsFirstNamed, IsSymbolOfName}

module _ (name : List ℕ) where
  abbrev no_stab : ℕ × Nlist → Bool
  no_stab found = not (is_stab found.1)

  -- what was found of items of which the first has number k: the first such symbol, or that there is none
  abbrev IsFound : ℕ → List (Result (List ℕ × Nlist) Fault) → Option (ℕ × Nlist) → Type 0
  IsFound k items None = (j : ℕ) (s : Nlist) → IsSymbolOfName items name j s → ⊥
  IsFound k items (Some found) =
      (i : ℕ) × (found.0 ≡ k + i) × IsSymbolOfName items name i found.1 × ((j : ℕ) (s : Nlist) → IsSymbolOfName items name j s → i ≤ j)

  -- an item is no such symbol
  abbrev IsOther : Result (List ℕ × Nlist) Fault → Type 0
  IsOther item = (s : Nlist) → item ≡ Ok (name, s) → is_stab s ≡ false → ⊥

  -- such a symbol after an item that is none
  among : (item : Result (List ℕ × Nlist) Fault) (items : List (Result (List ℕ × Nlist) Fault)) (j : ℕ) (s : Nlist) → IsOther item
      → IsSymbolOfName (item ∷ items) name j s → (i : ℕ) × (j ≡ suc i) × IsSymbolOfName items name i s
  among item items zero s other is = absurd (other s (same_Some item (Ok (name, s)) is.item) is.no_stab)
  among item items (suc i) s other is = (i, refl, record { item = is.item; no_stab = is.no_stab })

  found_later : (k : ℕ) (item : Result (List ℕ × Nlist) Fault) (items : List (Result (List ℕ × Nlist) Fault)) (o : Option (ℕ × Nlist)) → IsOther item
      → IsFound (k + 1) items o → IsFound k (item ∷ items) o
  found_later k item items None other none = λ j s is. let at = among item items j s other is in none at.0 s at.2
  found_later k item items (Some found) other is = (
    suc is.0,
    omega (arith, is.1),
    record { item = is.2.item; no_stab = is.2.no_stab },
    λ j s that. let at = among item items j s other that in omega (arith, at.1, is.3 at.0 s at.2),
  )

  -- what was read has another name, or is a debugging entry
  same_item : (x : List ℕ × Nlist) (s : Nlist) → ◌≡◌ {A = Result (List ℕ × Nlist) Fault} (Ok x) (Ok (name, s)) → x ≡ (name, s)
  same_item x s e = cc (e)

  other_name : (x : List ℕ × Nlist) → bytes_eq x.0 name ≡ false → IsOther (Ok x)
  other_name x other s e not_stab =
      let same : bytes_eq x.0 name ≡ true = (bytes_eq-Decides x.0 name).1 (ap (λ (p : List ℕ × Nlist). p.0) (same_item x s e)) in
      let wrong : true ≡ false = sym same ∙ other in cc

  a_stab : (x : List ℕ × Nlist) → is_stab x.1 ≡ true → IsOther (Ok x)
  a_stab x stab s e not_stab =
      let same : is_stab x.1 ≡ is_stab s = ap (λ (p : List ℕ × Nlist). is_stab p.1) (same_item x s e) in
      let wrong : true ≡ false = sym stab ∙ (same ∙ not_stab) in cc

  by_kind : (c : Bool) (k : ℕ) (x : List ℕ × Nlist) (items : List (Result (List ℕ × Nlist) Fault)) (rest : List (ℕ × Nlist)) → is_stab x.1 ≡ c
      → x.0 ≡ name → IsFound (k + 1) items (find no_stab rest) → IsFound k (Ok x ∷ items) (cond (not c) (Some (k, x.1)) (find no_stab rest))
  by_kind true k x items rest kind named later = found_later k (Ok x) items (find no_stab rest) (a_stab x kind) later
  by_kind false k x items rest kind named later =
      let item : Option (Result (List ℕ × Nlist) Fault) → Type 0 = λ o. o ≡ Some (Ok (name, x.1)) in (
        0,
        omega arith,
        record { item = subst (λ (n : List ℕ). item (Some (Ok (n, x.1)))) (sym named) refl; no_stab = kind },
        λ j s is. omega arith,
      )

  by_name : (b : Bool) (k : ℕ) (x : List ℕ × Nlist) (items : List (Result (List ℕ × Nlist) Fault)) (rest : List (ℕ × Nlist)) → bytes_eq x.0 name ≡ b
      → IsFound (k + 1) items (find no_stab rest) → IsFound k (Ok x ∷ items) (find no_stab (cons_option (cond b (Some (k, x.1)) None) rest))
  by_name true k x items rest named later = by_kind (is_stab x.1) k x items rest refl ((bytes_eq-Decides x.0 name).0 named) later
  by_name false k x items rest other later = found_later k (Ok x) items (find no_stab rest) (other_name x other) later

  found_from : (k : ℕ) (items : List (Result (List ℕ × Nlist) Fault)) → IsFound k items (find no_stab (symbols_of_name name k items))
  found_from k [] = λ j s is. absurd (none-some (Ok (name, s)) is.item)
  found_from k (Err f ∷ items) =
      found_later k (Err f) items (find no_stab (symbols_of_name name (k + 1) items)) (λ s e not_stab. absurd (cc (e))) (found_from (k + 1) items)
  found_from k (Ok x ∷ items) = by_name (bytes_eq x.0 name) k x items (symbols_of_name name (k + 1) items) refl (found_from (k + 1) items)

  first_of_found : (items : List (Result (List ℕ × Nlist) Fault)) (o : Option (ℕ × Nlist)) → IsFound 0 items o → IsFirstNamed items name o
  first_of_found items None none = none
  first_of_found items (Some found) is =
      let at : is.0 ≡ found.0 = omega (arith, is.1) in
      (subst (λ (i : ℕ). IsSymbolOfName items name i found.1) at is.2, λ j s that. omega (arith, at, is.3 j s that))

pub first_named : (items : List (Result (List ℕ × Nlist) Fault)) (name : List ℕ) → IsFirstNamed items name (symbol_of_name name items)
first_named items name = first_of_found name items (symbol_of_name name items) (found_from name 0 items)
