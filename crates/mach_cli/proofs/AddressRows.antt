-- Rows of addresses, one after the other.
use Rattle.std.proofs.Common.{◌≡◌, ◌++◌, ◌∷◌, [], ℕ, List, Bool, true, false, Option, sym, subst}
use Rattle.std.proofs.Math.Bool.{and-true, and_assoc}
use Rattle.std.proofs.lemmas.List.{append-nil, append_assoc}
use Rattle.std.specs.Prelude.{◌&&◌, is_some}
use Rattle.goblin_mach.specs.declared.addresses.FoundAt.{FoundAt}
use Rattle.mach_cli.specs.AddressRows.{AreAddressRows, IsFoundLoaded, no_rows, row_then}

module _ (row : Bool → ℕ → FoundAt → List ℕ) (load_address : Option ℕ) (bytes : List ℕ) (all : List ℕ) where
  -- The rows of the addresses that are left complete those of all.
  abbrev pub Completed : (text : List ℕ) → (whole is_first : Bool) → (left : List ℕ) → Type 0
  Completed text whole is_first left = (more : List ℕ) (rest : Bool) → AreAddressRows row load_address bytes is_first left more rest
      → AreAddressRows row load_address bytes true all (text ++ more) (whole && rest)

  pub row_more : (text : List ℕ) (whole is_first : Bool) (left rest : List ℕ) (address : ℕ) (found : FoundAt) → left ≡ address ∷ rest
      → IsFoundLoaded load_address bytes address found → Completed text whole is_first left
      → Completed (text ++ row is_first address found) (whole && is_some found.section) false rest
  row_more text whole is_first left rest address found is one before more later rows =
      let held = is_some found.section in
      subst (λ (t : List ℕ). AreAddressRows row load_address bytes true all t ((whole && held) && later))
      (sym (append_assoc text (row is_first address found) more))
      (subst (λ (w : Bool). AreAddressRows row load_address bytes true all (text ++ (row is_first address found ++ more)) w)
      (sym (and_assoc whole held later))
      (before (row is_first address found ++ more) (held && later)
      (subst (λ (xs : List ℕ). AreAddressRows row load_address bytes is_first xs (row is_first address found ++ more) (held && later)) (sym is)
      (row_then is_first address rest found more later one rows))))

  pub all_rows : (text : List ℕ) (whole is_first : Bool) (left : List ℕ) → left ≡ [] → Completed text whole is_first left
      → AreAddressRows row load_address bytes true all text whole
  all_rows text whole is_first left none before =
      subst (λ (t : List ℕ). AreAddressRows row load_address bytes true all t whole) (append-nil text)
      (subst (λ (w : Bool). AreAddressRows row load_address bytes true all (text ++ []) w) (and-true whole)
      (before [] true (subst (λ (xs : List ℕ). AreAddressRows row load_address bytes is_first xs [] true) (sym none) (no_rows is_first))))
