-- The keys of the symbols of a table.
use Rattle.std.proofs.Common.{◌≡◌, ◌++◌, ◌∷◌, [], ◌∙◌, ◌+◌, ◌-◌, ◌<◌, ◌≤◌, ℕ, List, map, sym, ap, arith}
use Rattle.std.proofs.lemmas.List.{append-nil, append_assoc, map-append}
use Rattle.mach_base.proofs.ItemLists.{items_from-first}
use Rattle.mach_base.specs.Items.{items_from}
use Rattle.mach_parts.specs.Symbols.{SymbolTable, symbol_at}
use Rattle.machsyms.specs.Order.{SymbolKey, symbol_key_of, key_view, keys_of_table}
use Rattle.machsyms.specs.declared.selection.SortedBy.{SortedBy}
use Rattle.machsyms.specs.declared.order.SortKey.{SortKey}

module _ (by : SortedBy) (t : SymbolTable) where
  -- the keys of the symbols from a number on
  abbrev pub keys_after : ℕ → List SymbolKey
  keys_after i = items_from (λ k. symbol_key_of by k (symbol_at t k)) i (t.nsyms - i)

  pub keys_none : (keys : List SortKey) → keys ≡ [] → map key_view keys ++ keys_after 0 ≡ keys_of_table by t
  keys_none keys none =
      let all : t.nsyms - 0 ≡ t.nsyms = omega arith in
      ap (λ ks. map key_view ks ++ keys_after 0) none ∙ ap (λ (n : ℕ). items_from (λ k. symbol_key_of by k (symbol_at t k)) 0 n) all

  pub keys_more : (done more : List SortKey) (key : SortKey) (i : ℕ) → i < t.nsyms → more ≡ done ++ key ∷ []
      → key_view key ≡ symbol_key_of by i (symbol_at t i) → map key_view more ++ keys_after (i + 1) ≡ map key_view done ++ keys_after i
  keys_more done more key i inside are is =
      ap (λ ks. map key_view ks ++ keys_after (i + 1)) are
      ∙ ap (λ front. front ++ keys_after (i + 1)) (map-append key_view done (key ∷ []))
      ∙ append_assoc (map key_view done) (key_view key ∷ []) (keys_after (i + 1))
      ∙ ap (λ x. map key_view done ++ x ∷ keys_after (i + 1)) is
      ∙ ap (λ rest. map key_view done ++ rest) (sym (items_from-first (λ k. symbol_key_of by k (symbol_at t k)) i t.nsyms inside))

  pub keys_all : (done : List SortKey) (i : ℕ) → t.nsyms ≤ i → map key_view done ++ keys_after i ≡ keys_of_table by t
      → map key_view done ≡ keys_of_table by t
  keys_all done i over is =
      let none : t.nsyms - i ≡ 0 = omega (arith, over) in
      sym (append-nil (map key_view done))
      ∙ sym (ap (λ (n : ℕ). map key_view done ++ items_from (λ k. symbol_key_of by k (symbol_at t k)) i n) none) ∙ is
