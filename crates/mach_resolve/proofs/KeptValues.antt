-- Values that are kept, found and added.
use Rattle.std.proofs.Common.{◌≡◌, ◌∙◌, ℕ, Bool, true, false, cond, List, [], ◌∷◌, Some, Bor, refl, sym, ap, subst}
use Rattle.std.specs.Prelude.{bytes_eq, if◌then◌else◌}
use Rattle.std.specs.Map.{lookup}
use Rattle.std.proofs.lemmas.Option.{none-some, same_Some}
use Rattle.std.proofs.lemmas.Slice.Eq.{bytes_eq-Decides}
use Rattle.indexmap.specs.IndexMap.{insert_entry}
use Rattle.mach_resolve.specs.Follow as follow
use Rattle.mach_resolve.specs.Kept.{AreValues}
use Rattle.mach_resolve.specs.ResolveViews.{symbol_view_of}
use Rattle.mach_resolve.specs.declared.follow.Symbol.{Symbol}
use Rattle.mach_resolve.proofs.Steps.{is_same, same_symbol}

module _ {K V : Type 0} (IsValue : K → V → Type 0) (eq : K → K → Bool) (k : K) where
  found_here : (e : K × V) (es : List (K × V)) (v : V) (b : Bool) → ((j : K) → eq k j ≡ true → IsValue j v → IsValue k v) → eq k e.0 ≡ b
      → Some v ≡ lookup (eq k) (e ∷ es) → IsValue e.0 e.1 → (Some v ≡ lookup (eq k) es → IsValue k v) → IsValue k v
  found_here e es v true same there is own rest =
      same e.0 there (subst (IsValue e.0) (sym (same_Some v e.1 (is ∙ ap (λ (b : Bool). cond b (Some e.1) (lookup (eq k) es)) there))) own)
  found_here e es v false same other is own rest = rest (is ∙ ap (λ (b : Bool). cond b (Some e.1) (lookup (eq k) es)) other)

  -- a value that is found is the one that is defined for the key
  pub found : (es : List (K × V)) (v : V) → ((j : K) → eq k j ≡ true → IsValue j v → IsValue k v) → Some v ≡ lookup (eq k) es → AreValues IsValue es
      → IsValue k v
  found [] v same is all = absurd (none-some v (sym is))
  found (e ∷ es) v same is all = found_here e es v (eq k e.0) same refl is all.0 (λ rest. found es v same rest all.1)

  put_here : (e : K × V) (es : List (K × V)) (v : V) (b : Bool) → eq k e.0 ≡ b → (eq k e.0 ≡ true → IsValue e.0 v) → AreValues IsValue (e ∷ es)
      → AreValues IsValue (insert_entry eq es k v) → AreValues IsValue (insert_entry eq (e ∷ es) k v)
  put_here e es v true there own all rest =
      subst (AreValues IsValue) (sym (ap (λ (b : Bool). if b then (e.0, v) ∷ es else e ∷ insert_entry eq es k v) there)) (own there, all.1)
  put_here e es v false other own all rest =
      subst (AreValues IsValue) (sym (ap (λ (b : Bool). if b then (e.0, v) ∷ es else e ∷ insert_entry eq es k v) other)) (all.0, rest)

  -- one more value that is the one that is defined for its key
  pub put : (es : List (K × V)) (v : V) → ((j : K) → eq k j ≡ true → IsValue k v → IsValue j v) → IsValue k v → AreValues IsValue es
      → AreValues IsValue (insert_entry eq es k v)
  put [] v same is all = (is, tt)
  put (e ∷ es) v same is all = put_here e es v (eq k e.0) refl (λ there. same e.0 there is) all (put es v same is all.1)

-- two texts are one
abbrev pub is_text : Bor (List ℕ) → Bor (List ℕ) → Bool
is_text a b = bytes_eq a.now b.now

module _ {V : Type 0} (IsValue : List ℕ → V → Type 0) (k : Bor (List ℕ)) where
  -- by texts
  pub found_text : (es : List (Bor (List ℕ) × V)) (v : V) → Some v ≡ lookup (is_text k) es → AreValues (λ j w. IsValue j.now w) es → IsValue k.now v
  found_text es v is all =
      found (λ (j : Bor (List ℕ)) (w : V). IsValue j.now w) is_text k es v
      (λ j there own. subst (λ n. IsValue n v) (sym ((bytes_eq-Decides k.now j.now).0 there)) own) is all

  pub put_text : (es : List (Bor (List ℕ) × V)) (v : V) → IsValue k.now v → AreValues (λ j w. IsValue j.now w) es
      → AreValues (λ j w. IsValue j.now w) (insert_entry is_text es k v)
  put_text es v is all =
      put (λ (j : Bor (List ℕ)) (w : V). IsValue j.now w) is_text k es v
      (λ j there own. subst (λ n. IsValue n v) ((bytes_eq-Decides k.now j.now).0 there) own) is all

module _ {V : Type 0} (IsValue : follow.Symbol → V → Type 0) (k : Symbol) where
  -- by symbols
  pub found_symbol : (es : List (Symbol × V)) (v : V) → Some v ≡ lookup (is_same k) es → AreValues (λ j w. IsValue (symbol_view_of j) w) es
      → IsValue (symbol_view_of k) v
  found_symbol es v is all =
      found (λ (j : Symbol) (w : V). IsValue (symbol_view_of j) w) is_same k es v
      (λ j there own. subst (λ s. IsValue s v) (sym (same_symbol k j there)) own) is all

  pub put_symbol : (es : List (Symbol × V)) (v : V) → IsValue (symbol_view_of k) v → AreValues (λ j w. IsValue (symbol_view_of j) w) es
      → AreValues (λ j w. IsValue (symbol_view_of j) w) (insert_entry is_same es k v)
  put_symbol es v is all =
      put (λ (j : Symbol) (w : V). IsValue (symbol_view_of j) w) is_same k es v
      (λ j there own. subst (λ s. IsValue s v) (same_symbol k j there) own) is all
