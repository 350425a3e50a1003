-- Paths of a look-up, one after the other: where they lead, what they spell, and the faults after them.
use Rattle.std.proofs.Common.{◌≡◌, ◌<◌, ℕ, List, [], ◌∷◌, ◌++◌, Some, Result, Ok, Err, refl, sym, ap, subst, ◌∙◌}
use Rattle.std.proofs.Common.{append_assoc}
use Rattle.std.specs.Prelude.{slice_get, IfErr}
use Rattle.std.proofs.lemmas.List.{append_cancel_left}
use Rattle.mach_base.specs.Fault.{Fault}
use Rattle.mach_base.specs.Answer.{ErrorMeets}
use Rattle.mach_base.specs.declared.error.Error.{Error}
use Rattle.mach_base.proofs.Faults.{ErrorMeets-in}
use Rattle.mach_dyld.specs.Trie.{Branch, Node, Trie}
use Rattle.mach_dyld.specs.TrieFault.{TrieFault, at_node, met_again}
use Rattle.mach_dyld.specs.Paths.{Leads}
use Rattle.mach_dyld.specs.TerminalPaths.{IsNameOf}
use Rattle.mach_dyld.specs.LookUp.{PathSpells, IsOnWay, FaultOnWay, at_node_on_way, met_on_way}
use Rattle.mach_dyld.proofs.TriePaths.{same_node, same_some, Leads-append, leads_to_one}

module _ (t : Trie) where
  pub name_append : (p q : List ℕ) (a b : ℕ) (m n : List ℕ) → Leads t p a b → IsNameOf t a p m → IsNameOf t b q n → IsNameOf t a (p ++ q) (m ++ n)
  name_append [] q a b m n l h more =
      subst (λ (x : List ℕ). IsNameOf t a q (x ++ n)) (sym h) (subst (λ x. IsNameOf t x q n) (sym l) more)
  name_append (k ∷ ks) q a b m n l h more =
      let node : l.0 ≡ h.0 = same_node l.3 h.3 in
      let branch : l.1 ≡ h.1 = same_some (subst (λ (x : Node). slice_get x.branches k ≡ Some l.1) node l.4) h.4 in (
        h.0,
        h.1,
        h.2 ++ n,
        h.3,
        h.4,
        name_append ks q h.1.start b h.2 n (subst (λ (x : Branch). Leads t ks x.start b) branch l.5) h.5 more,
        ap (λ (x : List ℕ). x ++ n) h.6 ∙ append_assoc h.1.label h.2 n,
      )

  pub spells_append : (p q : List ℕ) (a b : ℕ) (name rest others : List ℕ) → Leads t p a b → PathSpells t a name p rest → PathSpells t b rest q others
      → PathSpells t a name (p ++ q) others
  spells_append p q a b name rest others l front more = (
    front.0 ++ more.0,
    name_append p q a b front.0 more.0 l front.1 more.1,
    front.2 ∙ (ap (λ (x : List ℕ). front.0 ++ x) more.2 ∙ sym (append_assoc front.0 more.0 others)),
  )

  -- one branch further
  pub spells_on : (p : List ℕ) (a b : ℕ) (name rest others : List ℕ) (node : Node) (k : ℕ) (branch : Branch) → Leads t p a b → PathSpells t a name p rest
      → t.node b ≡ Ok node → slice_get node.branches k ≡ Some branch → rest ≡ branch.label ++ others → PathSpells t a name (p ++ k ∷ []) others
  spells_on p a b name rest others node k branch l front at there e =
      spells_append p (k ∷ []) a b name rest others l front
      (branch.label, (node, branch, [], at, there, refl, append_nil_own branch.label), e)
    where
      append_nil_own : (xs : List ℕ) → xs ≡ xs ++ []
      append_nil_own [] = refl
      append_nil_own (x ∷ xs) = ap (λ (ys : List ℕ). x ∷ ys) (append_nil_own xs)

  -- what is on the way from a node on it is on the way
  pub way_after : (p q : List ℕ) (a b : ℕ) (name rest : List ℕ) → Leads t p a b → PathSpells t a name p rest → IsOnWay t b rest q → IsOnWay t a name (p ++ q)
  way_after p q a b name rest l spelled way = (
    (way.0.0, Leads-append t p q a b way.0.0 l way.0.1, way.0.2),
    way.1,
    spells_append p q a b name rest way.1 l spelled way.2,
  )

  -- and so are the faults there
  pub fault_after : (p : List ℕ) (a b : ℕ) (name rest : List ℕ) (f : Fault) → Leads t p a b → PathSpells t a name p rest → FaultOnWay t b rest f
      → FaultOnWay t a name f
  fault_after p a b name rest _ l spelled (at_node_on_way g q at way more err) =
      at_node_on_way g (p ++ q) at (way_after p q a b name rest l spelled way) (Leads-append t p q a b at l more) err
  fault_after p a b name rest _ l spelled (met_on_way q r at one_way two_way one two other) =
      met_on_way (p ++ q) (p ++ r) at (way_after p q a b name rest l spelled one_way) (way_after p r a b name rest l spelled two_way)
      (Leads-append t p q a b at l one) (Leads-append t p r a b at l two) (λ e. other (append_cancel_left p q r e))

  pub occurs_after : {X : Type 0} (p : List ℕ) (a b : ℕ) (name rest : List ℕ) (r : Result X Error) → Leads t p a b → PathSpells t a name p rest
      → IfErr r (ErrorMeets (FaultOnWay t b rest)) → IfErr r (ErrorMeets (FaultOnWay t a name))
  occurs_after p a b name rest (Ok x) l spelled h = tt
  occurs_after p a b name rest (Err e) l spelled h =
      ErrorMeets-in (FaultOnWay t b rest) (FaultOnWay t a name) e (λ f fault. fault_after p a b name rest f l spelled fault) h

  -- a fault on the way of a name is a fault of the trie
  pub fault_of_trie : (root : ℕ) (name : List ℕ) (f : Fault) → FaultOnWay t root name f → TrieFault t root f
  fault_of_trie root name _ (at_node_on_way g path at way leads err) =
      at_node g path at leads (subst (λ x. x < t.upto) (leads_to_one t path root way.0.0 at way.0.1 leads) way.0.2) err
  fault_of_trie root name _ (met_on_way path other at way _ one two differ) =
      met_again path other at one two (subst (λ x. x < t.upto) (leads_to_one t path root way.0.0 at way.0.1 one) way.0.2) differ

  pub occurs_in_trie : {X : Type 0} (root : ℕ) (name : List ℕ) (r : Result X Error) → IfErr r (ErrorMeets (FaultOnWay t root name))
      → IfErr r (ErrorMeets (TrieFault t root))
  occurs_in_trie root name (Ok x) h = tt
  occurs_in_trie root name (Err e) h = ErrorMeets-in (FaultOnWay t root name) (TrieFault t root) e (λ f fault. fault_of_trie root name f fault) h
