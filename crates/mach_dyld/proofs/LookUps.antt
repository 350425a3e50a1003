-- What is found of a name is what a list has for it, and holds by the paths.
use Rattle.std.proofs.Common.{◌≡◌, ℕ, zero, suc, List, [], ◌∷◌, ◌++◌, inl, inr, Option, Some, None, Result, Ok, Err, refl, sym, ap, subst, ◌∙◌, arith}
use Rattle.std.proofs.Common.{append_assoc}
use Rattle.std.specs.Prelude.{slice_get, IfOk}
use Rattle.std.proofs.lemmas.List.{append-nil, append_cancel_left}
use Rattle.mach_dyld.proofs.TriePaths.{same_node, same_some}
use Rattle.mach_dyld.specs.Trie.{Info, Branch, Node, Trie, Entry, own_entries}
use Rattle.mach_dyld.specs.Lists.{Lists, BranchesList, nothing, a_node, no_more, one_more}
use Rattle.mach_dyld.specs.TerminalPaths.{EndsWith, IsNameOf}
use Rattle.mach_dyld.specs.LookUp.{IsFirstOf, IsExportOf, IsAnswerFor}
use Rattle.mach_dyld.specs.Finds.{IsElsewhere, Finds, BranchesFind, at_nothing, here, below, none_left, passed, following, gone_back}

-- lists one after another

joined : (xs ys zs : List ℕ) → (xs ++ ys) ++ zs ≡ xs ++ (ys ++ zs)
joined xs ys zs = simp append_assoc

none_then : (name : List ℕ) (xs ys : List Entry) (found : Option Info) → IsFirstOf name xs None → IsFirstOf name ys found → IsFirstOf name (xs ++ ys) found
none_then name [] ys found none rest = rest
none_then name (x ∷ xs) ys found none rest = elim none [
  | inl hit ↦ absurd (let wrong = hit.1 in cc)
  | inr miss ↦ inr (miss.0, none_then name xs ys found miss.1 rest)
]

some_then : (name : List ℕ) (xs ys : List Entry) (info : Info) → IsFirstOf name xs (Some info) → IsFirstOf name (xs ++ ys) (Some info)
some_then name [] ys info some = absurd (cc)
some_then name (x ∷ xs) ys info some = elim some [ inl hit ↦ inl hit | inr miss ↦ inr (miss.0, some_then name xs ys info miss.1) ]

-- a name that doesn't begin with the prefix isn't in the list
own_not : (p : List ℕ) (own : Option Info) (name : List ℕ) → ((q : List ℕ) → name ≡ p ++ q → ⊥) → IsFirstOf name (own_entries p own) None
own_not p None name other = refl
own_not p (Some info) name other = inr (λ h. other [] (sym h ∙ sym (append-nil p)), refl)

mutual
  not_listed : (t : Trie) (s : ℕ) (p : List ℕ) (xs : List Entry) (name : List ℕ) → Lists t s p xs → ((q : List ℕ) → name ≡ p ++ q → ⊥) → IsFirstOf name xs None
  not_listed t s p [] name (nothing out) other = refl
  not_listed t s p xs name (a_node {others = ys} node is all e) other =
      subst (λ (zs : List Entry). IsFirstOf name zs None) (sym e)
      (none_then name (own_entries p node.own) ys None (own_not p node.own name other) (branches_not t p node.branches ys name all other))

  branches_not : (t : Trie) (p : List ℕ) (bs : List Branch) (xs : List Entry) (name : List ℕ) → BranchesList t p bs xs → ((q : List ℕ) → name ≡ p ++ q → ⊥)
      → IsFirstOf name xs None
  branches_not t p [] [] name no_more other = refl
  branches_not t p (b ∷ bs) zs name (one_more {first = xs} {others = ys} first rest e) other =
      subst (λ (z : List Entry). IsFirstOf name z None) (sym e)
      (none_then name xs ys None
      (not_listed t b.start (p ++ b.label) xs name first (λ q h. other (b.label ++ q) (h ∙ joined p b.label q)))
      (branches_not t p bs ys name rest other))

-- the own export of a node that isn't the one searched for
own_elsewhere : (p rest : List ℕ) (own : Option Info) → IsElsewhere rest own → IsFirstOf (p ++ rest) (own_entries p own) None
own_elsewhere p rest None other = refl
own_elsewhere p rest (Some info) other = elim other [
  | inl none ↦ absurd (cc)
  | inr more ↦ inr (λ h. more (sym (append_cancel_left p [] rest (append-nil p ∙ h))), refl)
]

mutual
  pub first_of : (t : Trie) (s : ℕ) (p rest : List ℕ) (xs : List Entry) (found : Option Info) → Finds t s rest found → Lists t s p xs → IsFirstOf
      (p ++ rest) xs found
  first_of t s p rest [] found (at_nothing out e) (nothing out2) = e
  first_of t s p rest xs found (at_nothing out e) (a_node node is all eq) = absurd (let inside = is.0 in omega arith)
  first_of t s p rest [] found (here node info is own r e) (nothing out) = absurd (let inside = is.0 in omega arith)
  first_of t s p rest xs found (here node info is own r e) (a_node {others = ys} node2 is2 all eq) =
      let same : node ≡ node2 = same_node is.1 is2.1 in
      let own2 : node2.own ≡ Some info = ap (λ (n : Node). n.own) (sym same) ∙ own in
      let name : p ≡ p ++ rest = sym (ap (λ (x : List ℕ). p ++ x) r ∙ append-nil p) in
      subst (λ (zs : List Entry). IsFirstOf (p ++ rest) zs found) (sym (eq ∙ ap (λ (o : Option Info). own_entries p o ++ ys) own2)) (inl (name, e))
  first_of t s p rest [] found (below node is other finds) (nothing out) = absurd (let inside = is.0 in omega arith)
  first_of t s p rest xs found (below node is other finds) (a_node {others = ys} node2 is2 all eq) =
      let same : node2 ≡ node = same_node is2.1 is.1 in
      let all2 = subst (λ (n : Node). BranchesList t p n.branches ys) same all in
      subst (λ (zs : List Entry). IsFirstOf (p ++ rest) zs found) (sym (eq ∙ ap (λ (n : Node). own_entries p n.own ++ ys) same))
      (none_then (p ++ rest) (own_entries p node.own) ys found (own_elsewhere p rest node.own other)
      (first_of_branches t p rest node.branches ys found finds all2))

  pub first_of_branches : (t : Trie) (p rest : List ℕ) (bs : List Branch) (xs : List Entry) (found : Option Info) → BranchesFind t rest bs found
      → BranchesList t p bs xs → IsFirstOf (p ++ rest) xs found
  first_of_branches t p rest [] [] found (none_left e) no_more = e
  first_of_branches t p rest [] (x ∷ xs) found (none_left e) all = elim all [ ]
  first_of_branches t p rest (b ∷ bs) zs found (passed other finds) (one_more {first = xs} {others = ys} first more eq) =
      subst (λ (z : List Entry). IsFirstOf (p ++ rest) z found) (sym eq)
      (none_then (p ++ rest) xs ys found
      (not_listed t b.start (p ++ b.label) xs (p ++ rest) first (λ q h. other q (append_cancel_left p rest (b.label ++ q) (h ∙ joined p b.label q))))
      (first_of_branches t p rest bs ys found finds more))
  first_of_branches t p rest (b ∷ bs) zs found (following others info r finds e) (one_more {first = xs} {others = ys} first more eq) =
      let name : (p ++ b.label) ++ others ≡ p ++ rest = joined p b.label others ∙ ap (λ (x : List ℕ). p ++ x) (sym r) in
      subst (λ (z : List Entry). IsFirstOf (p ++ rest) z found) (sym eq) (subst (IsFirstOf (p ++ rest) (xs ++ ys)) (sym e)
      (some_then (p ++ rest) xs ys info (subst (λ (x : List ℕ). IsFirstOf x xs (Some info)) name
      (first_of t b.start (p ++ b.label) others xs (Some info) finds first))))
  first_of_branches t p rest (b ∷ bs) zs found (gone_back others r none finds) (one_more {first = xs} {others = ys} first more eq) =
      let name : (p ++ b.label) ++ others ≡ p ++ rest = joined p b.label others ∙ ap (λ (x : List ℕ). p ++ x) (sym r) in
      subst (λ (z : List Entry). IsFirstOf (p ++ rest) z found) (sym eq)
      (none_then (p ++ rest) xs ys found (subst (λ (x : List ℕ). IsFirstOf x xs None) name (first_of t b.start (p ++ b.label) others xs None none first))
      (first_of_branches t p rest bs ys found finds more))

-- by the paths

mutual
  pub found_occurs : (t : Trie) (s : ℕ) (rest : List ℕ) (found : Option Info) (info : Info) → Finds t s rest found → found ≡ Some info
      → IsExportOf t s rest info
  found_occurs t s rest found info (at_nothing out e) some = absurd (cc)
  found_occurs t s rest found info (here node info2 is own r e) some =
      let same : info2 ≡ info = cc in
      ([], record { at = s; leads = refl; node = node; is_node = is; own = own ∙ ap (λ x. Some x) same }, r)
  found_occurs t s rest found info (below node is other finds) some =
      let b = found_after t rest node.branches found info finds some in (
        b.0 ∷ b.3.0,
        record {
          at = b.3.1.at;
          leads = (node, b.1, is.0, is.1, b.4, b.3.1.leads);
          node = b.3.1.node;
          is_node = b.3.1.is_node;
          own = b.3.1.own;
        },
        (node, b.1, b.2, is.1, b.4, b.3.2, b.5),
      )

  pub found_after : (t : Trie) (rest : List ℕ) (bs : List Branch) (found : Option Info) (info : Info) → BranchesFind t rest bs found → found ≡ Some info
      → (k : ℕ) × (b : Branch) × (others : List ℕ) × IsExportOf t b.start others info × (slice_get bs k ≡ Some b) × (rest ≡ b.label ++ others)
  found_after t rest [] found info (none_left e) some = absurd (cc)
  found_after t rest (b ∷ bs) found info (passed other finds) some = let r = found_after t rest bs found info finds some in (suc r.0, r.1, r.2, r.3, r.4, r.5)
  found_after t rest (b ∷ bs) found info (following others info2 r finds e) some = let same : Some info2 ≡ Some info = cc in
      (0, b, others, found_occurs t b.start others (Some info2) info finds same, refl, r)
  found_after t rest (b ∷ bs) found info (gone_back others r none finds) some = let r = found_after t rest bs found info finds some in
      (suc r.0, r.1, r.2, r.3, r.4, r.5)

mutual
  pub none_occurs : (t : Trie) (s : ℕ) (rest : List ℕ) (found : Option Info) → Finds t s rest found → found ≡ None → (path : List ℕ) (info : Info)
      → EndsWith t s path info → IsNameOf t s path rest → ⊥
  none_occurs t s rest found (here node info2 is own r e) none path info ends named = cc
  none_occurs t s rest found (at_nothing out e) none [] info ends named =
      let inside = ends.is_node.0 in let at : s ≡ ends.at = ends.leads in omega arith
  none_occurs t s rest found (at_nothing out e) none (k ∷ ks) info ends named = let inside = ends.leads.2 in omega arith
  none_occurs t s rest found (below node is other finds) none [] info ends named =
      let at : s ≡ ends.at = ends.leads in
      let there : t.node s ≡ Ok ends.node = subst (λ x. t.node x ≡ Ok ends.node) (sym at) ends.is_node.1 in
      let same : node ≡ ends.node = same_node is.1 there in
      elim other [
        | inl no_own ↦ (let own : node.own ≡ Some info = ap (λ (n : Node). n.own) same ∙ ends.own in cc)
        | inr more ↦ more named
      ]
  none_occurs t s rest found (below node is other finds) none (k ∷ ks) info ends named =
      let same : ends.leads.0 ≡ node = same_node ends.leads.3 is.1 in
      let same2 : named.0 ≡ node = same_node named.3 is.1 in
      let at : slice_get node.branches k ≡ Some ends.leads.1 = subst (λ (n : Node). slice_get n.branches k ≡ Some ends.leads.1) same ends.leads.4 in
      let at2 : slice_get node.branches k ≡ Some named.1 = subst (λ (n : Node). slice_get n.branches k ≡ Some named.1) same2 named.4 in
      let one : named.1 ≡ ends.leads.1 = same_some at2 at in
      none_after t rest node.branches found finds none k ends.leads.1 ks info at
      (record { at = ends.at; leads = ends.leads.5; node = ends.node; is_node = ends.is_node; own = ends.own })
      named.2 (subst (λ (b : Branch). IsNameOf t b.start ks named.2) one named.5) (subst (λ (b : Branch). rest ≡ b.label ++ named.2) one named.6)

  none_after : (t : Trie) (rest : List ℕ) (bs : List Branch) (found : Option Info) → BranchesFind t rest bs found → found ≡ None → (k : ℕ) (b : Branch)
      (ks : List ℕ) (info : Info) → slice_get bs k ≡ Some b
      → EndsWith t b.start ks info → (others : List ℕ) → IsNameOf t b.start ks others → rest ≡ b.label ++ others → ⊥
  none_after t rest [] found (none_left e) none k b ks info at ends others named r = cc
  none_after t rest (c ∷ bs) found (passed other finds) none zero b ks info at ends others named r = let same : b ≡ c = cc in other others
      (subst (λ (x : Branch). rest ≡ x.label ++ others) same r)
  none_after t rest (c ∷ bs) found (passed other finds) none (suc k) b ks info at ends others named r =
      none_after t rest bs found finds none k b ks info at ends others named r
  none_after t rest (c ∷ bs) found (following others2 info2 r2 finds e) none k b ks info at ends others named r = cc
  none_after t rest (c ∷ bs) found (gone_back others2 r2 absent finds) none zero b ks info at ends others named r =
      let same : b ≡ c = cc in
      let r3 : rest ≡ c.label ++ others = subst (λ (x : Branch). rest ≡ x.label ++ others) same r in
      let tail : others ≡ others2 = append_cancel_left c.label others others2 (sym r3 ∙ r2) in
      none_occurs t c.start others2 None absent refl ks info (subst (λ (x : Branch). EndsWith t x.start ks info) same ends)
      (subst (IsNameOf t c.start ks) tail (subst (λ (x : Branch). IsNameOf t x.start ks others) same named))
  none_after t rest (c ∷ bs) found (gone_back others2 r2 absent finds) none
      (suc k) b ks info at ends others named r = none_after t rest bs found finds none k b ks info at ends others named r

pub is_answer_for : (t : Trie) (s : ℕ) (rest : List ℕ) (found : Option Info) → Finds t s rest found → IsAnswerFor t s rest found
is_answer_for t s rest None finds = λ info e. none_occurs t s rest None finds refl e.0 info e.1 e.2
is_answer_for t s rest (Some info) finds = found_occurs t s rest (Some info) info finds refl

pub ok_in : {X E : Type 0} (r : Result X E) (P Q : X → Type 0) → ((x : X) → P x → Q x) → IfOk r P → IfOk r Q
ok_in (Ok x) P Q to h = to x h
ok_in (Err e) P Q to h = tt
