-- What the list of a trie says of a name, and what its paths say.
use Rattle.std.proofs.Common.{◌≡◌, ℕ, ◌++◌, List, [], ◌∷◌, inl, inr, Option, Some, None, refl, sym, ap, subst, ◌∙◌}
use Rattle.std.specs.Prelude.{slice_get}
use Rattle.mach_base.specs.Among.{IsAmong}
use Rattle.mach_dyld.specs.Trie.{Info, Branch, Node, Trie, Entry}
use Rattle.mach_dyld.specs.LookUp.{IsFirstOf, IsExportOf}
use Rattle.mach_dyld.specs.TerminalPaths.{EndsWith, IsNameOf, BelongsTo, EachBelongs}
use Rattle.mach_dyld.specs.TrieRange.{TrieRange, trie_there}
use Rattle.mach_dyld.proofs.TerminalPaths.{lists_paths}
use Rattle.mach_dyld.proofs.TriePaths.{same_node, same_some, leads_to_one}
use Rattle.goblin_mach.specs.Facts.{HasExports, HasExportOf}
use Rattle.goblin_mach.specs.LookUp.{IsAnswerInImage, IsListedAs}
use Rattle.goblin_mach.specs.Subjects.{ListsImageExports, trie_in, libs_in}
use Rattle.goblin_mach.proofs.ImageFacts.{one_image}

module _ (t : Trie) where
  -- a path has one name
  one_name : (p : List ℕ) (s : ℕ) (m n : List ℕ) → IsNameOf t s p m → IsNameOf t s p n → m ≡ n
  one_name [] s m n x y = x ∙ sym y
  one_name (k ∷ ks) s m n x y =
      let node : x.0 ≡ y.0 = same_node x.3 y.3 in
      let branch : x.1 ≡ y.1 = same_some x.4 (subst (λ (z : Node). slice_get z.branches k ≡ Some y.1) (sym node) y.4) in
      let rest : x.2 ≡ y.2 = one_name ks x.1.start x.2 y.2 x.5 (subst (λ (c : Branch). IsNameOf t c.start ks y.2) (sym branch) y.5) in
      x.6 ∙ ap (λ (c : Branch). c.label ++ x.2) branch ∙ ap (λ (z : List ℕ). y.1.label ++ z) rest ∙ sym y.6

  -- and ends with one own export
  one_end : (root : ℕ) (p : List ℕ) (a b : Info) → EndsWith t root p a → EndsWith t root p b → a ≡ b
  one_end root p a b x y =
      let at : x.at ≡ y.at = leads_to_one t p root x.at y.at x.leads y.leads in
      let node : x.node ≡ y.node = same_node x.is_node.1 (subst (λ (z : ℕ). t.node z ≡ _) (sym at) y.is_node.1) in
      same_some x.own (subst (λ (z : Node). z.own ≡ Some b) (sym node) y.own)

  module _ (root : ℕ) where
    -- the meaning of a listed export holds by its path
    belongs_occurs : (p : List ℕ) (e : Entry) → BelongsTo t root [] p e → IsExportOf t root e.name e.info
    belongs_occurs p e b =
        let info : b.info ≡ e.info = sym (ap (λ (x : Entry). x.info) b.is) in
        let name : b.name ≡ e.name = sym (ap (λ (x : Entry). x.name) b.is) in
        (p, subst (EndsWith t root p) info b.ends, subst (IsNameOf t root p) name b.named)

    first_occurs : (ps : List (List ℕ)) (es : List Entry) (name : List ℕ) (info : Info) → EachBelongs t root [] ps es → IsFirstOf name es (Some info)
        → IsExportOf t root name info
    first_occurs [] [] name info each first = absurd (cc)
    first_occurs [] (e ∷ es) name info each first = absurd each
    first_occurs (p ∷ ps) [] name info each first = absurd each
    first_occurs (p ∷ ps) (e ∷ es) name info each first = elim first [
      | inl hit ↦
          let same : e.info ≡ info = same_some hit.1 refl in
          subst (λ (n : List ℕ). IsExportOf t root n info) hit.0 (subst (IsExportOf t root e.name) same (belongs_occurs p e each.0))
      | inr miss ↦ first_occurs ps es name info each.1 miss.1
    ]

    -- what holds by a path is in the list
    standing_listed : (ps : List (List ℕ)) (es : List Entry) (p name : List ℕ) (info : Info) → EachBelongs t root [] ps es → IsAmong p ps
        → EndsWith t root p info → IsNameOf t root p name → IsListedAs name info es
    standing_listed [] es p name info each among ends named = absurd among
    standing_listed (q ∷ ps) [] p name info each among ends named = absurd each
    standing_listed (q ∷ ps) (e ∷ es) p name info each among ends named = elim among [
      | inl here ↦
          let b = subst (λ (x : List ℕ). BelongsTo t root [] x e) (sym here) each.0 in (
            e,
            inl refl,
            ap (λ (x : Entry). x.name) b.is ∙ one_name p root b.name name b.named named,
            ap (λ (x : Entry). x.info) b.is ∙ one_end root p b.info info b.ends ends,
          )
      | inr later ↦ (let rest = standing_listed ps es p name info each.1 later ends named in (rest.0, inr rest.1, rest.2, rest.3))
    ]

    -- if no export has the name, no path does, and the converse
    none_occurs : (es : List Entry) (name : List ℕ) (info : Info) → IsFirstOf name es None → IsListedAs name info es → ⊥
    none_occurs [] name info none listed = absurd listed.1
    none_occurs (e ∷ es) name info none listed = elim none [
      | inl hit ↦ absurd (let wrong = hit.1 in cc)
      | inr miss ↦ elim listed.1 [
        | inl here ↦ absurd (miss.0 (ap (λ (x : Entry). x.name) (sym here) ∙ listed.2))
        | inr later ↦ none_occurs es name info miss.1 (listed.0, later, listed.2, listed.3)
      ]
    ]

    none_first : (ps : List (List ℕ)) (es : List Entry) (name : List ℕ) → EachBelongs t root [] ps es → ((info : Info) → IsExportOf t root name info → ⊥)
        → IsFirstOf name es None
    none_first [] [] name each none = refl
    none_first [] (e ∷ es) name each none = absurd each
    none_first (p ∷ ps) [] name each none = refl
    none_first (p ∷ ps) (e ∷ es) name each none = inr (
      λ h. none e.info (subst (λ (n : List ℕ). IsExportOf t root n e.info) h (belongs_occurs p e each.0)),
      none_first ps es name each.1 none,
    )

-- the first export of a name in the trie of an image, if it has one

first_in : (t : Option TrieRange) (libs : List (List ℕ)) (list : List Entry) (name : List ℕ) (found : Option Info) → ListsImageExports t libs list
    → IsFirstOf name list found → IsAnswerInImage t libs name found
first_in None libs list name found lists first = subst (λ (es : List Entry). IsFirstOf name es found) lists first
first_in (Some t) libs list name None lists first = λ info occurs.
    let there = trie_there t libs in
    let paths = lists_paths there t.from [] list lists.1 in
    none_occurs there t.from list name info first
    (standing_listed there t.from paths.0 list occurs.0 name info paths.1.exports (paths.1.each occurs.0 (info, occurs.1)) occurs.1 occurs.2)
first_in (Some t) libs list name (Some info) lists first =
    let paths = lists_paths (trie_there t libs) t.from [] list lists.1 in
    first_occurs (trie_there t libs) t.from paths.0 list name info paths.1.exports first

missing_in : (t : Option TrieRange) (libs : List (List ℕ)) (list : List Entry) (name : List ℕ) → ListsImageExports t libs list
    → IsAnswerInImage t libs name None → IsFirstOf name list None
missing_in None libs list name lists occurs = subst (λ (es : List Entry). IsFirstOf name es None) (sym lists) refl
missing_in (Some t) libs list name lists occurs =
    let paths = lists_paths (trie_there t libs) t.from [] list lists.1 in
    none_first (trie_there t libs) t.from paths.0 list name paths.1.exports occurs

listed_in : (t : Option TrieRange) (libs : List (List ℕ)) (list : List Entry) (name : List ℕ) (info : Info) → ListsImageExports t libs list
    → IsAnswerInImage t libs name (Some info) → IsListedAs name info list
listed_in None libs list name info lists occurs = absurd (cc)
listed_in (Some t) libs list name info lists occurs =
    let paths = lists_paths (trie_there t libs) t.from [] list lists.1 in
    standing_listed (trie_there t libs) t.from paths.0 list occurs.0 name info paths.1.exports (paths.1.each occurs.0 (info, occurs.1)) occurs.1 occurs.2

-- the same of the bytes, in which at most one image opens
module _ (bytes : List ℕ) (o : ℕ) where
  pub first_of_exports : (list : List Entry) (name : List ℕ) (found : Option Info) → HasExports bytes o list → IsFirstOf name list found
      → HasExportOf bytes o name found
  first_of_exports list name found p first =
      record {
        ctx = p.ctx;
        cs = p.cs;
        opens = p.opens;
        holds = first_in (trie_in bytes p.cs) (libs_in bytes p.cs) list name found p.holds first;
      }

  pub missing_export : (list : List Entry) (name : List ℕ) → HasExports bytes o list → HasExportOf bytes o name None → IsFirstOf name list None
  missing_export list name p q =
      missing_in (trie_in bytes p.cs) (libs_in bytes p.cs) list name p.holds
      (one_image bytes o (λ ctx cs. IsAnswerInImage (trie_in bytes cs) (libs_in bytes cs) name None) p.ctx p.cs p.opens q)

  pub listed_export : (list : List Entry) (name : List ℕ) (info : Info) → HasExports bytes o list → HasExportOf bytes o name (Some info)
      → IsListedAs name info list
  listed_export list name info p q =
      listed_in (trie_in bytes p.cs) (libs_in bytes p.cs) list name info p.holds
      (one_image bytes o (λ ctx cs. IsAnswerInImage (trie_in bytes cs) (libs_in bytes cs) name (Some info)) p.ctx p.cs p.opens q)
