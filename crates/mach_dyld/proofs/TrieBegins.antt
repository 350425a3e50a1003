-- A prefix of a list of exports, as `ListBegins` defines it, is a prefix of the list itself, if there is one.
use Rattle.mach_dyld.proofs.TrieNames.{◌≡◌, ℕ, List, [], ◌∷◌, ◌++◌, refl, sym, ap, subst, ◌∙◌, arith, append_assoc, inl, inr, Branch, Node, Trie, Entry}
use Rattle.mach_dyld.proofs.TrieNames.{own_entries, Lists, BranchesList, nothing, a_node, one_more, ListBegins, BranchesBegin, none_yet, node_started}
use Rattle.mach_dyld.proofs.TrieNames.{no_further, one_started, one_whole, source_trie, HasFound}
use Rattle.mach_dyld.proofs.TrieNames.{Source, TrieRange, trie_there, ListsExports, ExportsFault, ExportsEnd, HasListed, IsTree, TrieFault, Error}
use Rattle.mach_dyld.proofs.TrieNames.{ErrorMeets, ErrorMeets-in, fault_in, IsEndOfWalk}
use Rattle.mach_dyld.proofs.TriePaths.{same_node}
use Rattle.mach_dyld.proofs.TrieRelation.{one_list}
use Rattle.mach_dyld.proofs.Unfoldings.{met_begins}
pub use Rattle.mach_dyld.proofs.Unfoldings.{whole_list}
use Rattle.mach_dyld.specs.declared.trie.walk.Walker.{Walker}

mutual
  pub prefix_of : (t : Trie) (s : ℕ) (p : List ℕ) (xs ys : List Entry) → ListBegins t s p xs → Lists t s p ys → (zs : List Entry) × (ys ≡ xs ++ zs)
  prefix_of t s p [] ys none_yet list = (ys, refl)
  prefix_of t s p xs ys (node_started node is part e) (nothing out) = absurd (let inside = is.0 in omega arith)
  prefix_of t s p xs ys (node_started {others = some} node is part e) (a_node {others = all} other is' list e') =
      let same : other ≡ node = same_node is'.1 is.1 in
      let rest = branches_prefix t p node.branches some all part (subst (λ (n : Node). BranchesList t p n.branches all) same list) in
      let whole : ys ≡ own_entries p node.own ++ all = e' ∙ ap (λ (n : Node). own_entries p n.own ++ all) same in (
        rest.0,
        whole ∙ (ap (λ (x : List Entry). own_entries p node.own ++ x) rest.1
            ∙ (sym (append_assoc (own_entries p node.own) some rest.0) ∙ ap (λ (x : List Entry). x ++ rest.0) (sym e))),
      )

  branches_prefix : (t : Trie) (p : List ℕ) (bs : List Branch) (xs ys : List Entry) → BranchesBegin t p bs xs → BranchesList t p bs ys
      → (zs : List Entry) × (ys ≡ xs ++ zs)
  branches_prefix t p bs [] ys no_further list = (ys, refl)
  branches_prefix t p (b ∷ bs) xs ys (one_started part) (one_more {first = first} {others = others} one rest e) =
      let here = prefix_of t b.start (p ++ b.label) xs first part one in
      (here.0 ++ others, e ∙ (ap (λ (x : List Entry). x ++ others) here.1 ∙ append_assoc xs here.0 others))
  branches_prefix t p (b ∷ bs) xs ys (one_whole {first = first} {others = some} whole part e) (one_more {first = first'} {others = others} one rest e') =
      let same : first' ≡ first = one_list t b.start (p ++ b.label) first' first one whole in
      let more = branches_prefix t p bs some others part rest in (
        more.0,
        e' ∙ (ap (λ (x : List Entry). x ++ others) same ∙ (ap (λ (x : List Entry). first ++ x) more.1
            ∙ (sym (append_assoc first some more.0) ∙ ap (λ (x : List Entry). x ++ more.0) (sym e)))),
      )

-- what a walk has found is a prefix
pub found_begins : {A : Type 0} {n : ℕ} (found : List Entry) (w : Walker A) → HasFound found n w
    → ListBegins (source_trie w.source) w.source.from [] found
found_begins found w f = elim f [
  | inl at ↦ met_begins at.1.is_read.read
  | inr end ↦ whole_list (source_trie w.source) w.source.from [] found end.1.listed
]

-- what is known of a walk's source is known of the trie that it walks
module _ (s : Source) (t : TrieRange) (libs : List (List ℕ)) (same : source_trie s ≡ trie_there t libs) (from : s.from ≡ t.from) where
  pub listed_there : {found : List Entry} {m : ℕ} → HasListed s found m → ListsExports t libs found
  listed_there {found} l = (
    subst (λ (x : Trie). IsTree x t.from) same (subst (IsTree (source_trie s)) from l.is_tree),
    subst (λ (x : Trie). Lists x t.from [] found) same (subst (λ (r : ℕ). Lists (source_trie s) r [] found) from l.listed),
  )

  pub fault_there : (e : Error) → ErrorMeets (fault_in s) e → ErrorMeets (ExportsFault t libs) e
  fault_there e occurs = ErrorMeets-in (fault_in s) (ExportsFault t libs) e
      (λ f k. subst (λ (x : Trie). TrieFault x t.from f) same (subst (λ (r : ℕ). TrieFault (source_trie s) r f) from k)) occurs

  pub end_there : (found : List Entry) (e : Error) → ErrorMeets (IsEndOfWalk (source_trie s) s.from found) e
      → ErrorMeets (ExportsEnd t libs found) e
  end_there found e occurs = ErrorMeets-in (IsEndOfWalk (source_trie s) s.from found) (ExportsEnd t libs found) e
      (λ f k. subst (λ (x : Trie). IsEndOfWalk x t.from found f) same (subst (λ (r : ℕ). IsEndOfWalk (source_trie s) r found f) from k)) occurs

  pub started_there : {found : List Entry} → ListBegins (source_trie s) s.from [] found → ListBegins (trie_there t libs) t.from [] found
  started_there {found} b =
      subst (λ (x : Trie). ListBegins x t.from [] found) same (subst (λ (r : ℕ). ListBegins (source_trie s) r [] found) from b)
