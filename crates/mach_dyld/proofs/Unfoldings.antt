-- What a reading of a trie has met is a prefix of its list, and all of it if nothing is ahead.
use Rattle.mach_dyld.proofs.TrieNames.{◌≡◌, ℕ, List, [], ◌∷◌, ◌++◌, ◌⊎◌, inl, inr, refl, sym, ap, subst, ◌∙◌, append_assoc, append-nil}
use Rattle.mach_dyld.proofs.TrieNames.{Branch, Trie, Entry, own_entries, Lists, BranchesList, a_node, nothing}
use Rattle.mach_dyld.proofs.TrieNames.{no_more, one_more, ListBegins, BranchesBegin, none_yet, node_started, no_further, one_started, one_whole}
use Rattle.mach_dyld.proofs.TrieNames.{Ahead, ahead, Unfolds, nothing_read, passed, node_read}

-- ---- lists

-- the lists of what is ahead, one after the other
abbrev pub ListsAhead : Trie → List Ahead → List Entry → Type 0
ListsAhead t [] es = es ≡ []
ListsAhead t (a ∷ others) es =
    (first : List Entry) × (rest : List Entry) × Lists t a.start a.name first × ListsAhead t others rest × (es ≡ first ++ rest)

-- those of a node's branches are those of its children
branches_list : (t : Trie) (prefix : List ℕ) (bs : List Branch) (others : List Ahead) (es : List Entry) → ListsAhead t (ahead prefix bs ++ others) es
    → (here : List Entry) × (rest : List Entry) × BranchesList t prefix bs here × ListsAhead t others rest × (es ≡ here ++ rest)
branches_list t prefix [] others es l = ([], es, no_more, l, refl)
branches_list t prefix (b ∷ bs) others es l =
    let more = branches_list t prefix bs others l.1 l.3 in (
      l.0 ++ more.0,
      more.1,
      one_more l.2 more.2 refl,
      more.3,
      l.4 ∙ (ap (λ (x : List Entry). l.0 ++ x) more.4 ∙ sym (append_assoc l.0 more.0 more.1)),
    )

pub lists_ahead : {t : Trie} {root n : ℕ} {found : List Entry} {left : List Ahead} → Unfolds t root n found left → (es : List Entry) → ListsAhead t left es
    → Lists t root [] (found ++ es)
lists_ahead {t} {root} nothing_read es l =
    subst (λ (x : List Entry). Lists t root [] x) (sym (l.4 ∙ (ap (λ (x : List Entry). l.0 ++ x) l.3 ∙ append-nil l.0))) l.2
lists_ahead (passed {next = next} before out) es l = lists_ahead before es ([], es, nothing out, l, refl)
lists_ahead {t} {root} {found = met} (node_read {found = found} {next = next} {others = others} node before is met_is left_is) es l =
    let split = branches_list t next.name node.branches others es (subst (λ (x : List Ahead). ListsAhead t x es) left_is l) in
    let own = own_entries next.name node.own in
    let whole = lists_ahead before (own ++ es)
    (own ++ split.0, split.1, a_node node is split.2 refl, split.3, ap (λ (x : List Entry). own ++ x) split.4 ∙ sym (append_assoc own split.0 split.1)) in
    subst (λ (x : List Entry). Lists t root [] x) (sym (append_assoc found own es) ∙ ap (λ (x : List Entry). x ++ es) (sym met_is)) whole

-- if nothing is ahead, all exports were met
pub all_met : {t : Trie} {root n : ℕ} {found : List Entry} → Unfolds t root n found [] → Lists t root [] found
all_met {t} {root} {n} {found} u = subst (λ (x : List Entry). Lists t root [] x) (append-nil found) (lists_ahead u [] refl)

-- ---- prefixes

-- a list is a prefix of itself
whole_branches : (t : Trie) (prefix : List ℕ) (bs : List Branch) (es : List Entry) → BranchesList t prefix bs es → BranchesBegin t prefix bs es
whole_branches t prefix [] es no_more = no_further
whole_branches t prefix (b ∷ bs) es (one_more {others = others} one rest e) = one_whole one (whole_branches t prefix bs others rest) e

pub whole_list : (t : Trie) (s : ℕ) (p : List ℕ) (xs : List Entry) → Lists t s p xs → ListBegins t s p xs
whole_list t s p [] (nothing out) = none_yet
whole_list t s p xs (a_node {others = others} node is all e) = node_started node is (whole_branches t p node.branches others all) e

-- a prefix of the lists of what is ahead
abbrev pub BegunAhead : Trie → List Ahead → List Entry → Type 0
BegunAhead t [] es = es ≡ []
BegunAhead t (a ∷ others) es = ListBegins t a.start a.name es
    ⊎ ((first : List Entry) × (rest : List Entry) × Lists t a.start a.name first × BegunAhead t others rest × (es ≡ first ++ rest))

branches_begin : (t : Trie) (prefix : List ℕ) (bs : List Branch) (others : List Ahead) (es : List Entry) → BegunAhead t (ahead prefix bs ++ others) es
    → BranchesBegin t prefix bs es
    ⊎ ((here : List Entry) × (rest : List Entry) × BranchesList t prefix bs here × BegunAhead t others rest × (es ≡ here ++ rest))
branches_begin t prefix [] others es l = inr ([], es, no_more, l, refl)
branches_begin t prefix (b ∷ bs) others es (inl part) = inl (one_started part)
branches_begin t prefix (b ∷ bs) others es (inr l) = elim (branches_begin t prefix bs others l.1 l.3) [
  | inl part ↦ inl (one_whole l.2 part l.4)
  | inr more ↦ inr (
    l.0 ++ more.0,
    more.1,
    one_more l.2 more.2 refl,
    more.3,
    l.4 ∙ (ap (λ (x : List Entry). l.0 ++ x) more.4 ∙ sym (append_assoc l.0 more.0 more.1)),
  )
]

begun_ahead : {t : Trie} {root n : ℕ} {found : List Entry} {left : List Ahead} → Unfolds t root n found left → (es : List Entry) → BegunAhead t left es
    → ListBegins t root [] (found ++ es)
begun_ahead nothing_read es (inl part) = part
begun_ahead {t} {root} nothing_read es (inr l) =
    subst (λ (x : List Entry). ListBegins t root [] x) (sym (l.4 ∙ (ap (λ (x : List Entry). l.0 ++ x) l.3 ∙ append-nil l.0))) (whole_list t root [] l.0 l.2)
begun_ahead (passed {next = next} before out) es l = begun_ahead before es (inr ([], es, nothing out, l, refl))
begun_ahead {t} {root} {found = met} (node_read {found = found} {next = next} {others = others} node before is met_is left_is) es l =
    let own = own_entries next.name node.own in
    let part : ListBegins t root [] (found ++ (own ++ es)) =
    elim (branches_begin t next.name node.branches others es (subst (λ (x : List Ahead). BegunAhead t x es) left_is l)) [
      | inl part ↦ begun_ahead before (own ++ es) (inl (node_started node is part refl))
      | inr split ↦ begun_ahead before (own ++ es) (inr (
        own ++ split.0,
        split.1,
        a_node node is split.2 refl,
        split.3,
        ap (λ (x : List Entry). own ++ x) split.4 ∙ sym (append_assoc own split.0 split.1),
      ))
    ] in
    subst (λ (x : List Entry). ListBegins t root [] x) (sym (append_assoc found own es) ∙ ap (λ (x : List Entry). x ++ es) (sym met_is)) part

none_begun : (t : Trie) (left : List Ahead) → BegunAhead t left []
none_begun t [] = refl
none_begun t (a ∷ others) = inl none_yet

pub met_begins : {t : Trie} {root n : ℕ} {found : List Entry} {left : List Ahead} → Unfolds t root n found left → ListBegins t root [] found
met_begins {t} {root} {n} {found} {left} u =
    subst (λ (x : List Entry). ListBegins t root [] x) (append-nil found) (begun_ahead u [] (none_begun t left))
