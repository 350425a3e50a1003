-- Branches that are passed, one after the other.
use Rattle.std.proofs.Common.{◌≡◌, ◌<◌, ◌≤◌, ◌-◌, ℕ, suc, List, [], ◌∷◌, ◌++◌, ◌⊎◌, inl, Result, Ok, Option, true, length, refl, sym, ap, subst, ◌∙◌, arith}
use Rattle.std.proofs.lemmas.List.{drop_all}
use Rattle.mach_base.specs.Fault.{Fault}
use Rattle.mach_dyld.specs.Trie.{Branch, Info, Trie}
use Rattle.mach_dyld.specs.Nowhere.{lead_nowhere}
use Rattle.mach_dyld.specs.Nodes.{branch_at, branches_at}
use Rattle.mach_dyld.specs.Views.{those_read}
use Rattle.mach_dyld.specs.Views.{branches_of, IsReadable}
use Rattle.mach_dyld.specs.Finds.{BranchesFind}
use Rattle.mach_dyld.specs.LookUpState.{Settles, FirstBranchLeads}
use Rattle.mach_dyld.specs.Views.{source_trie}
use Rattle.mach_dyld.specs.declared.trie.node.BranchRun.{BranchRun}
use Rattle.mach_dyld.specs.declared.trie.walk.Source.{Source}
use Rattle.mach_dyld.proofs.Nowhere.{both_nowhere}
use Rattle.mach_dyld.proofs.LookUpWays.{one_passed}
use Rattle.mach_dyld.proofs.BranchAgain.{first_branch, no_branch}
use Rattle.mach_dyld.proofs.BranchAgain.{next_left}
use Rattle.mach_dyld.proofs.TriePaths.{drop_head}

pub readable_as : (r : Result (List Branch) Fault) (bs : List Branch) → r ≡ Ok bs → (r ≡ Ok (those_read r)) × (those_read r ≡ bs)
readable_as r bs e = let same : those_read r ≡ bs = ap those_read e in (e ∙ ap Ok (sym same), same)

module _ (s : Source) (rest : List ℕ) (o : BranchRun) (readable : IsReadable s.bytes.now s.from o) where
  pub stops_empty : o.left ≡ 0 → FirstBranchLeads (source_trie s) rest (branches_of s.bytes.now s.from o)
  stops_empty none =
      let empty = no_branch s.bytes.now s.from o.left o.place (branches_of s.bytes.now s.from o) none readable in
      subst (FirstBranchLeads (source_trie s) rest) (sym empty) tt

  pub is_first : 0 < o.left → (found : Branch × ℕ) × (branch_at s.bytes.now s.from o.place ≡ Ok found)
  is_first some = first_branch s.bytes.now s.from o.left o.place (branches_of s.bytes.now s.from o) some readable

  module _ (some : 0 < o.left) (label : List ℕ) (start after : ℕ) (read : branch_at s.bytes.now s.from o.place ≡ Ok
      (record { label = label; start = start }, after)) where
    next : (bs : List Branch) × (branches_of s.bytes.now s.from o ≡ record { label = label; start = start } ∷ bs) × (branches_at s.bytes.now s.from
        (o.left - 1) after ≡ Ok bs)
    next = next_left s.bytes.now s.from o.left o.place (branches_of s.bytes.now s.from o) (record { label = label; start = start }) after some readable read

    pub stops_there : (start < s.upto) × (others : List ℕ) × (rest ≡ label ++ others) → FirstBranchLeads (source_trie s) rest (branches_of s.bytes.now s.from o)
    stops_there h = subst (FirstBranchLeads (source_trie s) rest) (sym next.1) h

    pub stopped_there : FirstBranchLeads (source_trie s) rest (branches_of s.bytes.now s.from o)
        → (start < s.upto) × (others : List ℕ) × (rest ≡ label ++ others)
    stopped_there h = subst (FirstBranchLeads (source_trie s) rest) next.1 h

    pub readable_next : IsReadable s.bytes.now s.from (record { left = o.left - 1; place = after })
    readable_next = (readable_as (branches_at s.bytes.now s.from (o.left - 1) after) next.0 next.2).0

    next_is : branches_of s.bytes.now s.from (record { left = o.left - 1; place = after }) ≡ next.0
    next_is = (readable_as (branches_at s.bytes.now s.from (o.left - 1) after) next.0 next.2).1

    pub settles_on : (all : List Branch) → Settles (source_trie s) rest all (branches_of s.bytes.now s.from o) → (s.upto ≤ start) ⊎
        ((others : List ℕ) → rest ≡ label ++ others → ⊥)
        → Settles (source_trie s) rest all (branches_of s.bytes.now s.from (record { left = o.left - 1; place = after }))
    settles_on all st h =
        let one = drop_head all st.number (record { label = label; start = start }) next.0 (sym st.dropped ∙ next.1) in
        record {
          number = suc st.number;
          dropped = next_is ∙ one.1;
          finds = λ found x. st.finds found (subst (λ (bs : List Branch). BranchesFind (source_trie s) rest bs found) (sym next.1)
              (one_passed (source_trie s) rest (record { label = label; start = start }) found next.0 h
              (subst (λ (bs : List Branch). BranchesFind (source_trie s) rest bs found) next_is x)));
        }

-- branches that lead nowhere are all passed
none_settles : (t : Trie) (rest : List ℕ) (bs : List Branch) → lead_nowhere t.upto bs ≡ true
    → (found : Option Info) → BranchesFind t rest [] found → BranchesFind t rest bs found
none_settles t rest [] none found x = x
none_settles t rest (b ∷ bs) none found x =
    let both = both_nowhere t.upto b bs none in one_passed t rest b found bs (inl both.0) (none_settles t rest bs both.1 found x)

module _ (s : Source) (place : ℕ) where
  no_branches : branches_of s.bytes.now s.from (record { left = 0; place = place }) ≡ []
  unfolding branches_at
  no_branches = refl

  pub none_readable : IsReadable s.bytes.now s.from (record { left = 0; place = place })
  unfolding branches_at
  none_readable = refl

  pub none_left_settles : (rest : List ℕ) (bs : List Branch) → lead_nowhere s.upto bs ≡ true
      → Settles (source_trie s) rest bs (branches_of s.bytes.now s.from (record { left = 0; place = place }))
  none_left_settles rest bs none = record {
    number = length bs;
    dropped = no_branches ∙ sym (drop_all (length bs) bs (omega arith));
    finds = λ found x. none_settles (source_trie s) rest bs none found (subst (λ (cs : List Branch). BranchesFind (source_trie s) rest cs found) no_branches x);
  }
