use Rattle.mach_dyld.proofs.TrieNames.{◌≡◌, ◌+◌, ℕ, zero, suc, true, List, refl, [], ◌∷◌, None, inl, lit<, Node, trie_of, Leads, met_again, ladder_of_40}
use Rattle.mach_dyld.proofs.Computing.{computing}
use Rattle.mach_dyld.proofs.TrieVisits.{is_closed, all_among, within_nodes}
use Rattle.mach_dyld.proofs.laws.rows.visits_of_ladder_of_40.Goals as goal

-- the starts of the nodes
abbrev tens : ℕ → ℕ → List ℕ
tens zero at = at ∷ []
tens (suc n) at = at ∷ tens n (at + 10)

closed : is_closed (trie_of ladder_of_40 [] 0 404) (tens 40 0) ≡ true
unfolding computing
closed = refl

abbrev root : Node
root = record { own = None; branches = record { label = 0x61 ∷ []; start = 10 } ∷ record { label = 0x62 ∷ []; start = 10 } ∷ [] }

one : Leads (trie_of ladder_of_40 [] 0 404) (0 ∷ []) 0 10
unfolding computing
one = (root, record { label = 0x61 ∷ []; start = 10 }, lit< tt, refl, refl, refl)

other : Leads (trie_of ladder_of_40 [] 0 404) (1 ∷ []) 0 10
unfolding computing
other = (root, record { label = 0x62 ∷ []; start = 10 }, lit< tt, refl, refl, refl)

pub returns-clause-fault : goal.returns-clause-fault
returns-clause-fault g c = met_again (0 ∷ []) (1 ∷ []) 10 one other (lit< tt) (λ e. cc)

pub returns-clause-visits : goal.returns-clause-visits
returns-clause-visits g c = λ old new answer visits.
    within_nodes (trie_of ladder_of_40 [] 0 404) 0 old new answer (tens 40 0) visits
    (λ path at l inside. all_among (trie_of ladder_of_40 [] 0 404) (tens 40 0) closed path 0 at (inl refl) l inside)
