-- What a cursor has returned of the trie that it walks.
use Rattle.mach_dyld.proofs.TrieNames.{◌≡◌, ◌<◌, ◌≤◌, ◌-◌, length, Some, ℕ, List, [], ◌⊎◌, refl, ap, arith, inl, inr, malformed, Entry, ExportsFault}
use Rattle.mach_dyld.proofs.TrieNames.{ListBegins, TrieRange, ListsExports, trie_there, Unfolds, nothing_read, passed, Open}
use Rattle.mach_dyld.proofs.Starts.{starts_from}
use Rattle.mach_dyld.proofs.Readings.{reading, tree_or_twice, cut_occurs}
use Rattle.mach_dyld.proofs.OpenNodes as nodes
use Rattle.mach_dyld.proofs.Unfoldings as met
use Rattle.mach_dyld.specs.CursorState.{below, name_met_last, IsStopped, IsAsBefore, TurnGives, HasCome, at_root, between, all_met}
use Rattle.mach_dyld.specs.Cursors.{HasGivenTo, NextGives}
use Rattle.mach_dyld.specs.declared.trie.cursor.NextExport.{NextExport}
use Rattle.mach_dyld.specs.declared.trie.cursor.NextExport.TheVariants.{Export, End, Refused, NameTooLong, StackTooShort}
use Rattle.mach_dyld.specs.declared.trie.cursor.TrieCursor.{TrieCursor}

-- if all exports were met, the trie has that list, or a node is met twice
whole_or_not : (t : TrieRange) (libs : List (List ℕ)) {n : ℕ} {found : List Entry} → Unfolds (trie_there t libs) t.from n found []
    → ListsExports t libs found ⊎ ExportsFault t libs malformed
whole_or_not t libs read = elim (tree_or_twice (reading read)) [ inl tree ↦ inl (tree, met.all_met read) | inr fault ↦ inr fault ]

module _ {t : TrieRange} {libs : List (List ℕ)} {c : TrieCursor} {name : List ℕ} {stack : List Open} {found : List Entry} where
  -- what was returned is a prefix of the list
  pub begins_there : HasGivenTo t libs c name stack found → ListBegins (trie_there t libs) t.from [] found
  begins_there (at_root phase at) = met.met_begins at.is_read.read
  begins_there (between n phase kept k) = met.met_begins k.read
  begins_there (all_met n phase read) = met.met_begins read

  -- what a turn gives
  pub next_gives : (given : NextExport) {d : TrieCursor} {name' : List ℕ} {stack' : List Open} → HasCome t libs c name stack found
      → (IsStopped (Some given) → IsAsBefore c d name name' stack stack') → TurnGives t libs found (Some given) d name' stack'
      → NextGives t libs found given d name' stack'
  next_gives (Export info) come stopped gives = gives.0
  next_gives (End) come stopped gives = (gives.0, (gives.1, gives.2), whole_or_not t libs gives.2)
  next_gives (Refused e) come stopped gives = record { cut = gives; occurs = cut_occurs (starts_from t.bytes libs t.from t.upto) gives }
  next_gives (NameTooLong n) come stopped gives = let b = stopped tt in rw (b.same_cursor, b.same_name, b.same_stack) come
  next_gives (StackTooShort) come stopped gives = let b = stopped tt in rw (b.same_cursor, b.same_name, b.same_stack) come

  -- a cursor that is over
  pub over_gives : 1 < c.phase → HasCome t libs c name stack found → NextGives t libs found End c name stack
  over_gives over (at_root phase at) = absurd (omega arith)
  over_gives over (between n phase kept k) = absurd (omega arith)
  over_gives over (all_met n phase read) = (all_met n phase read, (n, read), whole_or_not t libs read)

  -- unless it is over, the open nodes are those of the stack
  pub too_deep : c.phase ≤ 1 → length stack < c.depth → HasCome t libs c name stack found → ⊥
  too_deep on deep (at_root phase at) = let k = at.kept.depth in omega arith
  too_deep on deep (between n phase kept k) = let k = kept.depth in omega arith
  too_deep on deep (all_met n phase read) = omega arith

  -- nor are more visits left than the range has places
  pub too_far : c.phase ≤ 1 → t.upto - t.from < c.visits_left → HasCome t libs c name stack found → ⊥
  too_far on far (at_root phase at) = let k = at.kept.visits in omega arith
  too_far on far (between n phase kept k) = let k = kept.visits in omega arith
  too_far on far (all_met n phase read) = omega arith

-- a cursor that was over follows no more branches
pub ended : {c d : TrieCursor} {name name' : List ℕ} {stack stack' : List Open} → d.phase ≤ 1 → 1 < c.phase → IsAsBefore c d name name' stack stack' → ⊥
ended on over before = let same = ap (λ (x : TrieCursor). x.phase) before.same_cursor in omega (arith, on, over, same)

-- a cursor that has returned nothing yet
module _ (t : TrieRange) (libs : List (List ℕ)) (c : TrieCursor) (name : List ℕ) (stack : List Open) where
  pub starts : t.from < t.upto → c.phase ≡ 0 → c.visits_left ≡ t.upto - t.from → c.name_len ≡ 0 → c.depth ≡ 0 → c.top.left ≡ 0 → c.top.name_len ≡ 0
      → HasCome t libs c name stack []
  starts inside phase visits len depth left top_len =
      at_root phase (record {
        nodes = 0;
        kept = record { name_len = omega arith; depth = omega arith; visits = omega arith };
        is_read = nodes.root_read t libs (name_met_last c name) c.top (below c stack) left top_len (rw depth refl);
      })

  pub starts_over : t.upto ≤ t.from → c.phase ≡ 2 → HasCome t libs c name stack []
  starts_over none phase = all_met 0 (omega arith) (passed nothing_read none)
