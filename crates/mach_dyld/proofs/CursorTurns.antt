-- The walk by a cursor, turn by turn.
use Rattle.mach_dyld.proofs.TrieNames.{◌≡◌, ◌<◌, ◌≤◌, ◌+◌, ◌-◌, ◌^◌, ℕ, suc, List, [], ◌∷◌, ◌++◌, length, take, reverse, reverse-append, ◌⊎◌, inl, inr, refl}
use Rattle.mach_dyld.proofs.TrieNames.{sym, ap, ◌∙◌}
use Rattle.mach_dyld.proofs.TrieNames.{arith, cases_eq, length-take, slice_get, Ok, Err, IsErr, Option, None, Some, Info, Branch, Node, Entry, own_entries}
use Rattle.mach_dyld.proofs.TrieNames.{Fault}
use Rattle.mach_dyld.proofs.TrieNames.{malformed, branch_at, node_at, branches_of, IsReadable, TrieRange, trie_there, Ahead, IsReadSoFar, IsCutBy, Open}
use Rattle.std.proofs.Common.{min}
use Rattle.std.proofs.lemmas.List.{take-take, take_more}
use Rattle.std.proofs.lemmas.Option.{get_or_from_slice_get, slice_get_within}
use Rattle.mach_dyld.specs.CursorState.{below, name_met_last, root, IsAtChild, HasCome, at_root, between, all_met, TurnGives, IsAsBefore, IsStopped, IsFull}
use Rattle.mach_dyld.specs.CursorState.{IsNextLabel}
use Rattle.mach_dyld.specs.Unfolds.{IsNextNode}
use Rattle.mach_dyld.specs.declared.trie.node.BranchRun.{BranchRun}
use Rattle.mach_dyld.specs.declared.trie.cursor.NextExport.{NextExport}
use Rattle.mach_dyld.specs.declared.trie.cursor.NextExport.TheVariants.{Export, End, Refused, NameTooLong, StackTooShort}
use Rattle.mach_dyld.specs.declared.trie.cursor.TrieCursor.{TrieCursor}
use Rattle.mach_dyld.proofs.BranchAgain.{no_branch}
use Rattle.mach_dyld.proofs.NamedPaths.{is_next}
use Rattle.mach_dyld.proofs.OpenNodes as nodes

-- the node below the top
one_below : (stack : List Open) (d : ℕ) (x : Open) → slice_get stack d ≡ Some x → reverse (take (d + 1) stack) ≡ x ∷ reverse (take d stack)
one_below stack d x there =
    ap reverse (take_more stack d x (slice_get_within stack d x there) ∙ ap (λ (y : Open). take d stack ++ y ∷ []) (get_or_from_slice_get stack d x x there))
    ∙ reverse-append (take d stack) (x ∷ [])

module _ {t : TrieRange} {libs : List (List ℕ)} where
  -- the same reading with equal parts
  moved : {name name' : List ℕ} {next : List Ahead} {os os' : List Open} {found : List Entry} {n : ℕ} → name' ≡ name → os' ≡ os
      → IsReadSoFar t libs name next os found n → IsReadSoFar t libs name' next os' found n
  moved a b k = rw (a, b) k

  -- at a branch
  module _ {c : TrieCursor} {name : List ℕ} {stack : List Open} {b : Branch} {rest : Open} {found : List Entry}
      (at : IsAtChild t libs c name stack b rest found) where
    short : rest.name_len ≤ c.name_len
    short = let fits = at.is_read.ahead.3 in let cut = length-take c.name_len name in omega arith

    -- the name of its child
    module _ (d : TrieCursor) (name' : List ℕ) (len : d.name_len ≡ rest.name_len + length b.label)
        (text : take (rest.name_len + length b.label) name' ≡ take rest.name_len name ++ b.label) where
      named : name_met_last d name' ≡ take rest.name_len (name_met_last c name) ++ b.label
      named = ap (λ (k : ℕ). take k name') len ∙ text
          ∙ ap (λ (x : List ℕ). x ++ b.label) (sym (take-take rest.name_len c.name_len name short))

      pub comes_next : d.node ≡ b.start → IsNextNode (trie_there t libs) t.from found (name_met_last d name') d.node
      comes_next there = rw (named, there) (is_next at.is_read.read)

    -- a branch to nothing is skipped
    pub passes : t.upto ≤ b.start → (d : TrieCursor) → d.phase ≡ 1 → d.visits_left ≡ c.visits_left → d.name_len ≡ c.name_len → d.depth ≡ c.depth
        → d.top ≡ rest → HasCome t libs d name stack found
    passes out d phase visits len depth top =
        let k = at.kept.name_len in let m = at.kept.depth in let v = at.kept.visits in
        between at.nodes phase (record { name_len = omega arith; depth = omega arith; visits = omega arith })
        (moved (ap (λ (k : ℕ). take k name) len) (rw (top, depth) refl) (nodes.passes at.is_read out))

    module _ (inside : b.start < t.upto) where
      cut : (f : Fault) → (node_at t.bytes libs t.from b.start ≡ Err f) ⊎ ((at.nodes ≡ t.upto - t.from) × (f ≡ malformed))
          → IsCutBy (trie_there t libs) t.from found f
      cut f why = record {
        nodes = at.nodes;
        next = record { name = take rest.name_len (name_met_last c name) ++ b.label; start = b.start };
        others = at.is_read.left;
        read = at.is_read.read;
        inside = inside;
        why = why;
      }

      pub cut_by_count : c.visits_left ≡ 0 → IsCutBy (trie_there t libs) t.from found malformed
      cut_by_count none = let v = at.kept.visits in cut malformed (inr (omega arith, refl))

      pub cut_by_node : (f : Fault) → node_at t.bytes libs t.from b.start ≡ Err f → IsCutBy (trie_there t libs) t.from found f
      cut_by_node f bad = cut f (inl bad)

      -- the node is entered
      module _ (d : TrieCursor) (name' : List ℕ) (stack' : List Open) (own : Option Info) (run : BranchRun)
          (there : node_at t.bytes libs t.from b.start ≡ Ok (record { own = own; branches = branches_of t.bytes t.from run }))
          (readable : IsReadable t.bytes t.from run)
          (fits : rest.name_len + length b.label ≤ length name) (long : length name' ≡ length name)
          (text : take (rest.name_len + length b.label) name' ≡ take rest.name_len name ++ b.label)
          (phase : d.phase ≡ 1) (visits : d.visits_left + 1 ≡ c.visits_left) (len : d.name_len ≡ rest.name_len + length b.label)
          (depth : d.depth ≤ length stack')
          (leaf : run.left ≡ 0 → (d.top ≡ rest) × (below d stack' ≡ below c stack))
          (opened : 0 < run.left → d.top ≡ record { left = run.left; place = run.place; name_len = rest.name_len + length b.label })
          (over : 0 < run.left → 0 < rest.left → below d stack' ≡ rest ∷ below c stack)
          (in_place : 0 < run.left → rest.left ≡ 0 → below d stack' ≡ below c stack) where
        abbrev node : Node
        node = record { own = own; branches = branches_of t.bytes t.from run }

        read : IsReadSoFar t libs (take rest.name_len (name_met_last c name) ++ b.label) [] (d.top ∷ below d stack')
            (found ++ own_entries (take rest.name_len (name_met_last c name) ++ b.label) own) (suc at.nodes)
        read = elim (cases_eq run.left 0) [
          | inl none ↦ (
              let l = leaf none in
              rw (l.0, l.1) (nodes.enters_leaf at.is_read b.label refl node (inside, there)
              (no_branch t.bytes t.from run.left run.place node.branches none readable)))
          | inr some ↦ rw (opened (omega arith)) (nodes.enters at.is_read b.label refl node (inside, there) [] node.branches refl
              (record { left = run.left; place = run.place; name_len = rest.name_len + length b.label }) (below d stack')
              (sym (nodes.given_len t.bytes t.from (name_met_last c name) rest (below c stack) at.is_read.left b.label _ refl at.is_read.ahead)) readable
              (over (omega arith))
              (in_place (omega arith)))
        ]

        pub enters : HasCome t libs d name' stack' (found ++ own_entries (name_met_last d name') own)
        enters =
            between (suc at.nodes) phase
            (record { name_len = omega (arith, len, long, fits); depth = depth; visits = let v = at.kept.visits in omega arith })
            (rw (named d name' len text) read)

  -- between two branches
  module _ {c : TrieCursor} {name : List ℕ} {stack : List Open} {found : List Entry} (on : c.phase ≡ 1) where
    -- no open node is left
    pub ends : c.top.left ≡ 0 → c.depth ≡ 0 → (d : TrieCursor) → d.phase ≡ 2 → HasCome t libs c name stack found
        → TurnGives t libs found (Some (End)) d name stack
    ends none bottom d over (at_root phase at) = absurd (omega arith)
    ends none bottom d over (between n phase kept k) =
        let all = nodes.all_read k none (ap (λ (k : ℕ). reverse (take k stack)) bottom) in
        (all_met n (omega arith) all, n, all)
    ends none bottom d over (all_met n phase read) = absurd (omega arith)

    -- the one below is on top
    pub falls : c.top.left ≡ 0 → (e : ℕ) (x : Open) → c.depth ≡ e + 1 → slice_get stack e ≡ Some x → (d : TrieCursor) → d.phase ≡ 1
        → d.visits_left ≡ c.visits_left → d.name_len ≡ c.name_len → d.depth ≡ e → d.top ≡ x → HasCome t libs c name stack found
        → HasCome t libs d name stack found
    falls none e x deep there d phase' visits len depth top (at_root phase at) = absurd (omega arith)
    falls none e x deep there d phase' visits len depth top (between n phase kept k) =
        let below_is : below c stack ≡ x ∷ reverse (take e stack) = ap (λ (k : ℕ). reverse (take k stack)) deep ∙ one_below stack e x there in
        let a = kept.name_len in let m = kept.depth in let v = kept.visits in
        between n phase' (record { name_len = omega arith; depth = omega arith; visits = omega arith })
        (moved (ap (λ (k : ℕ). take k name) len) (rw (top, depth) (sym below_is)) (nodes.closes k none))
    falls none e x deep there d phase' visits len depth top (all_met n phase read) = absurd (omega arith)

    -- the next branch
    pub at_next : (some : 0 < c.top.left) {b : Branch} {after : ℕ} → branch_at t.bytes t.from c.top.place ≡ Ok (b, after) → HasCome t libs c name stack found
        → IsAtChild t libs c name stack b (record { left = c.top.left - 1; place = after; name_len = c.top.name_len }) found
    at_next some first (at_root phase at) = absurd (omega arith)
    at_next some first (between n phase kept k) = record { nodes = n; kept = kept; is_read = nodes.goes_on k some first }
    at_next some first (all_met n phase read) = absurd (omega arith)

    -- the next branch can be read
    pub unreadable : (some : 0 < c.top.left) → IsErr (branch_at t.bytes t.from c.top.place) → HasCome t libs c name stack found → ⊥
    unreadable some err (at_root phase at) = omega arith
    unreadable some err (between n phase kept k) = let first = nodes.is_readable k some in let e = rw first.1 at err in cc
    unreadable some err (all_met n phase read) = omega arith

  -- at the root
  pub at_the_root : {c : TrieCursor} {name : List ℕ} {stack : List Open} {found : List Entry} → c.phase ≡ 0 → HasCome t libs c name stack found
      → IsAtChild t libs c name stack (root t) c.top found
  at_the_root e (at_root phase at) = at
  at_the_root e (between n phase kept k) = absurd (omega arith)
  at_the_root e (all_met n phase read) = absurd (omega arith)

-- a memory that is too short
module _ (bytes : List ℕ) (from : ℕ) where
  pub full_by : (c d : TrieCursor) (name name' label : List ℕ) (stack stack' : List Open) (given : Option NextExport) → IsNextLabel bytes from c label
      → (IsStopped given → IsAsBefore c d name name' stack stack')
      → ((n : ℕ) → given ≡ Some (NameTooLong n) → (n ≡ min (c.top.name_len + length label) (2 ^ 64 - 1)) × (length name < c.top.name_len + length label))
      → (given ≡ Some StackTooShort → length stack ≤ c.depth) → IsFull bytes from d name' stack' given
  full_by c d name name' label stack stack' None next stopped long full = tt
  full_by c d name name' label stack stack' (Some (Export info)) next stopped long full = tt
  full_by c d name name' label stack stack' (Some (End)) next stopped long full = tt
  full_by c d name name' label stack stack' (Some (Refused e)) next stopped long full = tt
  full_by c d name name' label stack stack' (Some (NameTooLong n)) next stopped long full =
      let b = stopped tt in
      let l = long n refl in
      rw (b.same_cursor, b.same_name) (label, next, l.0, l.1)
  full_by c d name name' label stack stack' (Some (StackTooShort)) next stopped long full =
      let b = stopped tt in rw (b.same_cursor, b.same_stack) (full refl)

  pub not_full : (d : TrieCursor) (name' : List ℕ) (stack' : List Open) (given : Option NextExport) → (IsStopped given → ⊥)
      → IsFull bytes from d name' stack' given
  not_full d name' stack' None none = tt
  not_full d name' stack' (Some (Export info)) none = tt
  not_full d name' stack' (Some (End)) none = tt
  not_full d name' stack' (Some (Refused e)) none = tt
  not_full d name' stack' (Some (NameTooLong n)) none = absurd (none tt)
  not_full d name' stack' (Some (StackTooShort)) none = absurd (none tt)
