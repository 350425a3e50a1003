-- What is ahead in open nodes, turn by turn: the same for a walk and for a cursor.
use Rattle.mach_dyld.proofs.TrieNames.{◌≡◌, ◌<◌, ◌≤◌, ◌+◌, ◌-◌, ℕ, suc, List, [], ◌∷◌, ◌++◌, Ok, true, refl, sym, ap, subst, ◌∙◌, inl, inr, arith, length, take}
use Rattle.mach_dyld.proofs.TrieNames.{cases_eq, map-append, append_assoc}
use Rattle.mach_dyld.proofs.TrieNames.{length-append, length-take, slice_get, Some, Branch, Node, Entry, own_entries, branch_at, branches_at}
use Rattle.mach_dyld.proofs.TrieNames.{trie_of, TrieRange, trie_there, IsNode, IsUtf8, IsUtf8-append}
use Rattle.mach_dyld.proofs.TrieNames.{Ahead, ahead, Unfolds, nothing_read, passed, node_read, AreAhead, IsReadSoFar, Open}
use Rattle.std.proofs.lemmas.List.{take-take, take_all, take-append-le}
use Rattle.mach_dyld.proofs.BranchAgain.{first_branch, next_left, no_branch}
use Rattle.mach_dyld.proofs.Starts.{labels_read}
use Rattle.mach_dyld.proofs.Nowhere.{all_passed}
use Rattle.mach_dyld.specs.Nowhere.{lead_nowhere}

-- ---- what is ahead

module _ (bytes : List ℕ) (from : ℕ) where
  -- with another name that has the same prefix
  renamed : (name name' : List ℕ) (o : Open) (os : List Open) (left : List Ahead) → take o.name_len name ≡ take o.name_len name' → o.name_len ≤ length name'
      → AreAhead bytes from name (o ∷ os) left → AreAhead bytes from name' (o ∷ os) left
  renamed name name' o os left same fits a = (
    a.0,
    a.1,
    a.2,
    fits,
    subst (λ (x : List ℕ). AreAhead bytes from x os a.1) same a.4,
    a.5 ∙ ap (λ (x : List ℕ). ahead x a.0 ++ a.1) same,
  )

  widened : (k : ℕ) (name : List ℕ) (os : List Open) (left : List Ahead) → AreAhead bytes from (take k name) os left → AreAhead bytes from name os left
  widened k name [] left a = a
  widened k name (o ∷ os) left a =
      let cut = length-take k name in
      let fits = a.3 in
      renamed (take k name) name o os left (take-take o.name_len k name (omega arith)) (omega arith) a

  -- nothing is ahead in a node without branches
  pub dropped : (name : List ℕ) (o : Open) (os : List Open) (left : List Ahead) → o.left ≡ 0 → AreAhead bytes from name (o ∷ os) left
      → AreAhead bytes from name os left
  dropped name o os left none a =
      let no = no_branch bytes from o.left o.place a.0 none a.2 in
      subst (λ (x : List Ahead). AreAhead bytes from name os x) (sym (a.5 ∙ ap (λ (bs : List Branch). ahead (take o.name_len name) bs ++ a.1) no))
      (widened o.name_len name os a.1 a.4)

  -- a node above others
  put_over : (name : List ℕ) (o : Open) (os : List Open) (branches : List Branch) (left : List Ahead) → o.name_len ≡ length name
      → branches_at bytes from o.left o.place ≡ Ok branches → AreAhead bytes from name os left
      → AreAhead bytes from name (o ∷ os) (ahead name branches ++ left)
  put_over name o os branches left len read a =
      let whole : take o.name_len name ≡ name = take_all o.name_len name (omega arith) in (
        branches,
        left,
        read,
        omega arith,
        subst (λ (x : List ℕ). AreAhead bytes from x os left) (sym whole) a,
        ap (λ (x : List ℕ). ahead x branches ++ left) (sym whole),
      )

  -- after a branch, with the name of its child
  module _ (name : List ℕ) (o : Open) (os : List Open) (left : List Ahead) (label given : List ℕ) (spelled : given ≡ take o.name_len name ++ label)
      (a : AreAhead bytes from name (o ∷ os) left) where
    pub given_len : length given ≡ o.name_len + length label
    given_len =
        let same = ap (λ (x : List ℕ). length x) spelled in
        let whole = length-append (take o.name_len name) label in
        let cut = length-take o.name_len name in
        let fits = a.3 in omega arith

    pub following : AreAhead bytes from given (o ∷ os) left
    following =
        let front = length-take o.name_len name in
        let fits = a.3 in
        let len = given_len in
        let same : take o.name_len given ≡ take o.name_len name =
        ap (λ (x : List ℕ). take o.name_len x) spelled ∙ take-append-le o.name_len (take o.name_len name) label (omega arith)
        ∙ take-take o.name_len o.name_len name (omega arith) in
        renamed name given o os left (sym same) (omega arith) a

    -- the child, above the node or instead of it
    pub opened : (c : Open) (os' : List Open) (branches : List Branch) → c.name_len ≡ length given → branches_at bytes from c.left c.place ≡ Ok branches
        → (0 < o.left → os' ≡ o ∷ os) → (o.left ≡ 0 → os' ≡ os) → AreAhead bytes from given (c ∷ os') (ahead given branches ++ left)
    opened c os' branches len read over in_place = put_over given c os' branches left len read (elim (cases_eq o.left 0) [
      | inl none ↦ rw (in_place none) (dropped given o os left none following)
      | inr some ↦ rw (over (omega arith)) following
    ])

-- ---- turns of a reading

-- the root, above nothing
pub root_ahead : (bytes : List ℕ) (from : ℕ) (name : List ℕ) (o : Open) (os : List Open) → o.left ≡ 0 → o.name_len ≡ 0 → os ≡ []
    → AreAhead bytes from name (o ∷ os) []
unfolding branches_at
root_ahead bytes from name o os none len bottom = rw (none, len, bottom) ([], [], refl, omega arith, refl, refl)

pub root_next : (t : TrieRange) (libs : List (List ℕ)) (name : List ℕ) (len : ℕ) → len ≡ 0
    → Unfolds (trie_there t libs) t.from 0 [] (record { name = take len name ++ []; start = t.from } ∷ [])
root_next t libs name len none = rw none nothing_read

abbrev pub root_read : (t : TrieRange) (libs : List (List ℕ)) (name : List ℕ) (o : Open) (os : List Open) → o.left ≡ 0 → o.name_len ≡ 0 → os ≡ []
    → IsReadSoFar t libs name (record { name = take o.name_len name ++ []; start = t.from } ∷ []) (o ∷ os) [] 0
root_read t libs name o os none len bottom = record {
  left = [];
  read = root_next t libs name o.name_len len;
  ahead = root_ahead t.bytes t.from name o os none len bottom;
}

pub split : (name : List ℕ) (all first others : List Branch) (left : List Ahead) → all ≡ first ++ others
    → ahead name first ++ (ahead name others ++ left) ≡ ahead name all ++ left
split name all first others left e = rw (e, map-append) (simp append_assoc)

module _ {t : TrieRange} {libs : List (List ℕ)} {name : List ℕ} {found : List Entry} {n : ℕ} {o : Open} {os : List Open} where
  -- at a branch
  module _ {x : Ahead} (k : IsReadSoFar t libs name (x ∷ []) (o ∷ os) found n) where
    -- nothing is skipped
    abbrev pub passes : t.upto ≤ x.start → IsReadSoFar t libs name [] (o ∷ os) found n
    passes out = record { left = k.left; read = passed k.read out; ahead = k.ahead }

    module _ (label : List ℕ) (spelled : x.name ≡ take o.name_len name ++ label) (node : Node) (is : IsNode (trie_there t libs) x.start node) where
      -- a node is read; some of its branches come next, and the others are kept
      abbrev pub enters : (first others : List Branch) → node.branches ≡ first ++ others → (c : Open) (os' : List Open) → c.name_len ≡ length x.name
          → branches_at t.bytes t.from c.left c.place ≡ Ok others → (0 < o.left → os' ≡ o ∷ os) → (o.left ≡ 0 → os' ≡ os)
          → IsReadSoFar t libs x.name (ahead x.name first) (c ∷ os') (found ++ own_entries x.name node.own) (suc n)
      enters first others all c os' len read over in_place = record {
        left = ahead x.name others ++ k.left;
        read = node_read node k.read is refl (split x.name node.branches first others k.left all);
        ahead = opened t.bytes t.from name o os k.left label x.name spelled k.ahead c os' others len read over in_place;
      }

      -- a node without branches
      abbrev pub enters_leaf : node.branches ≡ [] → IsReadSoFar t libs x.name [] (o ∷ os) (found ++ own_entries x.name node.own) (suc n)
      enters_leaf none = record {
        left = k.left;
        read = node_read node k.read is refl (split x.name node.branches [] [] k.left none);
        ahead = following t.bytes t.from name o os k.left label x.name spelled k.ahead;
      }

      -- a node whose branches all lead nowhere
      abbrev pub enters_barren : lead_nowhere t.upto node.branches ≡ true
          → IsReadSoFar t libs x.name [] (o ∷ os) (found ++ own_entries x.name node.own) (suc n)
      enters_barren none = record {
        left = k.left;
        read = all_passed x.name node.branches k.left none (node_read node k.read is refl refl);
        ahead = following t.bytes t.from name o os k.left label x.name spelled k.ahead;
      }

  -- between two branches
  module _ (k : IsReadSoFar t libs name [] (o ∷ os) found n) where
    -- no branch of the top is left
    abbrev pub closes : o.left ≡ 0 → IsReadSoFar t libs name [] os found n
    closes none = record { left = k.left; read = k.read; ahead = dropped t.bytes t.from name o os k.left none k.ahead }

    pub none_ahead : o.left ≡ 0 → os ≡ [] → k.left ≡ []
    none_ahead none bottom =
        subst (λ (os : List Open). AreAhead t.bytes t.from name os k.left) bottom (dropped t.bytes t.from name o os k.left none k.ahead)

    pub all_read : o.left ≡ 0 → os ≡ [] → Unfolds (trie_there t libs) t.from n found []
    all_read none bottom = subst (λ (x : List Ahead). Unfolds (trie_there t libs) t.from n found x) (none_ahead none bottom) k.read

    -- a branch of the top is left
    module _ (some : 0 < o.left) where
      pub is_readable : (x : Branch × ℕ) × (branch_at t.bytes t.from o.place ≡ Ok x)
      is_readable = first_branch t.bytes t.from o.left o.place k.ahead.0 some k.ahead.2

      module _ {b : Branch} {after : ℕ} (first : branch_at t.bytes t.from o.place ≡ Ok (b, after)) where
        pub next_then : (bs : List Branch) × (k.ahead.0 ≡ b ∷ bs) × (branches_at t.bytes t.from (o.left - 1) after ≡ Ok bs)
        next_then = next_left t.bytes t.from o.left o.place k.ahead.0 b after some k.ahead.2 first

        abbrev pub left_then : List Ahead
        left_then = ahead (take o.name_len name) next_then.0 ++ k.ahead.1

        pub left_is : k.left ≡ record { name = take o.name_len name ++ b.label; start = b.start } ∷ left_then
        left_is = k.ahead.5 ∙ ap (λ (bs : List Branch). ahead (take o.name_len name) bs ++ k.ahead.1) next_then.1

        abbrev pub goes_on : IsReadSoFar t libs name (record { name = take o.name_len name ++ b.label; start = b.start } ∷ [])
            (record { left = o.left - 1; place = after; name_len = o.name_len } ∷ os) found n
        goes_on = record {
          left = left_then;
          read = subst (λ (x : List Ahead). Unfolds (trie_there t libs) t.from n found x) left_is k.read;
          ahead = (next_then.0, k.ahead.1, next_then.2, k.ahead.3, k.ahead.4, refl);
        }

-- ---- names

-- the names of what is ahead in a trie of bytes are UTF-8
abbrev AreUtf8 : List Ahead → Type 0
AreUtf8 [] = Unit {0}
AreUtf8 (a ∷ others) = IsUtf8 a.name × AreUtf8 others

labels_utf8 : (name : List ℕ) (bs : List Branch) (left : List Ahead) → IsUtf8 name
    → ((k : ℕ) (b : Branch) → slice_get bs k ≡ Some b → IsUtf8 b.label) → AreUtf8 left → AreUtf8 (ahead name bs ++ left)
labels_utf8 name [] left front each more = more
labels_utf8 name (b ∷ bs) left front each more =
    (IsUtf8-append name b.label front (each 0 b refl), labels_utf8 name bs left front (λ k c e. each (suc k) c e) more)

are_utf8 : (bytes : List ℕ) (libs : List (List ℕ)) (from upto : ℕ) {root n : ℕ} {found : List Entry} {left : List Ahead}
    → Unfolds (trie_of bytes libs from upto) root n found left → AreUtf8 left
are_utf8 bytes libs from upto nothing_read = (([], (refl, refl)), tt)
are_utf8 bytes libs from upto (passed before out) = (are_utf8 bytes libs from upto before).1
are_utf8 bytes libs from upto (node_read {next = next} node before is met_is same) =
    let rest = are_utf8 bytes libs from upto before in
    subst AreUtf8 (sym same) (labels_utf8 next.name node.branches _ rest.0 (labels_read bytes libs from next.start node is.1) rest.1)

pub next_utf8 : {t : TrieRange} {libs : List (List ℕ)} {name : List ℕ} {next : Ahead} {os : List Open} {found : List Entry} {n : ℕ}
    → IsReadSoFar t libs name (next ∷ []) os found n → IsUtf8 next.name
next_utf8 {t} {libs} k = (are_utf8 t.bytes libs t.from t.upto k.read).0
