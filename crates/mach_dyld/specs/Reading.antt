-- The state of a depth-first reading of an export trie: the paths to what was read and to what is ahead, and the open nodes.
-- Callers don't need it: they see what a walk or a cursor has returned.
use Rattle.std.specs.Prelude.{◌≡◌, ◌<◌, ◌≤◌, ◌+◌, ◌-◌, ◌++◌, ◌⊎◌, ℕ, suc, Bool, true, false, List, [], ◌∷◌, Ok, length, take, get_or, sum_by}
use Rattle.mach_base.specs.Among.{IsAmong}
use Rattle.mach_dyld.specs.Trie as trie
use Rattle.mach_dyld.specs.Trie.{Trie, Entry}
use Rattle.mach_dyld.specs.Nodes.{branches_at}
use Rattle.mach_dyld.specs.Paths.{Leads, Path, Before}
use Rattle.mach_dyld.specs.TrieRange.{TrieRange, trie_there}
use Rattle.mach_dyld.specs.Unfolds.{Ahead, ahead, Unfolds, AreReadOnce, WasRead}
use Rattle.mach_dyld.specs.Visits.{AreApart}
use Rattle.mach_dyld.specs.declared.trie.walk.Open.{Open}

-- ---- paths

-- each path leads to the branch ahead at its place in the list
abbrev pub AreLed : Trie → ℕ → List (List ℕ) → List Ahead → Type 0
AreLed t root [] [] = Unit {0}
AreLed t root (q ∷ qs) (a ∷ others) = Leads t q root a.start × AreLed t root qs others
AreLed t root _ _ = ⊥

-- the one path leaves the other, at a node of both, by an earlier branch
abbrev pub IsBeside : List ℕ → List ℕ → Type 0
IsBeside [] q = ⊥
IsBeside (x ∷ p) [] = ⊥
IsBeside (x ∷ p) (y ∷ q) = (x < y) ⊎ ((x ≡ y) × IsBeside p q)

abbrev pub AreBeside : List (List ℕ) → Type 0
AreBeside [] = Unit {0}
AreBeside (q ∷ qs) = ((r : List ℕ) → IsAmong r qs → IsBeside q r) × AreBeside qs

-- each comes after all that follow it in the list
abbrev pub AreLastFirst : List (List ℕ) → Type 0
AreLastFirst [] = Unit {0}
AreLastFirst (p ∷ ps) = ((q : List ℕ) → IsAmong q ps → Before q p) × AreLastFirst ps

-- it continues one of these
abbrev pub GoesOnFromOne : List (List ℕ) → List ℕ → Type 0
GoesOnFromOne qs p = (q : List ℕ) × (rest : List ℕ) × IsAmong q qs × (p ≡ q ++ rest)

-- The paths to the nodes that were read, the last first, and to what is ahead. Each path leads to a node that was read, or
-- continues one of those ahead.
pub record HasRead (t : Trie) (root : ℕ) (paths others : List (List ℕ)) (left : List Ahead) : Type 0 where
  pub lead : (p : List ℕ) → IsAmong p paths → Path t root p
  pub led : AreLed t root others left
  pub before : (p q : List ℕ) → IsAmong p paths → IsAmong q others → Before p q
  pub beside : AreBeside others
  pub last_first : AreLastFirst paths
  pub all : (p : List ℕ) → Path t root p → IsAmong p paths ⊎ GoesOnFromOne others p

-- ---- marks

-- these paths lead to different places, and those are the marked ones
pub record AreMarked (t : Trie) (root from : ℕ) (marks : List Bool) (paths : List (List ℕ)) : Type 0 where
  pub size : length marks ≡ t.upto - from
  pub apart : AreApart t root paths
  pub marked : (p : List ℕ) (at : ℕ) → IsAmong p paths → Leads t p root at → get_or marks (at - from) false ≡ true
  pub met : (o : ℕ) → get_or marks o false ≡ true → (p : List ℕ) × IsAmong p paths × Leads t p root (from + o)

-- This many nodes were read, none of them twice, and those are the marked ones.
pub record MarksThoseRead (t : Trie) (root : ℕ) (marks : List Bool) (nodes : ℕ) : Type 0 where
  pub once : AreReadOnce t root nodes
  pub marked : (start : ℕ) → WasRead t root nodes start → get_or marks (start - root) false ≡ true
  pub met : (o : ℕ) → get_or marks o false ≡ true → WasRead t root nodes (root + o)

-- ---- open nodes

-- Open nodes, the innermost first, with what is ahead in them. Their names are prefixes of this one.
abbrev pub AreAhead : List ℕ → ℕ → List ℕ → List Open → List Ahead → Type 0
AreAhead bytes from name [] left = left ≡ []
AreAhead bytes from name (o ∷ os) left =
    (branches : List trie.Branch) × (others : List Ahead) × (branches_at bytes from o.left o.place ≡ Ok branches) × (o.name_len ≤ length name)
    × AreAhead bytes from (take o.name_len name) os others × (left ≡ ahead (take o.name_len name) branches ++ others)

-- This many nodes were read and these exports met. These branches come next, and after them those of the open nodes.
pub record IsReadSoFar (t : TrieRange) (libs : List (List ℕ)) (name : List ℕ) (next : List Ahead) (os : List Open) (found : List Entry) (n : ℕ) : Type 0 where
  pub left : List Ahead
  pub read : Unfolds (trie_there t libs) t.from n found (next ++ left)
  pub ahead : AreAhead t.bytes t.from name os left

-- the number of branches left of open nodes, and the number of open nodes
abbrev pub branches_left : List Open → ℕ
branches_left os = sum_by (λ o. suc o.left) os
