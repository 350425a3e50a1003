-- The state of a walk of the export trie: what it has read and marked, which nodes are open, and what it has listed so far.
-- Callers don't need it: they see what a walk has returned.
use Rattle.std.specs.Prelude.{◌≡◌, ◌<◌, ◌≤◌, ◌+◌, ◌-◌, ◌*◌, ℕ, Bool, true, false, List, [], ◌∷◌, ◌++◌, ◌⊎◌, Option, Some, None, Result, Ok, Err}
use Rattle.std.specs.Prelude.{length, reverse, take, sum_by, if◌then◌else◌}
use Rattle.mach_base.specs.Answer.{ErrorMeets}
use Rattle.mach_base.specs.Text.{texts}
use Rattle.mach_base.specs.declared.error.Error.{Error}
use Rattle.mach_dyld.specs.Trie.{Entry, entry}
use Rattle.mach_dyld.specs.Lists.{Lists}
use Rattle.mach_dyld.specs.Paths.{IsTree}
use Rattle.mach_dyld.specs.Visits.{Visits}
use Rattle.mach_dyld.specs.Unfolds.{Ahead, IsEndOfWalk}
use Rattle.mach_dyld.specs.Reading.{HasRead, AreMarked, MarksThoseRead, IsReadSoFar, branches_left}
use Rattle.mach_dyld.specs.Nowhere.{AreBarren, HaveRoom}
use Rattle.mach_dyld.specs.Exports.{info_of}
use Rattle.mach_dyld.specs.Views.{trie_range_of, source_trie, fault_in}
use Rattle.mach_dyld.specs.declared.export_info.ExportInfo.{ExportInfo}
use Rattle.mach_dyld.specs.declared.trie.walk.Source.{Source}
use Rattle.mach_dyld.specs.declared.trie.walk.Open.{Open}
use Rattle.mach_dyld.specs.declared.trie.walk.Walker.{Walker}

-- each has branches left
abbrev pub HaveMore : List Open → Type 0
HaveMore [] = Unit {0}
HaveMore (o ∷ os) = (0 < o.left) × HaveMore os

-- n nodes were visited and these exports found, these branches come next, and a node is open above others
pub record Holds (s : Source) (name : List ℕ) (marks : List Bool) (next : List Ahead) (o : Open) (os : List Open) (found : List Entry) (n : ℕ) : Type 0 where
  pub is_read : IsReadSoFar (trie_range_of s) (texts s.libs.now) name next (o ∷ os) found n
  pub paths : List (List ℕ)
  pub others : List (List ℕ)
  pub count : n ≡ length paths
  pub met : HasRead (source_trie s) s.from paths others (next ++ is_read.left)
  pub marked : AreMarked (source_trie s) s.from s.from marks paths
  pub known : MarksThoseRead (source_trie s) s.from marks n
  pub more : HaveMore os

-- all is listed
pub record HasListed (s : Source) (found : List Entry) (n : ℕ) : Type 0 where
  pub is_tree : IsTree (source_trie s) s.from
  pub listed : Lists (source_trie s) s.from [] found
  pub visits : Visits {X = ℕ} {E = ℕ} (source_trie s) s.from 0 n (Ok 0)
  pub few_exports : length found ≤ s.upto - s.from
  pub few_visits : n ≤ s.upto - s.from

-- ---- the state of a walk that has found these exports in n visits

-- the next branch
abbrev pub next_branch : {A : Type 0} → Walker A → Ahead
next_branch w = record { name = take w.top.name_len w.name.items ++ w.next.label.now; start = w.next.start }

abbrev pub IsAtBranch : {A : Type 0} → List Entry → ℕ → Walker A → Type 0
IsAtBranch found n w = (w.over ≡ false) × Holds w.source w.name.items w.marks (next_branch w ∷ []) w.top (reverse w.stack.items) found n
    × AreBarren w.source w.barren × HaveRoom w.source w.barren

-- between two branches
abbrev pub IsBetween : {A : Type 0} → List Entry → ℕ → Walker A → Type 0
IsBetween found n w = (w.over ≡ false) × Holds w.source w.name.items w.marks [] w.top (reverse w.stack.items) found n
    × AreBarren w.source w.barren × HaveRoom w.source w.barren

abbrev pub HasFound : {A : Type 0} → List Entry → ℕ → Walker A → Type 0
HasFound found n w = IsAtBranch found n w ⊎ ((w.over ≡ true) × HasListed w.source found n)

-- it is over, or has found some exports
abbrev pub IsWalk : {A : Type 0} → Walker A → Type 0
IsWalk w = w.over ≡ false → ∥ ((found : List Entry) × (n : ℕ) × HasFound found n w) ∥₁

-- why a walk that had found these exports in n visits fails, and how the count of visits grew
pub record IsRefusedWalk (s : Source) (found : List Entry) (n old new : ℕ) (e : Error) : Type 0 where
  pub fault : ErrorMeets (fault_in s) e
  pub ends : ErrorMeets (IsEndOfWalk (source_trie s) s.from found) e
  pub visited : ℕ
  pub visits : Visits {X = ℕ} {E = ℕ} (source_trie s) s.from 0 visited (Err 0)
  pub few_visits : visited ≤ s.upto - s.from
  pub count : new + n ≡ old + visited

-- what a step of a walk gives after these exports and n visits: the next export, an error, or, at the end, nothing
abbrev pub StepGives : {A : Type 0} → List Entry → ℕ → ℕ → ℕ → Source → Option (Result ExportInfo Error) → Walker A → Type 0
StepGives found n old new s None w = (m : ℕ) × HasListed s found m × HasFound found m w × (new + n ≡ old + m)
StepGives found n old new s (Some (Ok info)) w = (m : ℕ) × HasFound (found ++ entry w.name.items (info_of info) ∷ []) m w × (new + n ≡ old + m)
StepGives found n old new s (Some (Err e)) w = IsRefusedWalk s found n old new e

-- ---- the work left: marks to be set, and the branches of the open nodes

abbrev pub unmarked : List Bool → ℕ
unmarked marks = sum_by (λ b. if b then 0 else 1) marks

abbrev pub work : ℕ → List Bool → List Open → ℕ
work most marks os = (most + 2) * unmarked marks + branches_left os

abbrev pub work_ahead : {A : Type 0} → Walker A → ℕ
work_ahead w = if w.over then 0 else work (length w.source.bytes.now) w.marks (w.top ∷ reverse w.stack.items)

-- how many places may have been marked and not visited: an error may occur between the two
abbrev pub unvisited : {X : Type 0} → Result X Error → ℕ
unvisited (Ok x) = 0
unvisited (Err e) = 1

abbrev pub unvisited_by : {X : Type 0} → Option (Result X Error) → ℕ
unvisited_by None = 0
unvisited_by (Some item) = unvisited item
