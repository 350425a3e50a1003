-- What a walk of an export trie returns, as callers see it.
use Rattle.std.specs.Prelude.{◌≡◌, ◌<◌, ◌≤◌, ◌+◌, ◌++◌, ◌∷◌, [], ℕ, true, List, Option, Some, None, Result, Ok, Err}
use Rattle.std.specs.Borrow.{Bor}
use Rattle.mach_base.specs.Answer.{ErrorMeets}
use Rattle.mach_base.specs.declared.error.Error.{Error}
use Rattle.mach_dyld.specs.Trie.{Entry, entry}
use Rattle.mach_dyld.specs.TrieRange.{TrieRange, trie_there, ListsExports, ExportsFault, ExportsEnd}
use Rattle.mach_dyld.specs.Exports.{info_of}
use Rattle.mach_dyld.specs.Views.{source_trie}
use Rattle.mach_dyld.specs.WalkState.{HasFound, unmarked, work_ahead, unvisited_by}
use Rattle.mach_dyld.specs.declared.export_info.ExportInfo.{ExportInfo}
use Rattle.mach_dyld.specs.declared.export_walk.ExportWalk.{ExportWalk}

-- the walk goes over the trie of this range, and has returned these exports
abbrev pub HasGiven : {A : Type 0} → TrieRange → List (List ℕ) → List Entry → ExportWalk A → Type 0
HasGiven t libs found w = (source_trie w.walker.source ≡ trie_there t libs) × (w.walker.source.from ≡ t.from) × (n : ℕ) × HasFound found n w.walker

-- it returns nothing more
abbrev pub GivesNoMore : {A : Type 0} → ExportWalk A → Type 0
GivesNoMore w = w.walker.over ≡ true

-- the work it has left, which each export reduces
abbrev pub work_left : {A : Type 0} → ExportWalk A → ℕ
work_left w = work_ahead w.walker

-- the number of nodes it may still visit
abbrev pub nodes_left : {A : Type 0} → ExportWalk A → ℕ
nodes_left w = unmarked w.walker.marks

-- what a result says of a trie whose walk had returned these exports: at the end they are its list, and an error is a fault of it
abbrev pub SaysOfTrie : {X : Type 0} → TrieRange → List (List ℕ) → List Entry → Option (Result X Error) → Type 0
SaysOfTrie t libs found None = ListsExports t libs found
SaysOfTrie t libs found (Some (Ok x)) = Unit {0}
SaysOfTrie t libs found (Some (Err e)) = ErrorMeets (ExportsFault t libs) e

-- an error is the fault for which a walk of the trie ends after these exports
abbrev pub SaysWhereItEnds : {X : Type 0} → TrieRange → List (List ℕ) → List Entry → Option (Result X Error) → Type 0
SaysWhereItEnds t libs found None = Unit {0}
SaysWhereItEnds t libs found (Some (Ok x)) = Unit {0}
SaysWhereItEnds t libs found (Some (Err e)) = ErrorMeets (ExportsEnd t libs found) e

-- how a walk continues after a result: it is over after an error and at the end; else it has returned one more export and
-- has less work left
abbrev pub GoesOn : {A : Type 0} → ExportWalk A → Option (Result (Bor (List ℕ) × ExportInfo) Error) → ExportWalk A → Type 0
GoesOn old None new = GivesNoMore new
GoesOn old (Some (Err e)) new = GivesNoMore new
GoesOn old (Some (Ok given)) new = (work_left new < work_left old)
    × ((t : TrieRange) (libs : List (List ℕ)) (found : List Entry) → HasGiven t libs found old
    → HasGiven t libs (found ++ entry given.0.now (info_of given.1) ∷ []) new)

-- The same, and the number of nodes that may still be visited falls by as much as a count of visits grew. An error may occur
-- between a mark and its visit.
abbrev pub GoesOnCounted : {A : Type 0} → ExportWalk A → Option (Result (Bor (List ℕ) × ExportInfo) Error) → ℕ → ℕ → ExportWalk A → Type 0
GoesOnCounted old given before after new = GoesOn old given new × (after + nodes_left new ≤ before + nodes_left old)
    × (before + nodes_left old ≤ after + nodes_left new + unvisited_by given)
