use Rattle.std.proofs.Common.{◌≡◌, ◌+◌, [], ℕ, List, length}
use Rattle.mach_dyld.specs.Trie.{Entry}
use Rattle.mach_dyld.specs.TrieRange.{TrieRange}
use Rattle.mach_dyld.specs.Walks.{HasGiven, work_left}
use Rattle.machinfo.proofs.ExportRows.{GoesOver}
use Rattle.machinfo.proofs.export_rows.print_exports_of.Given as goal

abbrev pub invariant-exports : goal.invariant-exports
invariant-exports g l =
    (t : TrieRange) (libs : List (List ℕ)) → HasGiven t libs [] l.fn.walk → (found : List Entry) × HasGiven t libs found l.walk
    × GoesOver l.fn.form l.fn.base l.fn.limit found l.left l.is_first (g.O.Write.contents l.fn.out) (g.O.Write.contents l.out)
    × (l.left + length found ≡ l.fn.limit)

abbrev pub decreases-exports : goal.decreases-exports
decreases-exports g l = work_left l.walk
