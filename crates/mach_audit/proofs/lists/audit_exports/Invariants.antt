use Rattle.std.proofs.Common.{◌≡◌, List, length}
use Rattle.mach_base.specs.Text.{texts}
use Rattle.mach_dyld.specs.Trie.{Entry}
use Rattle.mach_dyld.specs.Walks.{HasGiven, work_left}
use Rattle.goblin_mach.specs.OpenImage.{trie_view}
use Rattle.goblin_mach.specs.Subjects.{trie_or_empty}
use Rattle.mach_audit.specs.Reported.{HasMet, faults_from}
use Rattle.mach_audit.specs.declared.report.ItemList.TheVariants as lists
use Rattle.mach_audit.proofs.Goes.{entries_ok}
use Rattle.mach_audit.proofs.lists.audit_exports.Given as goal

abbrev pub invariant-exports : goal.invariant-exports
invariant-exports g l =
    (found : List Entry) × HasGiven (trie_or_empty (trie_view l.image)) (texts l.image.libs.items) found l.walk
    × HasMet l.fn.limit (faults_from lists.Exports 0 (entries_ok found)) l.tally × (length found ≡ l.index)

abbrev pub decreases-exports : goal.decreases-exports
decreases-exports g l = work_left l.walk
