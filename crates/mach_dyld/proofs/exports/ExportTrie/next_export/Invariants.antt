use Rattle.mach_dyld.proofs.TrieNames.{◌≡◌, ◌<◌, ◌≤◌, List, Entry, length, texts}
use Rattle.mach_dyld.specs.CursorState.{IsAsBefore, work_of}
use Rattle.mach_dyld.specs.Cursors.{HasGivenTo}
use Rattle.mach_dyld.proofs.exports.ExportTrie.next_export.Given as goal

abbrev pub invariant-turns : goal.invariant-turns
invariant-turns l = record {
  depth : l.cursor.phase ≤ 1 → l.cursor.depth ≤ length l.stack;
  name_len : length l.name ≡ length l.fn.name;
  stack_len : length l.stack ≡ length l.fn.stack;
  gives : (found : List Entry) → HasGivenTo l.self (texts l.libs) l.fn.cursor l.fn.name l.fn.stack found
      → HasGivenTo l.self (texts l.libs) l.cursor l.name l.stack found;
  stays : 1 < l.fn.cursor.phase → IsAsBefore l.fn.cursor l.cursor l.fn.name l.name l.fn.stack l.stack;
}

abbrev pub decreases-turns : goal.decreases-turns
decreases-turns l = work_of (length l.source.bytes.now) l.cursor l.stack
