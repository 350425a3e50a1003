use Rattle.std.proofs.Common.{◌≡◌, ◌≤◌, length}
use Rattle.mach_base.specs.Text.{texts}
use Rattle.goblin_mach_c.proofs.ListedExports.{SoFar}
use Rattle.goblin_mach_c.proofs.exports.write_exports.Given as goal

abbrev pub invariant-loop-k : goal.invariant-loop-k
invariant-loop-k l = record {
  so_far : SoFar l.trie l.base (texts l.libs) l.fn.cursor l.cursor l.fn.name l.name l.fn.stack l.stack l.fn.out l.out l.fn.names l.names l.k l.used;
  fits : l.used ≤ length l.fn.names;
  name_len : length l.name ≡ length l.fn.name;
  names_len : length l.names ≡ length l.fn.names;
  stack_len : length l.stack ≡ length l.fn.stack;
  out_len : length l.out ≡ length l.fn.out;
}
