use Rattle.std.proofs.Common.{arith, refl, ap}
use Rattle.mach_dyld.specs.TrieRange.{TrieRange}
use Rattle.mach_dyld.proofs.CursorTries.{starts, starts_over}
use Rattle.mach_dyld.proofs.exports.ExportTrie.cursor.Goals as goal
use Rattle.mach_dyld.proofs.exports.ExportTrie.cursor.Goals.{then-self, else-self}

pub returns : goal.returns
returns c = λ libs name stack.
    let from = ap (λ (t : TrieRange). t.from) c.self.view_is in
    let upto = ap (λ (t : TrieRange). t.upto) c.self.view_is in
    elim c.if-self.branch [
      | then-self w ↦ starts c.args.self.now libs _ name stack (omega arith) w.phase-is (omega (arith, c.saturating_sub.ensures)) refl refl refl refl
      | else-self w ↦ starts_over c.args.self.now libs _ name stack (omega arith) w.phase-is
    ]
