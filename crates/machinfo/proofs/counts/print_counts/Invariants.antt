use Rattle.std.proofs.Common.{ℕ, List, take}
use Rattle.std.specs.Io.KnownBytes.{Appends}
use Rattle.goblin_mach.specs.OpenImage.{IsLossyImage}
use Rattle.machinfo.specs.Counts.{AreCounts}
use Rattle.machinfo.proofs.counts.print_counts.Given as goal

abbrev pub invariant-words : goal.invariant-words
invariant-words g l =
    (bytes : List ℕ) → IsLossyImage bytes 0 l.image
    → (text : List ℕ) × AreCounts l.form l.limit bytes (take l.word-index l.words) text l.whole
    × Appends (g.O.Write.contents l.fn.out) (g.O.Write.contents l.out) text
