use Rattle.std.proofs.Common.{◌≤◌, ◌+◌, ◌/◌, ◌%◌, ◌*◌, ◌∙◌, ℕ, List, min, replicate, ap, arith}
use Rattle.mach_dyld.specs.Marks.{marks_of}
use Rattle.mach_dyld.proofs.MarkBits.{none_marked}
use Rattle.mach_dyld.proofs.trie.marks.Marks.new.Goals as goal

pub returns : goal.returns
returns g c =
    let n = c.args.len / 64 + min 1 (c.args.len % 64) in
    let room : c.args.len ≤ 64 * n = omega arith in
    let filled = c.in_ok-words.ensures.items_if_clones_equal (λ y e. e) ∙ ap (λ (n : ℕ). replicate n 0) c.div_ceil.ensures in
    ap (λ (words : List ℕ). marks_of words c.args.len) filled ∙ none_marked n c.args.len room
