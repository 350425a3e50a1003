use Rattle.std.proofs.Common.{Bool, false, List, ◌/◌, ◌%◌, ◌<◌, ◌≤◌, ◌*◌, ◌∙◌, length, get_or, sym, ap, eqb, arith}
use Rattle.std.proofs.lemmas.List.{get_or_read}
use Rattle.std.specs.Int.{bit_at}
use Rattle.mach_dyld.proofs.MarkBits.{length-marks_of, get_or-marks_of, bit_tested}
use Rattle.mach_dyld.proofs.trie.marks.Marks.is_marked.Goals as goal

pub index-requires : goal.index-requires
index-requires g c =
    omega (arith, length-marks_of c.self.inside.words.items c.self.inside.len, ap length c.self.view_is, c.self.invariant, c.self.inside.words.ok.0)

pub returns : goal.returns
returns g c =
    let words = c.self.inside.words.items in
    let len = c.self.inside.len in
    let room : len ≤ 64 * length words = c.self.invariant in
    let within : c.args.at < len = omega (arith, length-marks_of words len, ap length c.self.view_is) in
    let read = get_or_read words (c.args.at / 64) _ (omega arith) c.index.ensures 0 in
    bit_tested c.index.result.now (c.args.at % 64) (omega arith)
    ∙ ap (λ x. eqb (bit_at x (c.args.at % 64)) 1) read
    ∙ sym (get_or-marks_of words len c.args.at within)
    ∙ ap (λ (ms : List Bool). get_or ms c.args.at false) c.self.view_is
