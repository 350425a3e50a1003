use Rattle.std.proofs.Common.{◌/◌, ◌<◌, ◌≤◌, ◌*◌, ◌∙◌, List, Bool, true, length, set, ap, arith}
use Rattle.std.proofs.lemmas.List.{get_or_read}
use Rattle.mach_dyld.proofs.MarkBits.{length-marks_of, marked_at}
use Rattle.mach_dyld.proofs.trie.marks.Marks.mark.Goals as goal

pub index_mut-requires : goal.index_mut-requires
index_mut-requires g c =
    omega (arith, length-marks_of c.self.inside.words.items c.self.inside.len, ap length c.self.view_is, c.self.invariant, c.self.inside.words.ok.0)

pub returns : goal.returns
returns g c =
    let words = c.self.inside.words.items in
    let len = c.self.inside.len in
    let room : len ≤ 64 * length words = c.self.invariant in
    let within : c.args.at < len = omega (arith, length-marks_of words len, ap length c.self.view_is) in
    let read = get_or_read words (c.args.at / 64) _ (omega arith) c.index_mut.ensures.value 0 in
    marked_at words len c.args.at c.index_mut.result.now room within read ∙ ap (λ (ms : List Bool). set ms c.args.at true) c.self.view_is
