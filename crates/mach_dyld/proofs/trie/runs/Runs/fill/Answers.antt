use Rattle.mach_dyld.proofs.TrieNames.{◌≡◌, ◌∙◌, ◌-◌, ◌+◌, refl, eqb-true, length-replicate, ℕ, List, [], length, replicate, ap, subst, sym, arith, take}
use Rattle.std.proofs.Math.Seq.{take-nil}
use Rattle.std.proofs.lemmas.List.{nil_from_length}
use Rattle.mach_dyld.specs.Tails.{IsTail}
use Rattle.mach_dyld.proofs.BarrenRuns.{tail_at_end, cleared, raised_barren}
use Rattle.mach_dyld.proofs.trie.runs.Runs.fill.Goals as goal

pub loop-done-init : goal.loop-done-init
loop-done-init g c =
    let s = c.args.source.now in
    let n : ℕ = length s.bytes.now in
    let no_len : c.self.inside.known.len ≡ 0 = eqb-true _ _ (sym c.is_empty.ensures ∙ c.if-not-is_empty.false) in
    let none : length c.self.inside.known.items ≡ 0 = omega (arith, no_len, c.self.inside.known.ok.0) in
    let cut : ◌≡◌ {A = List ℕ} (take n c.self.inside.known.items) [] = ap (take n) (nil_from_length c.self.inside.known.items none) ∙ take-nil n in
    let most : n - c.self.inside.known.len ≡ n = omega (arith, no_len) in
    let filled : c.resize.new.self.items ≡ replicate n 0 = rw (c.in_ok-resize.ensures.items, cut, most) refl in
    let all : n - 0 ≡ n = omega arith in
    record {
      tail = rw all (tail_at_end s);
      room = ap (λ (x : List ℕ). length x) filled ∙ length-replicate n 0;
      barren = cleared s c.resize.new.self.items n filled;
    }

pub loop-done-preserved : goal.loop-done-preserved
loop-done-preserved g c =
    let s = c.args.source.now in
    let following : length s.bytes.now - c.loop-done.done - 1 ≡ length s.bytes.now - (c.loop-done.done + 1) = omega arith in
    record {
      tail = subst (λ n. IsTail s n c.back-tail.result) following c.back-tail.ensures;
      room = c.raise.ensures.len ∙ c.loop-done.invariant.room;
      barren = raised_barren s c.loop-done.self c.raise.new.self _ _ c.loop-done.invariant.barren c.count_at-count.ensures c.raise.ensures.here
          c.raise.ensures.others;
    }
