use Rattle.mach_dyld.proofs.TrieNames.{inl, inr, get_or, sym, arith, cases_eq, ap, ◌∙◌}
use Rattle.mach_base.specs.Text.{is_zero}
use Rattle.std.proofs.lemmas.Bool.{ne_eqb}
use Rattle.mach_dyld.proofs.BarrenRuns.{utf8_from, ok_is_utf8}
use Rattle.mach_dyld.proofs.trie.runs.Tail.back.Goals as goal

pub returns-then-is_ok : goal.returns-then-is_ok
returns-then-is_ok c =
    let h = c.requires.tail in
    let xs = c.args.source.now.bytes.now in
    let after = h.from_place in
    let ends = h.to_end in
    let good = ok_is_utf8 _ _ c.from_utf8.result (sym c.is_ok.ensures.value ∙ c.if-is_ok.true) c.from_utf8.ensures.cases in
    record {
      from_place = omega arith;
      to_end = omega (arith, after, ends);
      inside = h.inside;
      no_zero = λ k late early. elim (cases_eq k c.args.place) [
        | inl same ↦ ap (λ n. is_zero (get_or xs n 0)) same ∙ ne_eqb _ _ c.if-source-place-eq0.false
        | inr other ↦ h.no_zero k (omega (arith, late, other)) early
      ];
      zero = h.zero;
      utf8 = utf8_from xs c.args.place c.args.self.low c.args.self.end (omega (arith, after)) ends good h.utf8;
      there = h.there;
    }
