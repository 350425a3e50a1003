use Rattle.mach_dyld.proofs.TrieNames.{◌≤◌, ◌<◌, ℕ, List, inl, inr, length, set, get_or, subst, sym, ap, arith, cases_eq, get_or-set_same, get_or-set_other}
use Rattle.mach_dyld.proofs.trie.runs.Runs.raise.Goals as goal

pub returns-then-at-count-clause-kept : goal.returns-then-at-count-clause-kept
returns-then-at-count-clause-kept g c = λ place.
    let known : List ℕ = c.self.inside.known.items in
    let inside : c.args.place < length known = let len = c.len.ensures in let lt = c.if-place-len.true in omega (arith, len, lt) in
    elim (cases_eq place c.args.place) [
      | inl same ↦ subst (λ q. get_or c.args.self.now q 0 ≤ get_or (set known c.args.place c.min.result) q 0) (sym same)
          (subst (λ n. get_or c.args.self.now c.args.place 0 ≤ n) (sym (get_or-set_same known c.args.place c.min.result 0 inside))
          (let was = c.at.ensures.value in let small = c.at.ensures.small in let less = c.if-at-count.true in let min = c.min.ensures in
          omega (arith, was, small, less, min)))
      | inr other ↦ subst (λ n. get_or c.args.self.now place 0 ≤ n) (sym (get_or-set_other known c.args.place place c.min.result 0 other))
          (let is = ap (λ (x : List ℕ). get_or x place 0) c.self.view_is in omega (arith, is))
    ]
