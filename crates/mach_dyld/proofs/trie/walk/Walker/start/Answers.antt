use Rattle.mach_dyld.proofs.TrieNames.{◌∙◌, refl, ap, arith, replicate, reverse, false, inl, inr, cases_lt}
use Rattle.std.proofs.lemmas.Bool.{lt-leb, le-leb}
use Rattle.mach_dyld.proofs.WalkTurns.{starts, nothing_listed, all_left}
use Rattle.mach_dyld.proofs.Nowhere.{none_barren, no_room}
use Rattle.mach_dyld.proofs.trie.walk.Walker.start.Goals as goal

pub returns-clause-start : goal.returns-clause-start
returns-clause-start g c =
    let s = c.args.source.now in
    elim (cases_lt s.from s.upto) [
      | inl inside ↦ inl (
        lt-leb s.upto s.from inside,
        starts s inside _ _ _ _ (c.in_ok-new.ensures ∙ ap (λ n. replicate n false) c.saturating_sub-len.ensures) refl refl (ap reverse c.new-4.ensures.items),
        none_barren s _ c.new-2.ensures,
        no_room s _ c.new-2.ensures,
      )
      | inr out ↦ inr (le-leb s.upto s.from out, nothing_listed s out)
    ]

pub returns-clause-left : goal.returns-clause-left
returns-clause-left g c = let left = all_left _ c.in_ok-new.ensures in omega (arith, left, c.saturating_sub-len.ensures)
