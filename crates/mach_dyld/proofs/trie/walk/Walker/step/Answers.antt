use Rattle.mach_dyld.proofs.TrieNames.{◌∙◌, refl, subst, arith, List, Entry, HasFound, HasListed, Source, append-nil}
use Rattle.std.proofs.Math.Logic.{∥∥₁_map}
use Rattle.mach_dyld.proofs.WalkTurns.{at_branch, at_end, refused_from}
use Rattle.mach_dyld.proofs.trie.walk.Walker.step.Goals as goal

pub turns-init : goal.turns-init
turns-init g c = record { found = λ found n f. (n, f, refl); sound = c.requires; source = refl; few = omega arith; counted = omega arith; less = omega arith }

pub take-requires : goal.take-requires
take-requires g c =
    ∥∥₁_map (c.turns.invariant.sound c.turns-test.true) (λ f. (f.0, f.1, at_branch c.turns.self f.2 c.turns-test.true))

pub turns-preserved : goal.turns-preserved
turns-preserved g c =
    let taken = rw c.in-Ok-None.field-0-is at c.in-Ok-None.ensures.found in
    record {
      found = λ found n f.
          let k = c.turns.invariant.found found n f in
          let t = taken found k.0 (at_branch c.turns.self k.1 c.turns-test.true) in
          (t.0, subst (λ (es : List Entry). HasFound es t.0 c.take.new.self) (append-nil found) t.1, omega (arith, t.2, k.2));
      sound = λ on. ∥∥₁_map (c.turns.invariant.sound c.turns-test.true) (λ f.
          let t = taken f.0 f.1 (at_branch c.turns.self f.2 c.turns-test.true) in
          (f.0, t.0, subst (λ (es : List Entry). HasFound es t.0 c.take.new.self) (append-nil f.0) t.1));
      source = c.in-Ok-None.ensures.source ∙ c.turns.invariant.source;
      few = omega (arith, c.in-Ok-None.ensures.few, c.turns.invariant.few);
      counted = omega (arith, c.in-Ok-None.ensures.counted, c.turns.invariant.counted);
      less = omega (arith, c.in-Ok-None.ensures.less);
    }

pub returns-in-Ok-Some-clause-walk : goal.returns-in-Ok-Some-clause-walk
returns-in-Ok-Some-clause-walk g c =
    let taken = rw c.in-Ok-Some.field-0-is at c.in-Ok-Some.ensures.found in
    λ on. ∥∥₁_map (c.turns.invariant.sound c.turns-test.true) (λ f.
    let t = taken f.0 f.1 (at_branch c.turns.self f.2 c.turns-test.true) in
    (_, t.0, t.1))

pub returns-in-Ok-Some-clause-found : goal.returns-in-Ok-Some-clause-found
returns-in-Ok-Some-clause-found g c =
    let taken = rw c.in-Ok-Some.field-0-is at c.in-Ok-Some.ensures.found in
    λ found n f.
    let k = c.turns.invariant.found found n f in
    let t = taken found k.0 (at_branch c.turns.self k.1 c.turns-test.true) in
    (t.0, t.1, omega (arith, t.2, k.2))

pub returns-in-Err-clause-found : goal.returns-in-Err-clause-found
returns-in-Err-clause-found g c = λ found n f.
    let k = c.turns.invariant.found found n f in
    refused_from c.turns.invariant.source (c.in-Err.ensures.refused found k.0 (at_branch c.turns.self k.1 c.turns-test.true)) k.2

pub returns-clause-found : goal.returns-clause-found
returns-clause-found g c = λ found n f.
    let k = c.turns.invariant.found found n f in
    (k.0, subst (λ (s : Source). HasListed s found k.0) c.turns.invariant.source (at_end c.turns.self k.1 c.turns-test.false), k.1, k.2)
