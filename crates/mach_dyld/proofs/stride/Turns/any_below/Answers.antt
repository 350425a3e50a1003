use Rattle.std.proofs.Common.{◌<◌, ◌≤◌, arith, refl}
use Rattle.std.proofs.lemmas.Bool.{leb-true, le-leb}
use Rattle.mach_dyld.proofs.Rings.{at_first, one_round}
use Rattle.mach_dyld.proofs.stride.Turns.any_below.Goals as goal

pub returns-then-short-limit : goal.returns-then-short-limit
returns-then-short-limit c =
    let limit = c.args.limit in
    let short = c.shorter-short.ensures in
    let there = at_first c.shorter-short.result limit short.ring short.some c.if-short-limit.true in
    (λ _. c.rounds.invariant.same.0 ((short.same limit).0 there), λ _. refl)

pub returns-then-short-limit-2 : goal.returns-then-short-limit-2
returns-then-short-limit-2 c =
    let limit = c.args.limit in
    let short = c.shorter-short.result in
    let same = c.shorter-short.ensures.same limit in
    let last = c.last.ensures in
    let above : limit ≤ short.first = let test = c.if-short-limit.false in omega (arith, test) in
    let one = one_round short limit c.shorter-short.ensures.ring c.shorter-short.ensures.some above c.if-short-limit-2.true in (
      λ past. c.rounds.invariant.same.0 (same.0 (one.0 (let le = leb-true short.size c.last.result past in omega (arith, le, last)))),
      λ there. le-leb short.size c.last.result (let le = one.1 (same.1 (c.rounds.invariant.same.1 there)) in omega (arith, le, last)),
    )

pub rounds-preserved : goal.rounds-preserved
rounds-preserved c =
    let limit = c.args.limit in
    let short = c.shorter-short.result in
    let same = c.shorter-short.ensures.same limit in
    let above : limit ≤ short.first = let test = c.if-short-limit.false in omega (arith, test) in
    let small : limit < short.step = let test = c.if-short-limit-2.false in omega (arith, test) in
    let following = c.after_starts-turns.ensures.same limit above small in
    record {
      ring = c.after_starts-turns.ensures.ring;
      same = (λ h. c.rounds.invariant.same.0 (same.0 (following.0 h)), λ h. following.1 (same.1 (c.rounds.invariant.same.1 h)));
    }
