use Rattle.std.proofs.Common.{◌∙◌, ℕ, ap, refl, take}
use Rattle.std.proofs.lemmas.List.{take_min}
use Rattle.machinfo.proofs.SegmentStatus.{all_of_them, one_more}
use Rattle.machinfo.proofs.Some.{some, some_more}
use Rattle.machinfo.proofs.segments.write_segments.Goals as goal

pub segments-init : goal.segments-init
segments-init g c = (some _ c.in_ok-write.ensures.bytes, record { whole = refl; more = refl })

pub segments-preserved : goal.segments-preserved
segments-preserved g c =
    let limit = c.args.limit in
    let all = c.args.segments.now in
    let first = take c.min.result all in
    let same = ap (λ (n : ℕ). take n all) c.min.ensures ∙ take_min limit all in
    let next = c.in_ok-next.ensures in
    let after = c.then-reported.result in
    let joined = c.then-reported.ensures in (
      some_more c.segments.invariant.0 next.written,
      one_more limit all first same c.segments.segment-index _ c.segments-test.true c.segments.reported c.in_ok-next.next after next.status joined.0 joined.1
          joined.2 c.segments.invariant.1,
    )

pub returns-clause-written : goal.returns-clause-written
returns-clause-written g c = some_more c.segments.invariant.0 (some _ c.in_ok-write-2.ensures.bytes)

pub returns-clause-status : goal.returns-clause-status
returns-clause-status g c =
    let limit = c.args.limit in
    let all = c.args.segments.now in
    let same = ap (λ (n : ℕ). take n all) c.min.ensures ∙ take_min limit all in
    all_of_them limit all (take c.min.result all) same c.segments.segment-index c.segments-test.false c.segments.reported c.segments.invariant.1
