use Rattle.mach_dyld.proofs.BindNames.{◌<◌, ◌≤◌, map, subst}
use Rattle.mach_parts.specs.Segment.{segment_view}
use Rattle.mach_dyld.specs.BindingFaults.{offset_at}
use Rattle.mach_dyld.proofs.BindingTurns.{no_segment, too_small, spot_inside, spot_outside}
use Rattle.mach_dyld.proofs.bindings.faults.all_lie.Goals as goal

pub returns-in_default-clause-no : goal.returns-in_default-clause-no
returns-in_default-clause-no c = λ _. (
  0,
  c.requires,
  no_segment c.args.pointer c.args.number (offset_at c.args.offset c.args.stride 0) (map segment_view c.args.segments.now) c.in_default.ensures.none,
)

pub returns-in_default-highest_offset-clause-no : goal.returns-in_default-highest_offset-clause-no
returns-in_default-highest_offset-clause-no c = λ _. (
  0,
  c.requires,
  too_small c.args.pointer c.args.number (map segment_view c.args.segments.now) (segment_view c.in-Some.segment.now) c.in-Some.ensures.some
      (offset_at c.args.offset c.args.stride 0) c.in_default-highest_offset.ensures.none,
)

pub returns-clause-yes : goal.returns-clause-yes
returns-clause-yes c = λ yes j lt.
    let known = c.in-Some-highest_offset.ensures in
    let at = offset_at c.args.offset c.args.stride j in
    spot_inside c.args.pointer c.args.number (map segment_view c.args.segments.now) (segment_view c.in-Some.segment.now) c.in-Some.ensures.some
    known.large known.small.1 known.small.2 at
    (subst (λ n. at ≤ n) known.some (c.none_above.ensures.yes yes j lt))

pub returns-clause-no : goal.returns-clause-no
returns-clause-no c = λ no.
    let known = c.in-Some-highest_offset.ensures in
    let found = c.none_above.ensures.no no in
    let at = offset_at c.args.offset c.args.stride found.0 in (
      found.0,
      found.1,
      spot_outside c.args.pointer c.args.number (map segment_view c.args.segments.now) (segment_view c.in-Some.segment.now) c.in-Some.ensures.some
          known.large known.small.1 known.small.2 at (subst (λ n. n < at) known.some found.2),
    )
