use Rattle.std.proofs.Common.{ℕ, List, Result, refl, subst}
use Rattle.std.specs.Prelude.{map}
use Rattle.mach_base.specs.Fault.{Fault}
use Rattle.mach_cli.specs.Listings.{CountsRows, reported_by}
use Rattle.mach_parts.specs.declared.segment.section.Section.{Section}
use Rattle.machinfo.specs.Segments.{section_object, without_data}
use Rattle.machinfo.proofs.Some.{some, some_more}
use Rattle.machinfo.proofs.segments.write_segment.Goals as goal

pub returns-clause-written : goal.returns-clause-written
returns-clause-written g c =
    let t = c.in_ok-reported.ensures in
    some_more (some _ c.in_ok-write.ensures.bytes) (some_more (some t.text t.written) (some _ c.in_ok-write-2.ensures.bytes))

pub returns-clause-status : goal.returns-clause-status
returns-clause-status g c =
    let counts = subst (λ (items : List (Result (Section × List ℕ) Fault)). CountsRows c.args.limit
    (map (reported_by section_object) (without_data items)) c.in_ok-reported.reported) c.of.ensures.left c.in_ok-reported.ensures.counts in
    record { whole = rw (counts.whole, c.of.ensures.past) refl; more = counts.more; rest = counts.rest }
