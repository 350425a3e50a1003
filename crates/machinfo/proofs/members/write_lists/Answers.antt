use Rattle.std.proofs.Common.{◌∙◌, ℕ, List, Bor, Result, Ok, refl, subst}
use Rattle.std.specs.Prelude.{map}
use Rattle.mach_base.specs.Answer.{◌>>=◌}
use Rattle.mach_base.specs.Fault.{Fault}
use Rattle.mach_base.specs.Text.{texts}
use Rattle.mach_records.specs.declared.versions.BuildToolVersion.{BuildToolVersion}
use Rattle.mach_parts.specs.Segment.{segment_view}
use Rattle.mach_parts.specs.declared.segment.Segment.{Segment}
use Rattle.goblin_mach.specs.Libraries.{LibraryView}
use Rattle.mach_audit.specs.FactRows.{FactView, library_fact, path_fact, tool_fact}
use Rattle.mach_cli.specs.Listings.{CountsRows}
use Rattle.machinfo.specs.FactTexts.{fact_objects}
use Rattle.machinfo.specs.SegmentStatus.{IsAfterSegments}
use Rattle.machinfo.proofs.Some.{some_more}
use Rattle.machinfo.proofs.members.write_lists.Goals as goal

pub returns-clause-written : goal.returns-clause-written
returns-clause-written g c =
    some_more c.in_ok-libraries.ensures.written
    (some_more c.in_ok-paths.ensures.written
    (some_more c.in_ok-platforms.ensures.written
    (some_more c.in_ok-segments.ensures.written (some_more c.in_ok-tools.ensures.written c.in_ok-uuids.ensures.written))))

pub returns-clause-status : goal.returns-clause-status
returns-clause-status g c =
    let limit = c.args.limit in
    let libraries = subst (λ (found : List LibraryView). CountsRows limit (fact_objects (map (λ library. Ok (library_fact library)) found))
    c.in_ok-libraries.libraries) c.libraries.ensures c.in_ok-libraries.ensures.status in
    let paths = subst (λ (found : List (Bor (List ℕ))). CountsRows limit (fact_objects (map (λ path. Ok (path_fact path)) (texts found)))
    c.in_ok-paths.paths) (c.iter.ensures.rest ∙ c.deref.ensures.value) c.in_ok-paths.ensures.status in
    let platforms = subst (λ (facts : List FactView). CountsRows limit (fact_objects (map (λ fact. Ok fact) facts)) c.in_ok-platforms.platforms)
    c.of.ensures c.in_ok-platforms.ensures.status in
    let segments = subst (λ (found : List Segment). IsAfterSegments limit (map segment_view found) c.in_ok-segments.segments)
    c.as_slice.ensures c.in_ok-segments.ensures.status in
    let tools = subst (λ (items : List (Result (ℕ × BuildToolVersion) Fault)). CountsRows limit
    (fact_objects (map (λ item. item >>= (λ found. Ok (tool_fact found.1))) items)) c.in_ok-tools.tools) c.build_tools.ensures
    c.in_ok-tools.ensures.status in
    let uuids = subst (λ (facts : List FactView). CountsRows limit (fact_objects (map (λ fact. Ok fact) facts)) c.in_ok-uuids.uuids)
    c.of-2.ensures c.in_ok-uuids.ensures.status in
    record {
      whole = rw (
        c.then.ensures.1,
        c.then-five.ensures.1,
        c.then-four.ensures.1,
        c.then-three.ensures.1,
        c.then-two.ensures.1,
        libraries.whole,
        paths.whole,
        platforms.whole,
        segments.whole,
        tools.whole,
        uuids.whole,
      ) refl;
      more = rw (
        c.then.ensures.2,
        c.then-five.ensures.2,
        c.then-four.ensures.2,
        c.then-three.ensures.2,
        c.then-two.ensures.2,
        libraries.more,
        paths.more,
        platforms.more,
        segments.more,
        tools.more,
        uuids.more,
      ) refl;
    }
