use Rattle.std.proofs.Common.{ℕ, List, Result, Ok, refl, subst, sym}
use Rattle.std.specs.Prelude.{codes, map}
use Rattle.mach_base.proofs.Written.{Appends-both}
use Rattle.mach_base.specs.Answer.{◌>>=◌}
use Rattle.mach_base.specs.Fault.{Fault}
use Rattle.mach_records.specs.declared.versions.BuildToolVersion.{BuildToolVersion}
use Rattle.mach_audit.specs.FactRows.{FactView, tool_fact}
use Rattle.machinfo.specs.Summary.{AreFactLines}
use Rattle.machinfo.proofs.summary.print_front.Goals as goal

pub returns : goal.returns
returns g c =
    let limit = c.args.limit in
    let uuids = c.in_ok-uuids.ensures in
    let platforms = c.in_ok-platforms.ensures in
    let tools = c.in_ok-tools.ensures in (
      _,
      record {
        uuids = uuids.0;
        uuids_whole = c.in_ok-uuids.uuids;
        are_uuids = subst (λ (facts : List FactView). AreFactLines (codes "uuid") limit (map (λ fact. Ok fact) facts) uuids.0 c.in_ok-uuids.uuids)
            c.of.ensures uuids.1;
        platforms = platforms.0;
        platforms_whole = c.in_ok-platforms.platforms;
        are_platforms = subst (λ (facts : List FactView). AreFactLines (codes "platform") limit (map (λ fact. Ok fact) facts) platforms.0
            c.in_ok-platforms.platforms) c.of-2.ensures platforms.1;
        tools = tools.0;
        tools_whole = c.in_ok-tools.tools;
        are_tools = subst (λ (items : List (Result (ℕ × BuildToolVersion) Fault)). AreFactLines (codes "tool: refused") limit
            (map (λ item. item >>= (λ found. Ok (tool_fact found.1))) items) tools.0 c.in_ok-tools.tools) c.build_tools.ensures tools.1;
        is_text = refl;
        is_whole = refl;
      },
      Appends-both _ _ _ _ _ c.in_ok-print_kind.ensures
          (Appends-both _ _ _ _ _ c.in_ok-print_image_name.ensures
          (Appends-both _ _ _ uuids.0 _ uuids.2
          (Appends-both _ _ _ platforms.0 _ platforms.2
          (Appends-both _ _ _ tools.0 _ tools.2 (Appends-both _ _ _ _ _ c.in_ok-print_flags.ensures
          (rw (sym c.base.ensures) c.in_ok-print_base.ensures)))))),
    )
