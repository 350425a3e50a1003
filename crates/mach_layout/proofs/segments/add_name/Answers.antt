use Rattle.std.proofs.Common.{sym, ap, ◌∙◌}
use Rattle.std.specs.Option.{option_copied}
use Rattle.std.proofs.lemmas.Map.Text.{btree_map_updates_str}
use Rattle.mach_layout.specs.NamesMet.{place_met}
use Rattle.mach_layout.proofs.Names.{added}
use Rattle.mach_layout.proofs.segments.add_name.Goals as goal

pub returns-clause-met : goal.returns-clause-met
returns-clause-met g c =
    let name = c.args.name.now in
    λ q. added (place_met c.args.met.now) (place_met c.insert.new.self) name c.args.place q (sym c.get.ensures.value ∙ ap option_copied c.in_default.is)
    (btree_map_updates_str name c.args.met.now c.insert.new.self _ c.in_ok-insert.ensures.updates q)
