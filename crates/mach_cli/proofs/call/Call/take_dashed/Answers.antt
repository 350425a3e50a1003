use Rattle.std.proofs.Common.{◌∙◌, sym, ap, option_map}
use Rattle.mach_cli.specs.Calls.{call_view, joined_view}
use Rattle.mach_cli.proofs.Joined.{own_untaken}
use Rattle.mach_cli.proofs.call.Call.take_dashed.Goals as goal

pub returns-in-None-clause-untaken : goal.returns-in-None-clause-untaken
returns-in-None-clause-untaken g c =
    let none = sym c.joined.ensures ∙ ap (option_map joined_view) c.in-None.is in
    rw (← c.as_str-argument.ensures)
    (own_untaken g.O.OwnOptions.taken c.args.options c.as_str-argument.result.now (call_view c.args.self.now) c.take_own.result none c.take_own.ensures.untaken)
