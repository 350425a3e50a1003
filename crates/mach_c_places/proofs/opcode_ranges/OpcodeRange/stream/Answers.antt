use Rattle.mach_dyld.proofs.BindNames.{ap, Input, items_left, items_of, reader_by, state_of}
use Rattle.mach_dyld.specs.Sites.{site_in, sites_of}
unfoldable use Rattle.mach_dyld.specs.Sites.{sites_left}
use Rattle.mach_dyld.specs.Cut.{cut_range}
use Rattle.mach_c_places.specs.Ranges.{range_view}
use Rattle.mach_c_places.proofs.opcode_ranges.OpcodeRange.stream.Goals as goal

pub returns-clause-items : goal.returns-clause-items
unfolding items_left
returns-clause-items g c =
    ap (λ (i : Input). items_of g.M.BindRules.rules i (cut_range (range_view c.args.self.now)) c.args.more (state_of c.args.state)) c.source.ensures.input

pub returns-clause-sites : goal.returns-clause-sites
unfolding sites_left
returns-clause-sites g c =
    ap (λ (i : Input). sites_of (reader_by g.M.BindRules.rules i) (cut_range (range_view c.args.self.now)) (site_in c.args.state.settings)
    (state_of c.args.state)) c.source.ensures.input
