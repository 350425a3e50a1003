use Rattle.mach_dyld.proofs.BindNames.{map, ◌∙◌, ap, true, false, pointer_size, BindRanges, Input, Range, State, input_in, texts, items_of, reads_of}
use Rattle.mach_dyld.proofs.BindNames.{items_left, opcodes_left}
use Rattle.mach_dyld.proofs.BindNames.{start_of, state_of}
use Rattle.mach_parts.specs.Segment.{segment_view}
use Rattle.mach_dyld.proofs.BindNames.{reader_by}
use Rattle.mach_dyld.specs.Sites.{Site, no_site, site_in, sites_of}
unfoldable use Rattle.mach_dyld.specs.Sites.{sites_left}
use Rattle.mach_dyld.proofs.imports.BindInterpreter.stream.Goals as goal

pub returns-clause-items : goal.returns-clause-items
unfolding items_left
returns-clause-items g c =
    let u = g.M.BindRules.rules in
    let x = input_in c.args.self.now (pointer_size c.args.ctx.container) (texts c.args.libs.now) (map segment_view c.args.segments.now) in
    let lazy : Range = record { from = c.self.inside.lazy_from; upto = c.self.inside.lazy_upto; is_lazy = true } in
    ap (λ (i : Input). items_of u i lazy c.first.result (state_of c.start.result)) c.source.ensures.input
    ∙ ap (λ m. items_of u x lazy m (state_of c.start.result)) c.first.ensures
    ∙ ap (λ (s : State). items_of u x lazy (u.first false) s) c.start.ensures.state
    ∙ ap (λ (r : BindRanges). items_of u x r.lazy (u.first false) (start_of r.non_lazy)) c.self.view_is

pub returns-clause-reads : goal.returns-clause-reads
unfolding opcodes_left
returns-clause-reads g c =
    let u = g.M.BindRules.rules in
    let x = input_in c.args.self.now (pointer_size c.args.ctx.container) (texts c.args.libs.now) (map segment_view c.args.segments.now) in
    let lazy : Range = record { from = c.self.inside.lazy_from; upto = c.self.inside.lazy_upto; is_lazy = true } in
    ap (λ (i : Input). reads_of u i lazy (state_of c.start.result)) c.source.ensures.input
    ∙ ap (λ (s : State). reads_of u x lazy s) c.start.ensures.state
    ∙ ap (λ (r : BindRanges). reads_of u x r.lazy (start_of r.non_lazy)) c.self.view_is

pub returns-clause-sites : goal.returns-clause-sites
unfolding sites_left
returns-clause-sites g c =
    let u = g.M.BindRules.rules in
    let x = input_in c.args.self.now (pointer_size c.args.ctx.container) (texts c.args.libs.now) (map segment_view c.args.segments.now) in
    let lazy : Range = record { from = c.self.inside.lazy_from; upto = c.self.inside.lazy_upto; is_lazy = true } in
    ap (λ (i : Input). sites_of (reader_by u i) lazy (site_in c.start.result.settings) (state_of c.start.result)) c.source.ensures.input
    ∙ ap (λ (n : Site). sites_of (reader_by u x) lazy n (state_of c.start.result)) c.start.ensures.site
    ∙ ap (λ (s : State). sites_of (reader_by u x) lazy no_site s) c.start.ensures.state
    ∙ ap (λ (r : BindRanges). sites_of (reader_by u x) r.lazy no_site (start_of r.non_lazy)) c.self.view_is
