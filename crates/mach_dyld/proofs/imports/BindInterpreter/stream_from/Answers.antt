use Rattle.mach_dyld.proofs.BindNames.{map, ◌∙◌, ap, true, pointer_size, BindRanges, Input, Range, State, input_in, texts, items_of, items_left, state_of}
use Rattle.mach_parts.specs.Segment.{segment_view}
use Rattle.mach_dyld.specs.BindCursors.{state_in}
use Rattle.mach_dyld.proofs.BindNames.{reader_by}
use Rattle.mach_dyld.specs.SiteCursors.{site_view}
use Rattle.mach_dyld.specs.Sites.{Site, site_in, sites_of}
unfoldable use Rattle.mach_dyld.specs.Sites.{sites_left}
use Rattle.mach_dyld.proofs.imports.BindInterpreter.stream_from.Goals as goal

pub returns-clause-items : goal.returns-clause-items
unfolding items_left
returns-clause-items g c =
    let u = g.M.BindRules.rules in
    let m = c.args.more in
    let x = input_in c.args.self.now (pointer_size c.args.ctx.container) (texts c.args.libs.now) (map segment_view c.args.segments.now) in
    let lazy : Range = record { from = c.self.inside.lazy_from; upto = c.self.inside.lazy_upto; is_lazy = true } in
    ap (λ (i : Input). items_of u i lazy m (state_of c.at.result)) c.source.ensures.input
    ∙ ap (λ (s : State). items_of u x lazy m s) c.at.ensures.state
    ∙ ap (λ (r : BindRanges). items_of u x r.lazy m (state_in r.bytes c.args.cursor.now)) c.self.view_is

pub returns-clause-sites : goal.returns-clause-sites
unfolding sites_left
returns-clause-sites g c =
    let u = g.M.BindRules.rules in
    let k = c.args.cursor.now in
    let x = input_in c.args.self.now (pointer_size c.args.ctx.container) (texts c.args.libs.now) (map segment_view c.args.segments.now) in
    let lazy : Range = record { from = c.self.inside.lazy_from; upto = c.self.inside.lazy_upto; is_lazy = true } in
    ap (λ (i : Input). sites_of (reader_by u i) lazy (site_in c.at.result.settings) (state_of c.at.result)) c.source.ensures.input
    ∙ ap (λ (n : Site). sites_of (reader_by u x) lazy n (state_of c.at.result)) c.at.ensures.site
    ∙ ap (λ (s : State). sites_of (reader_by u x) lazy (site_view c.self.inside.bytes.now k) s) c.at.ensures.state
    ∙ ap (λ (r : BindRanges). sites_of (reader_by u x) r.lazy (site_view r.bytes k) (state_in r.bytes k)) c.self.view_is
