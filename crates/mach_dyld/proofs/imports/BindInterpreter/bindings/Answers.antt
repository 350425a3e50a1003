use Rattle.mach_dyld.proofs.BindNames.{map, pointer_size, input_in, texts}
use Rattle.mach_parts.specs.Segment.{segment_view}
use Rattle.mach_dyld.specs.Bindings.{bindings_in}
use Rattle.mach_dyld.specs.BindingsLeft.{binding_rules}
use Rattle.mach_dyld.specs.RowsMove.{binding_reads}
use Rattle.mach_dyld.proofs.BindingRun.{bindings_at_start}
use Rattle.mach_dyld.proofs.StreamStarts.{starts}
use Rattle.mach_dyld.proofs.BindNames.{reader_by, subst, sym}
use Rattle.mach_dyld.proofs.BindSites.{sites_at_start}
use Rattle.mach_dyld.specs.SiteCursors.{AreBindingSites}
use Rattle.mach_dyld.proofs.imports.BindInterpreter.bindings.Goals as goal

pub returns-clause-items : goal.returns-clause-items
returns-clause-items c =
    let b = c.args.self.now in
    let x = input_in b (pointer_size c.args.ctx.container) (texts c.args.libs.now) (map segment_view c.args.segments.now) in
    let s = starts binding_rules binding_reads x (bindings_in x) (bindings_at_start x) b.non_lazy b.lazy c.stream.ensures.order.0 c.stream.ensures.order.1 _ _
    c.stream.ensures.items c.stream.ensures.reads in
    (s.0, s.1, s.2)

pub returns-clause-sites : goal.returns-clause-sites
returns-clause-sites c =
    let b = c.args.self.now in
    let x = input_in b (pointer_size c.args.ctx.container) (texts c.args.libs.now) (map segment_view c.args.segments.now) in
    subst (AreBindingSites x b.non_lazy b.lazy) (sym c.stream.ensures.sites)
    (sites_at_start (reader_by binding_rules x) b.lazy b.non_lazy (λ r. binding_reads.moves r x.pointer x.bytes) c.stream.ensures.order.0)

pub returns-clause-reads : goal.returns-clause-reads
returns-clause-reads c =
    let b = c.args.self.now in
    let x = input_in b (pointer_size c.args.ctx.container) (texts c.args.libs.now) (map segment_view c.args.segments.now) in
    let s = starts binding_rules binding_reads x (bindings_in x) (bindings_at_start x) b.non_lazy b.lazy c.stream.ensures.order.0 c.stream.ensures.order.1 _ _
    c.stream.ensures.items c.stream.ensures.reads in
    (s.0, s.1, _, s.2, s.3)
