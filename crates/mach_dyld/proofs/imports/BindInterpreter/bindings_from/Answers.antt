use Rattle.mach_dyld.proofs.BindNames.{map, ◌∙◌, ap, pointer_size, input_in, texts, items_of}
use Rattle.mach_parts.specs.Segment.{segment_view}
use Rattle.mach_dyld.specs.BindCursors.{state_in}
use Rattle.mach_dyld.specs.BindingsLeft.{binding_rules}
use Rattle.mach_dyld.proofs.imports.BindInterpreter.bindings_from.Goals as goal

pub returns-clause-items : goal.returns-clause-items
returns-clause-items c =
    let b = c.args.self.now in
    let x = input_in b (pointer_size c.args.ctx.container) (texts c.args.libs.now) (map segment_view c.args.segments.now) in
    c.stream_from.ensures.items ∙ ap (λ m. items_of binding_rules x b.lazy m (state_in b.bytes c.args.cursor.now)) c.extra.ensures

pub returns-clause-sites : goal.returns-clause-sites
returns-clause-sites c = c.stream_from.ensures.sites
