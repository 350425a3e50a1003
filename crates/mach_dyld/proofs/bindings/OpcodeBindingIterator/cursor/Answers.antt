use Rattle.mach_dyld.proofs.BindNames.{◌∙◌, ap, sym, Input, Range, State, items_left, items_of, input_of, lazy_of}
use Rattle.mach_dyld.specs.BindCursors.{state_in, extra_in}
use Rattle.mach_dyld.specs.BindingsLeft.{binding_rules}
use Rattle.mach_dyld.specs.SiteCursors.{site_view}
use Rattle.mach_dyld.specs.Sites.{Site, sites_of}
unfoldable use Rattle.mach_dyld.specs.Sites.{sites_left}
use Rattle.mach_dyld.proofs.BindNames.{reader_by, state_of}
use Rattle.mach_dyld.proofs.bindings.OpcodeBindingIterator.cursor.Goals as goal

pub returns-clause-items : goal.returns-clause-items
unfolding items_left
returns-clause-items c = λ x lazy over.
    let it = c.args.self.now.stream in
    let k = c.cursor.result in
    ap (λ (i : Input). items_of binding_rules i lazy (extra_in k) (state_in i.bytes k)) (sym over.source)
    ∙ ap (λ (r : Range). items_of binding_rules (input_of it.source) r (extra_in k) (state_in it.source.bytes.now k)) (sym over.lazy_is)
    ∙ ap (λ m. items_of binding_rules (input_of it.source) (lazy_of it) m (state_in it.source.bytes.now k)) c.cursor.ensures.more
    ∙ ap (λ (s : State). items_of binding_rules (input_of it.source) (lazy_of it) it.more s) (c.cursor.ensures.state over.named)

pub returns-clause-sites : goal.returns-clause-sites
unfolding sites_left
returns-clause-sites c = λ x lazy over.
    let it = c.args.self.now.stream in
    let k = c.cursor.result in
    let reader = reader_by binding_rules (input_of it.source) in
    ap (λ (i : Input). sites_of (reader_by binding_rules i) lazy (site_view i.bytes k) (state_in i.bytes k)) (sym over.source)
    ∙ ap (λ (r : Range). sites_of reader r (site_view it.source.bytes.now k) (state_in it.source.bytes.now k)) (sym over.lazy_is)
    ∙ ap (λ (s : State). sites_of reader (lazy_of it) (site_view it.source.bytes.now k) s) (c.cursor.ensures.state over.named)
    ∙ ap (λ (n : Site). sites_of reader (lazy_of it) n (state_of it.state)) (c.cursor.ensures.site over.named)
