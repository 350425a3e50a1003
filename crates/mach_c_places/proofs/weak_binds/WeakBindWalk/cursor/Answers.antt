use Rattle.mach_dyld.proofs.BindNames.{◌∙◌, ap, sym, Input, Range, State, items_left, items_of, input_of, lazy_of, reader_by, state_of}
use Rattle.mach_dyld.specs.BindCursors.{state_in}
use Rattle.mach_dyld.specs.SiteCursors.{site_view}
use Rattle.mach_dyld.specs.Sites.{Site, sites_of}
unfoldable use Rattle.mach_dyld.specs.Sites.{sites_left}
use Rattle.mach_dyld.specs.WeakBindsLeft.{weak_rules}
use Rattle.mach_dyld.specs.declared.weak_binds.WeakBindSettings.{WeakBindSettings}
use Rattle.mach_c_places.specs.WeakCursors.{weak_more_in}
use Rattle.mach_c_places.proofs.SameMore.{extra_same}
use Rattle.mach_c_places.proofs.weak_binds.WeakBindWalk.cursor.Goals as goal

pub returns-clause-items : goal.returns-clause-items
unfolding items_left
returns-clause-items c = λ x r over.
    let it = c.args.self.now.stream in
    let n = c.numbers_of in
    let k = n.result in
    let more = extra_same (weak_more_in k) it.more n.ensures.kind n.ensures.has_name n.ensures.has_segment n.ensures.other in
    ap (λ (i : Input). items_of weak_rules i r (weak_more_in k) (state_in i.bytes k)) (sym over.source)
    ∙ ap (λ (s : Range). items_of weak_rules (input_of it.source) s (weak_more_in k) (state_in it.source.bytes.now k)) (sym over.lazy_is)
    ∙ ap (λ (m : WeakBindSettings). items_of weak_rules (input_of it.source) (lazy_of it) m (state_in it.source.bytes.now k)) more
    ∙ ap (λ (s : State). items_of weak_rules (input_of it.source) (lazy_of it) it.more s) (n.ensures.state over.named)

pub returns-clause-sites : goal.returns-clause-sites
unfolding sites_left
returns-clause-sites c = λ x r over.
    let it = c.args.self.now.stream in
    let n = c.numbers_of in
    let k = n.result in
    let reader = reader_by weak_rules (input_of it.source) in
    ap (λ (i : Input). sites_of (reader_by weak_rules i) r (site_view i.bytes k) (state_in i.bytes k)) (sym over.source)
    ∙ ap (λ (s : Range). sites_of reader s (site_view it.source.bytes.now k) (state_in it.source.bytes.now k)) (sym over.lazy_is)
    ∙ ap (λ (s : State). sites_of reader (lazy_of it) (site_view it.source.bytes.now k) s) (n.ensures.state over.named)
    ∙ ap (λ (m : Site). sites_of reader (lazy_of it) m (state_of it.state)) (n.ensures.site over.named)
