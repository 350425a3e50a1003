use Rattle.mach_dyld.proofs.BindNames.{◌∙◌, refl, sym, ap, arith, input_of, lazy_of, state_of, items_of, items_left, opcodes_left}
use Rattle.mach_dyld.proofs.BindSteps.{over}
use Rattle.mach_dyld.proofs.BindSites.{site_over}
use Rattle.mach_dyld.proofs.BindNames.{reader_by}
unfoldable use Rattle.mach_dyld.specs.Sites.{sites_left}
use Rattle.mach_dyld.specs.Sites.{Site, site_in, sites_of}
use Rattle.mach_dyld.proofs.imports.stream.Stream.go_over.Goals as goal

pub returns-clause-items : goal.returns-clause-items
unfolding items_left
returns-clause-items g c =
    let it = c.args.self.now in
    let u = g.M.BindRules.rules in
    (over u g.M.BindRules.reads (input_of it.source) (lazy_of it) it.more (state_of it.state) c.requires.count c.requires.on (state_of c.start-self.result)
    c.requires.non_lazy refl c.requires.past c.start-self.ensures.state).items
    ∙ ap (λ m. items_of u (input_of it.source) (lazy_of it) m (state_of c.start-self.result)) (sym c.first-self.ensures)

pub returns-clause-reads : goal.returns-clause-reads
unfolding opcodes_left
returns-clause-reads g c =
    let it = c.args.self.now in
    let left = over g.M.BindRules.rules g.M.BindRules.reads (input_of it.source) (lazy_of it) it.more (state_of it.state) c.requires.count c.requires.on
    (state_of c.start-self.result) c.requires.non_lazy refl c.requires.past c.start-self.ensures.state in
    omega (arith, left.reads)

pub returns-clause-sites : goal.returns-clause-sites
unfolding sites_left
returns-clause-sites g c =
    let it = c.args.self.now in
    let reader = reader_by g.M.BindRules.rules (input_of it.source) in
    let t = state_of c.start-self.result in
    site_over reader (lazy_of it) (site_in it.state.settings) (state_of it.state) c.requires.count c.requires.on t c.requires.non_lazy refl c.requires.past
    c.start-self.ensures.state
    ∙ ap (λ (n : Site). sites_of reader (lazy_of it) n t) (sym c.start-self.ensures.site)
