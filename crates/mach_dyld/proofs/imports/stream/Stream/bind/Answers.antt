use Rattle.mach_dyld.proofs.BindNames.{◌≡◌, Bool, suc, ◌-◌, ◌∙◌, refl, ap, arith, Bind, State, input_of, lazy_of, state_of, bind_of, moved, items_left}
use Rattle.mach_dyld.proofs.BindNames.{opcodes_left}
use Rattle.mach_dyld.proofs.BindNames.{reads_of, subst, sym, Ok}
use Rattle.mach_dyld.proofs.BindSteps.{after_bind}
use Rattle.mach_dyld.proofs.BindSites.{site_of_bind}
use Rattle.mach_dyld.proofs.BindNames.{reader_by, ◌∷◌, Range}
unfoldable use Rattle.mach_dyld.specs.Sites.{sites_left}
use Rattle.mach_dyld.specs.Sites.{Site, site_in, sites_of}
use Rattle.mach_dyld.proofs.imports.stream.Stream.bind.Goals as goal

pub returns-clause-items : goal.returns-clause-items
unfolding items_left
returns-clause-items g c =
    let it = c.args.self.now in
    let k : it.state.count ≡ suc (it.state.count - 1) = omega arith in
    let b = c.advance.ensures.moved in
    let same = c.advance.ensures.same in
    let with_bind : Bool → Bind → State = λ l n. record {
      range = record { from = it.state.from; upto = it.state.upto; is_lazy = l };
      settings = n;
      count = it.state.count - 1;
      stride = it.state.stride;
      place = it.state.place;
      ended = it.state.ended;
    } in
    after_bind g.M.BindRules.rules g.M.BindRules.reads (input_of it.source) (lazy_of it) it.more (state_of it.state) (it.state.count - 1) _ _ k c.requires.on
    c.in_ok-item.ensures (ap (with_bind c.advance.new.self.is_lazy) b ∙ ap (λ l. with_bind l (moved it.state.stride (bind_of it.state.settings))) same)

pub returns-clause-reads : goal.returns-clause-reads
unfolding opcodes_left reads_of
returns-clause-reads g c = rw c.advance.ensures.same refl

pub returns-clause-bound : goal.returns-clause-bound
unfolding moved
returns-clause-bound g c =
    let it = c.args.self.now in
    let offset = it.state.settings.offset in (
      offset,
      subst (λ (b : Bind). g.M.BindRules.rules.makes (input_of it.source) (record b { offset = offset }) it.more ≡ Ok (g.M.BindRules.seen c.in_ok-item.item))
          (sym c.advance.ensures.moved) c.in_ok-item.ensures,
    )

pub returns-clause-site : goal.returns-clause-site
unfolding sites_left
returns-clause-site g c =
    let it = c.args.self.now in
    let reader = reader_by g.M.BindRules.rules (input_of it.source) in
    let k : it.state.count ≡ suc (it.state.count - 1) = omega arith in
    let range : Bool → Range = λ l. record { from = it.state.from; upto = it.state.upto; is_lazy = l } in
    let t : State = record {
      range = range c.advance.new.self.is_lazy;
      settings = bind_of c.advance.new.self;
      count = it.state.count - 1;
      stride = it.state.stride;
      place = it.state.place;
      ended = it.state.ended;
    } in
    site_of_bind reader (lazy_of it) (site_in it.state.settings) (state_of it.state) (it.state.count - 1) t k c.requires.on c.requires.on refl
    (ap range c.advance.ensures.same) refl
    ∙ ap (λ (n : Site). n ∷ sites_of reader (lazy_of it) n t) (sym c.advance.ensures.site)
