use Rattle.mach_dyld.proofs.BindNames.{◌≡◌, ◌∙◌, refl, ap, sym, arith, Bool, ℕ, Range, input_of, lazy_of, range_of, state_of, items_of, items_left}
use Rattle.mach_dyld.proofs.BindNames.{opcodes_left}
use Rattle.mach_dyld.proofs.BindSteps.{after_executed, still_unreadable}
use Rattle.mach_dyld.proofs.BindSites.{site_executed}
use Rattle.mach_dyld.proofs.BindNames.{reader_by}
unfoldable use Rattle.mach_dyld.specs.Sites.{sites_left}
use Rattle.mach_dyld.specs.Sites.{site_in}
use Rattle.mach_dyld.proofs.imports.stream.Stream.read.Goals as goal

pub returns-in_default-clause-err : goal.returns-in_default-clause-err
returns-in_default-clause-err g c =
    let it = c.args.self.now in
    let past = c.in_default.ensures.past in
    record {
      count = c.requires.count;
      on = c.requires.on;
      within = c.requires.within;
      fault = rw (g.M.BindRules.reads.bytes (range_of it.state) it.source.pointer it.source.bytes.now it.state.place _ c.in_default.ensures.value) refl;
      opcode = λ lt. absurd (omega (arith, past, lt));
    }

pub returns-in-Some-execute-clause-items : goal.returns-in-Some-execute-clause-items
unfolding items_left
returns-in-Some-execute-clause-items g c =
    let it = c.args.self.now in
    let u = g.M.BindRules.rules in
    let t = state_of c.execute.new.state in
    (after_executed u g.M.BindRules.reads (input_of it.source) (lazy_of it) it.more (state_of it.state) t
    c.requires.count c.requires.on c.requires.within c.in-Some.byte c.in-Some.ensures.value c.in-Some-execute.ensures.value).items
    ∙ ap (λ m. items_of u (input_of it.source) (lazy_of it) m t) (sym c.set.ensures)

pub returns-in-Some-execute-clause-left : goal.returns-in-Some-execute-clause-left
unfolding opcodes_left
returns-in-Some-execute-clause-left g c =
    let it = c.args.self.now in
    (after_executed g.M.BindRules.rules g.M.BindRules.reads (input_of it.source) (lazy_of it) it.more (state_of it.state) (state_of c.execute.new.state)
    c.requires.count c.requires.on c.requires.within c.in-Some.byte c.in-Some.ensures.value c.in-Some-execute.ensures.value).reads

abbrev the_range : ℕ → ℕ → Bool → Range
the_range from upto l = record { from = from; upto = upto; is_lazy = l }

range_is : (from from' upto upto' : ℕ) (l l' : Bool) → from' ≡ from → upto' ≡ upto → l' ≡ l → the_range from' upto' l' ≡ the_range from upto l
range_is from from' upto upto' l l' a b e = ap (λ n. the_range n upto' l') a ∙ ap (λ n. the_range from n l') b ∙ ap (the_range from upto) e

pub returns-in-None-clause-items : goal.returns-in-None-clause-items
unfolding items_left
returns-in-None-clause-items g c =
    let it = c.args.self.now in
    let same = c.in-None.ensures in
    still_unreadable g.M.BindRules.rules g.M.BindRules.reads (input_of it.source) (lazy_of it) it.more (state_of it.state) (state_of c.execute.new.state)
    c.requires.count c.requires.on c.requires.within it.more same.value same.count (same.ended ∙ c.requires.on) same.place
    (range_is _ _ _ _ _ _ same.from same.upto same.is_lazy)

pub returns-in-None-clause-err : goal.returns-in-None-clause-err
returns-in-None-clause-err g c =
    let it = c.args.self.now in
    let same = c.in-None.ensures in
    let on = c.requires.on in
    let within = c.requires.within in
    record {
      count = same.count;
      on = same.ended ∙ on;
      within = omega (arith, within, same.place, same.upto);
      fault = rw (same.place, same.from, same.upto, same.is_lazy) same.value;
      opcode = λ lt. rw same.place c.in-Some.ensures.value;
    }

pub returns-in-Some-execute-clause-sites : goal.returns-in-Some-execute-clause-sites
unfolding sites_left
returns-in-Some-execute-clause-sites g c =
    let it = c.args.self.now in
    let u = g.M.BindRules.rules in
    site_executed (reader_by u (input_of it.source)) (lazy_of it) (site_in it.state.settings) (state_of it.state) c.requires.count c.requires.on
    (g.M.BindRules.reads.moves (range_of it.state) it.source.pointer it.source.bytes.now) it.source.pointer (state_of c.execute.new.state)
    (site_in c.execute.new.state.settings) c.requires.within c.in-Some-execute.ensures.value c.in-Some-execute.ensures.site
