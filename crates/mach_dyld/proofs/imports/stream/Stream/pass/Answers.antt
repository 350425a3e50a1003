use Rattle.mach_dyld.proofs.BindNames.{Bool, ◌∙◌, ◌≡◌, ◌+◌, ◌-◌, refl, ap, arith, Bind, State, input_of, lazy_of, state_of, bind_of, items_left, opcodes_left}
use Rattle.mach_dyld.proofs.BindNames.{reads_of, items_of, after_strides, ◌++◌, sym}
use Rattle.mach_dyld.specs.BindingFaults.{first_made}
use Rattle.mach_dyld.proofs.BindingTurns.{pass_items, following_all}
use Rattle.mach_dyld.proofs.imports.stream.Stream.pass.Goals as goal

pub returns-clause-items : goal.returns-clause-items
unfolding items_left
returns-clause-items g c = λ none.
    let u = g.M.BindRules.rules in
    let it = c.args.self.now in
    let n = c.args.count in
    let s = state_of it.state in
    let there = c.requires.there in
    let parts : it.state.count ≡ it.state.count - n + n = omega (arith, there) in
    let b = c.advance.ensures.moved ∙ following_all (bind_of it.state.settings) it.state.stride n c.requires.some in
    let with_bind : Bool → Bind → State = λ l d. record {
      range = record { from = it.state.from; upto = it.state.upto; is_lazy = l };
      settings = d;
      count = it.state.count - n;
      stride = it.state.stride;
      place = it.state.place;
      ended = it.state.ended;
    } in
    let after = after_strides (bind_of it.state.settings) it.state.stride n in
    pass_items u (input_of it.source) (lazy_of it) it.more s n (it.state.count - n) parts c.requires.on none
    ∙ ap (λ t. first_made u it n ++ items_of u (input_of it.source) (lazy_of it) it.more t)
    (sym (ap (with_bind c.advance.new.self.is_lazy) b ∙ ap (λ l. with_bind l after) c.advance.ensures.same))

pub returns-clause-reads : goal.returns-clause-reads
unfolding opcodes_left reads_of
returns-clause-reads g c = rw c.advance.ensures.same refl
