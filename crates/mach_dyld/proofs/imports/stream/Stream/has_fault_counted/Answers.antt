use Rattle.mach_dyld.proofs.BindNames.{◌≡◌, ◌∙◌, ◌<◌, sym, ap, arith, true, false, length, length-append, length-map, input_of, lazy_of, state_of}
use Rattle.mach_dyld.proofs.BindNames.{bind_of, items_left}
use Rattle.std.specs.Prelude.{not}
use Rattle.mach_dyld.specs.BindingFaults.{has_fault, still_made}
use Rattle.mach_dyld.specs.Machine.{next_read, strides}
use Rattle.mach_dyld.proofs.BindSteps.{error_of}
use Rattle.mach_dyld.proofs.BindingTurns.{fault-following, stops_items, length-strides}
use Rattle.mach_dyld.proofs.StreamStops.{at_instruction, left_at_end, after_end}
use Rattle.mach_dyld.proofs.imports.stream.Stream.has_fault_counted.Goals as goal

pub returns-in-Ok-false-clause-fault : goal.returns-in-Ok-false-clause-fault
returns-in-Ok-false-clause-fault g c =
    let u = g.M.BindRules.rules in
    let met = c.in-Ok-false.ensures in
    let none = (left_at_end u g.M.BindRules.reads c.arrive.new.self (met.end c.in-Ok-false.field-0-test)).0 in
    sym (c.instructions.invariant.fault ∙ ap has_fault (met.items ∙ none))

pub returns-in-Err-clause-fault : goal.returns-in-Err-clause-fault
returns-in-Err-clause-fault g c =
    let u = g.M.BindRules.rules in
    let it = c.arrive.new.self in
    let met = c.in-Err.ensures in
    let f = error_of u g.M.BindRules.reads (input_of it.source) (lazy_of it) (next_read u it) met.err.fault in
    let left = at_instruction u g.M.BindRules.reads it c.in-Err.field-0 f.0 met.err f.1 in
    sym (c.instructions.invariant.fault ∙ ap has_fault (met.items ∙ left))

pub returns-then-not-all_make-clause-fault : goal.returns-then-not-all_make-clause-fault
unfolding items_left
returns-then-not-all_make-clause-fault g c =
    let u = g.M.BindRules.rules in
    let it = c.arrive.new.self in
    let some : has_fault (still_made u it) ≡ true = c.all_make.ensures ∙ ap not c.if-not-all_make.true in
    let stops = stops_items u (input_of it.source) (lazy_of it) it.more (state_of it.state) c.in-Ok-true.ensures.on some in
    sym (c.instructions.invariant.fault ∙ ap has_fault c.in-Ok-true.ensures.items ∙ stops)

pub instructions-smaller : goal.instructions-smaller
instructions-smaller g c =
    let u = g.M.BindRules.rules in
    let it = c.arrive.new.self in
    let none : has_fault (still_made u it) ≡ false = c.all_make.ensures ∙ ap not c.if-not-all_make.false in
    let left = ap length (c.in-Ok-true.ensures.items ∙ c.pass.ensures.items none) in
    let parts = length-append (still_made u it) (items_left u c.pass.new.self) in
    let made =
    length-map (strides (bind_of it.state.settings) it.state.stride it.state.count) (λ d. u.makes (input_of it.source) d it.more)
    ∙ length-strides (bind_of it.state.settings) it.state.stride it.state.count in
    let some = c.in-Ok-true.ensures.there c.in-Ok-true.field-0-test in
    let less : length (items_left u c.pass.new.self) < length (items_left u c.instructions.stream) =
    omega (arith, left, parts, made, some) in
    less

pub instructions-preserved : goal.instructions-preserved
instructions-preserved g c =
    let u = g.M.BindRules.rules in
    let it = c.arrive.new.self in
    let met = c.in-Ok-true.ensures in
    let none : has_fault (still_made u it) ≡ false = c.all_make.ensures ∙ ap not c.if-not-all_make.false in
    let before = c.instructions.invariant.reads in
    let kept = c.instructions.invariant.kept in
    let reads = met.reads in
    let more = met.kept in
    let same = c.pass.ensures.reads in
    record {
      fault =
          c.instructions.invariant.fault ∙ ap has_fault (met.items ∙ c.pass.ensures.items none)
          ∙ fault-following (still_made u it) (items_left u c.pass.new.self) none;
      reads = omega (arith, before, reads, same);
      kept = omega (arith, kept, more);
    }

pub returns-clause-fault : goal.returns-clause-fault
returns-clause-fault g c =
    let u = g.M.BindRules.rules in
    sym (c.instructions.invariant.fault ∙ ap has_fault (after_end u g.M.BindRules.reads c.instructions.stream c.instructions-test.false).0)
