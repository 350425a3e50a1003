use Rattle.std.proofs.Common.{◌+◌, refl}
use Rattle.std.specs.Prelude.{option_map}
use Rattle.mach_base.specs.Fault.{fault_of}
use Rattle.mach_audit.proofs.Goes.{goes_init, goes_on, goes_over, goes_cut, goes_small, next_number}
use Rattle.mach_audit.specs.Items.{faults_left}
use Rattle.mach_audit.proofs.lists.add_list.Goals as goal

pub items-init : goal.items-init
items-init g c = λ limit met has. goes_init limit c.args.list met (faults_left c.args.items) c.args.tally.now has

pub returns-then-not-branch : goal.returns-then-not-branch
returns-then-not-branch g c = record {
  reported = λ limit met has.
      let all = faults_left c.args.items in
      let n = c.items.index in
      let goes = goes_on limit c.args.list met all (faults_left c.items.items) (faults_left c.next_error.new.self) n (n + 1)
      (option_map fault_of c.in-Some.error) c.items.tally c.take.new.self (c.items.invariant limit met has) c.in-Some.ensures c.in_ok-take.ensures.met refl in
      goes_cut limit c.args.list met all (faults_left c.next_error.new.self) (n + 1) c.take.new.self goes
      (c.in_ok-take.ensures.over c.if-not-branch.true);
}

pub items-preserved : goal.items-preserved
items-preserved g c = λ limit met has.
    let all = faults_left c.args.items in
    let n = c.items.index in
    let m = c.saturating_add-index.result in
    let goes = c.items.invariant limit met has in
    let small = goes_small limit c.args.list met all (faults_left c.items.items) n c.items.tally goes (c.in_ok-take.ensures.on c.if-not-branch.false) in
    goes_on limit c.args.list met all (faults_left c.items.items) (faults_left c.next_error.new.self) n m (option_map fault_of c.in-Some.error)
    c.items.tally c.take.new.self goes c.in-Some.ensures c.in_ok-take.ensures.met (next_number n m small c.saturating_add-index.ensures)

pub returns : goal.returns
returns g c = record {
  reported = λ limit met has.
      goes_over limit c.args.list met (faults_left c.args.items) (faults_left c.items.items) c.items.index c.items.tally
      (c.items.invariant limit met has) c.in_default.ensures;
}
