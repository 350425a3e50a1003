use Rattle.std.proofs.Common.{◌≡◌, ◌++◌, ◌∷◌, [], Ok, map, arith}
use Rattle.std.proofs.lemmas.List.{map_push, length_push}
use Rattle.mach_load.specs.Command.{command_at}
use Rattle.goblin_mach.specs.Chain.{chain_end, IsBroken}
use Rattle.mach_load.specs.Variants.{command_of}
use Rattle.goblin_mach.proofs.Chains.{IsChain-push, chain_end-push}
use Rattle.goblin_mach.proofs.CommandAt.{offset_is}
use Rattle.goblin_mach.proofs.Exits.{exit_failed}
use Rattle.goblin_mach.proofs.commands.read_commands.Goals as goal

pub returns-in_err-push_next-clause-refused : goal.returns-in_err-push_next-clause-refused
returns-in_err-push_next-clause-refused g c =
    let front = map command_of c.loop.commands.items in
    exit_failed (IsBroken c.args.le c.args.bytes.now c.args.first c.args.count) _ _ c.from_residual.ensures.1
    (command_at c.args.le c.args.bytes.now c.loop.offset)
    (λ f fails. record {
      front = front;
      chain = c.loop.invariant.chain;
      fewer = omega (arith, c.loop.invariant.count);
      fault = rw (← c.loop.invariant.place) fails;
    }) c.in_err-push_next.ensures.refused

pub loop-preserved : goal.loop-preserved
loop-preserved g c =
    let pushed = c.in_ok-push_next.ensures.pushed in
    let command = pushed.command in
    let before = map command_of c.loop.commands.items in
    let items : map command_of c.push_next.new.commands.items ≡ before ++ command_of command ∷ [] =
    rw pushed.items (map_push command_of c.loop.commands.items command) in
    let here : command_at c.args.le c.args.bytes.now (chain_end c.args.first before) ≡ Ok (command_of command) = rw (← c.loop.invariant.place) pushed.there in
    let moved = pushed.moved in
    let at = offset_is c.args.le c.args.bytes.now (chain_end c.args.first before) (command_of command) here in
    let end = chain_end-push c.args.first before (command_of command) in
    rw items (record {
      chain = IsChain-push c.args.le c.args.bytes.now c.args.first before (command_of command) c.loop.invariant.chain here;
      count = omega (arith, length_push before (command_of command), c.loop.invariant.count);
      place = omega (arith, c.loop.invariant.place);
    })
