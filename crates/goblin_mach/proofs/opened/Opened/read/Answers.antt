use Rattle.std.proofs.Common.{arith, map, inl, inr, refl}
use Rattle.mach_load.specs.Variants.{command_of}
use Rattle.goblin_mach.specs.EntryPoint.{EntryPointFault}
use Rattle.goblin_mach.specs.Image.{LossyFault, HasFront, HasWholeChain, broken_chain, unknown_thread, no_entry_point}
use Rattle.mach_parts.specs.Magic.{cputype_at}
use Rattle.goblin_mach.proofs.Exits.{exit_in}
use Rattle.goblin_mach.proofs.opened.Opened.read.Goals as goal

pub returns-in_err-load_commands-clause-refused : goal.returns-in_err-load_commands-clause-refused
returns-in_err-load_commands-clause-refused g c =
    let known = c.in_ok-ctx.ensures in
    let broken = rw (c.size_with.ensures, known.ncmds) at c.in_err-load_commands.ensures.refused in
    exit_in _ (LossyFault c.args.bytes.now c.args.offset) _ _ c.from_residual-in_err-load_commands.ensures.1
    (λ f b. broken_chain c.in_ok-ctx.ctx f known.found known.counts b) broken

pub returns-in_err-address-clause-refused : goal.returns-in_err-address-clause-refused
returns-in_err-address-clause-refused g c =
    let known = c.in_ok-ctx.ensures in
    let commands = c.in_ok-load_commands.ensures in
    let cs = map command_of c.in_ok-load_commands.load_commands.items in
    let ctx = c.in_ok-ctx.ctx in
    let chain = rw c.size_with.ensures at commands.chain in
    let front : HasFront c.args.bytes.now c.args.offset ctx cs =
    record { header = known.found; counts = known.counts; chain = chain; count = omega (arith, commands.count, known.ncmds) } in
    let whole : HasWholeChain c.args.bytes.now c.args.offset ctx cs =
    record { header = known.found; counts = known.counts; chain = record { chain = chain; count = omega (arith, commands.count, known.ncmds) } } in
    let fault = rw (c.deref.ensures.value, known.cputype) at c.in_err-address.ensures.refused in
    exit_in (EntryPointFault (cputype_at ctx c.args.bytes.now c.args.offset) cs) (LossyFault c.args.bytes.now c.args.offset) _ _
    c.from_residual-in_err-address.ensures.1 (λ f e. elim e
    [ inl thread ↦ unknown_thread ctx cs f front thread | inr none ↦ no_entry_point ctx cs f whole none ]) fault

pub returns-clause-opened : goal.returns-clause-opened
returns-clause-opened g c =
    let known = c.in_ok-ctx.ensures in
    let commands = c.in_ok-load_commands.ensures in
    let begins = rw (c.deref.ensures.value, known.cputype) at c.in_ok-address.ensures.found in
    record {
      header = known.found;
      counts = known.counts;
      chain = record { chain = rw c.size_with.ensures at commands.chain; count = omega (arith, commands.count, known.ncmds) };
      threads = rw (c.deref.ensures.value, known.cputype) at c.in_ok-address.ensures.threads;
      entry = rw begins refl;
    }

pub returns-clause-header : goal.returns-clause-header
returns-clause-header g c = c.in_ok-ctx.ensures.header

pub returns-clause-entry : goal.returns-clause-entry
returns-clause-entry g c =
    let known = c.in_ok-ctx.ensures in
    rw (c.deref.ensures.value, known.cputype) at c.in_ok-address.ensures.found
