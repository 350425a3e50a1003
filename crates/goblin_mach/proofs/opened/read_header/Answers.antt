use Rattle.std.proofs.Common.{rules, arith, inl, inr}
use Rattle.goblin_mach.specs.Image.{LossyFault, HasHeader, no_magic, other_magic, too_many_commands}
use Rattle.goblin_mach.proofs.Headers.{header-known, header-short}
use Rattle.goblin_mach.proofs.Exits.{exit_reported}
use Rattle.goblin_mach.proofs.opened.read_header.Goals as goal

pub returns-in_err-magic-clause-refused : goal.returns-in_err-magic-clause-refused
returns-in_err-magic-clause-refused c =
    exit_reported (LossyFault c.args.bytes.now c.args.offset) _ _ c.from_residual.ensures.1 (no_magic _ c.in_err-magic.ensures)

pub returns-in_default-clause-refused : goal.returns-in_default-clause-refused
returns-in_default-clause-refused c = search (rules, other_magic)

pub returns-in_err-header-clause-refused : goal.returns-in_err-header-clause-refused
returns-in_err-header-clause-refused c =
    exit_reported (LossyFault c.args.bytes.now c.args.offset) _ _ c.from_residual-in_err-header.ensures.1
    (header-short c.in-Some.ctx c.args.bytes.now c.args.offset c.in_ok-magic.magic _ (search rules) c.in_err-header.ensures)

pub returns-then-header-size-clause-refused : goal.returns-then-header-size-clause-refused
returns-then-header-size-clause-refused c =
    let known = header-known c.in-Some.ctx c.args.bytes.now c.args.offset c.in_ok-header.header c.in_ok-header.ensures in
    let held : HasHeader c.args.bytes.now c.args.offset c.in-Some.ctx = record { magic = c.in_ok-magic.magic; magic_is = search rules; room = known.0 } in
    rw known.2 (too_many_commands _ held (rw (← known.2, ← known.3) (elim c.then-header-size.either [ inl h ↦ inl h | inr h ↦ inr h.1 ])))

pub returns : goal.returns
returns c =
    let known = header-known c.in-Some.ctx c.args.bytes.now c.args.offset c.in_ok-header.header c.in_ok-header.ensures in record {
      found = record { magic = c.in_ok-magic.magic; magic_is = search rules; room = known.0 };
      counts = record { ncmds = omega (arith, known.2, known.3); sizeofcmds = omega (arith, known.3) };
      header = known.1;
      ncmds = known.2;
      cputype = known.4;
      refused = tt;
    }
