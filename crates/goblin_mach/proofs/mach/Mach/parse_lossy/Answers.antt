use Rattle.std.proofs.Common.{rules, sym, ◌∙◌, arith}
use Rattle.mach_base.specs.Fault.{fault_of}
use Rattle.goblin_mach.specs.Image.{LossyFault}
use Rattle.goblin_mach.specs.File.{MachFault, no_room, of_fat, of_image}
use Rattle.goblin_mach.proofs.Files.{header-there}
use Rattle.goblin_mach.proofs.FatMagics.{fat_magic-there, fat_magic-other}
use Rattle.goblin_mach.proofs.Exits.{exit_in, exit_reported}
use Rattle.goblin_mach.proofs.mach.Mach.parse_lossy.Goals as goal

pub returns-then-bytes-lt4-clause-refused : goal.returns-then-bytes-lt4-clause-refused
returns-then-bytes-lt4-clause-refused g c = search (rules, no_room)

pub returns-in_err-new-clause-refused : goal.returns-in_err-new-clause-refused
returns-in_err-new-clause-refused g c =
    let fat = fat_magic-there c.args.bytes.now (omega (arith, c.if-bytes-lt4.false)) (sym c.u32_at.ensures ∙ c.if-u32_at.true) in
    exit_reported (MachFault LossyFault c.args.bytes.now) _ _ c.from_residual.ensures.1 (of_fat (fault_of c.in_err-new.field-0.0) fat c.in_err-new.ensures)

pub returns-in_err-parse_lossy-clause-refused : goal.returns-in_err-parse_lossy-clause-refused
returns-in_err-parse_lossy-clause-refused g c =
    let other = fat_magic-other c.args.bytes.now (omega (arith, c.if-bytes-lt4.false)) (λ is. c.if-u32_at.false (c.u32_at.ensures ∙ is)) in
    exit_in _ (MachFault LossyFault c.args.bytes.now) _ _ c.from_residual-in_err-parse_lossy.ensures.1 (λ f fault. of_image f other fault)
    c.in_err-parse_lossy.ensures.refused

pub returns-then-bytes-lt4-clause-fat : goal.returns-then-bytes-lt4-clause-fat
returns-then-bytes-lt4-clause-fat g c = λ is. absurd (let room = is.header in omega (arith, room, c.if-bytes-lt4.true))

pub returns-in_err-new-clause-fat : goal.returns-in_err-new-clause-fat
returns-in_err-new-clause-fat g c = λ is. absurd (header-there c.args.bytes.now (fault_of c.in_err-new.field-0.0) is.header c.in_err-new.ensures)

pub returns-in_err-parse_lossy-clause-fat : goal.returns-in_err-parse_lossy-clause-fat
returns-in_err-parse_lossy-clause-fat g c =
    let other = fat_magic-other c.args.bytes.now (omega (arith, c.if-bytes-lt4.false)) (λ is. c.if-u32_at.false (c.u32_at.ensures ∙ is)) in
    λ is. absurd (other is.magic)
